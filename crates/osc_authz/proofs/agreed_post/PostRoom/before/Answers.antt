use Rattle.std.proofs.Common.{rules, arith, ◌≡◌, ◌∙◌, ◌++◌, ap, sym, take}
use Rattle.std.proofs.lemmas.List.{map-id}
use Rattle.std.proofs.lemmas.Iterator.Adapters.{YieldsList-from_vec}
use Rattle.std.proofs.lemmas.Iterator.Consumers.{YieldsList-end}
use Rattle.osc_authz.proofs.RoomLemmas.{none_fits, one_fits, take_all}
use Rattle.osc_authz.proofs.agreed_post.PostRoom.before.Goals as goal

pub older-init : goal.older-init
older-init c = record {
  so_far = take_all c.args.self.most c.args.self.posts.items (omega (arith, c.requires.few, c.args.self.posts.ok));
  capacity = search rules;
}

pub push_reserved-requires : goal.push_reserved-requires
push_reserved-requires c = omega (arith, c.len.ensures, c.from.ensures, c.if-len-from.true, c.older.invariant.capacity, c.requires.capacity)

pub older-preserved-then-len-from : goal.older-preserved-then-len-from
older-preserved-then-len-from c = record {
  so_far = c.push_reserved.ensures.items
      ∙ one_fits c.args.self.most c.args.self.posts.items c.older.yielded c.older.posts.items c.in-Some.post c.older.invariant.so_far
      (omega (arith, c.older.posts.ok, c.len.ensures, c.from.ensures, c.if-len-from.true));
  capacity = c.push_reserved.ensures.capacity ∙ c.older.invariant.capacity;
}

pub older-preserved : goal.older-preserved
older-preserved c = record {
  so_far = none_fits c.args.self.most c.args.self.posts.items c.older.yielded c.older.posts.items c.in-Some.post c.older.invariant.so_far
      (omega (arith, c.older.posts.ok, c.len.ensures, c.from.ensures, c.if-len-from.false));
  capacity = c.older.invariant.capacity;
}

pub returns : goal.returns
returns c =
    let items = c.into_iter-post-iterator.ensures.into_iter_gives in
    let parts = YieldsList-from_vec {s = c.into_iter-post-iterator.result} c.older-2.inside.posts.items items.0 (omega (arith, items.1, c.older-2.inside.posts.ok)) in
    let all : c.older.yielded ≡ c.args.older =
    sym (map-id c.older.yielded) ∙ (YieldsList-end parts c.older.yielded c.older.post-iterator c.older.yielded_by c.next.result c.next.new.self c.in-None.is c.next.ensures.steps).0 ∙ c.older-2.view_is in
    c.older.invariant.so_far ∙ ap (λ older. take c.args.self.most (c.args.self.posts.items ++ older)) all
