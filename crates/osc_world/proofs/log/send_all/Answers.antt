use Rattle.std.proofs.Common.{◌≡◌, ◌++◌, map, ap, sym, ◌∙◌, length, [], append-nil, refl, arith, rules}
use Rattle.osc_world.specs.{sent_from}
use Rattle.osc_world.proofs.Sending.{no_items, sent_more}
use Rattle.osc_world.proofs.log.send_all.Goals as goal

pub loop-to-init : goal.loop-to-init
loop-to-init c =
    let all : c.into_iter-to-iterator.result.rest.items ≡ c.args.out.items = search rules in
    record {
      moves = ap (λ xs. c.args.sent.now.items ++ map (sent_from c.args.at) xs) all;
      room = omega (arith, ap length all, c.requires);
    }

pub push_reserved-requires : goal.push_reserved-requires
push_reserved-requires c = omega (arith, ap length c.in-Some.ensures.steps.0, c.loop-to.invariant.room)

pub loop-to-preserved : goal.loop-to-preserved
loop-to-preserved c =
    let split = c.in-Some.ensures.steps.0 in
    let before = c.loop-to.invariant in
    record {
      moves = sent_more c.args.at c.loop-to.sent.items c.push_reserved.new.self.items _ c.in-Some.field-0 c.loop-to.to-iterator.rest.items c.next.new.self.rest.items
          c.push_reserved.ensures.items split
          refl ∙ before.moves;
      room = omega (arith, ap length split, before.room, c.push_reserved.ensures.len, c.push_reserved.ensures.capacity);
    }

pub returns : goal.returns
returns c =
    let none : c.loop-to.to-iterator.rest.items ≡ [] = no_items c.loop-to.to-iterator.rest.items (omega (arith, c.in-None.ensures.steps.0, c.loop-to.to-iterator.rest.ok.0)) in
    sym (append-nil c.loop-to.sent.items) ∙ ap (λ xs. c.loop-to.sent.items ++ map (sent_from c.args.at) xs) (sym none) ∙ c.loop-to.invariant.moves
