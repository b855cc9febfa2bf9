use Rattle.std.proofs.Common.{◌≡◌, ◌∷◌, ◌+◌, List, Some, take, drop, ap, sym, ◌∙◌, arith}
use Rattle.osc_message.specs.{Open, messages, dues, datagram_of, given_up_of}
use Rattle.osc_message.specs.declared.due.Due.{Due}
use Rattle.osc_message.proofs.Marks.{bounded_at_place, due_at_place, has_place_at}
use Rattle.osc_message.proofs.Walk.{added, added_or_lost, one_counted}
use Rattle.osc_message.proofs.tick.make_plan.Goals as goal

pub due_of-due-requires : goal.due_of-due-requires
due_of-due-requires c = bounded_at_place c.args.all.now c.loop-index.index c.index-all-index.result (omega arith) c.index-all-index.is c.requires.sound.sound.bounded

pub loop-index-preserved : goal.loop-index-preserved
loop-index-preserved c =
    let all = c.args.all.now in
    let pace = c.args.pace.now in
    let now = c.args.now in
    let i = c.loop-index.index in
    let x = c.index-all-index.result in
    let one : Open × Due = (x.message, c.due_of-due.result) in
    let rest : List (Open × Due) = dues pace now (messages all) (messages (take (i + 1) all)) (messages (drop (i + 1) all)) in
    let due = c.due_of-due.ensures (messages all) (messages (take i all)) (has_place_at pace all i x (omega arith) c.index-all-index.is c.requires.sound) in
    let split : dues pace now (messages all) (messages (take i all)) (messages (drop i all)) ≡ one ∷ rest =
    due_at_place pace now all i x (omega arith) c.index-all-index.is ∙ ap (λ d. (x.message, d) ∷ rest) (sym due)
    in
    let old = c.loop-index.invariant in
    record {
      dues = added (λ pair. Some pair.1) one _ _ _ _ rest split old.dues c.push_reserved.ensures.items;
      filled = omega (arith, old.filled, c.push_reserved.ensures.len);
      room = c.push_reserved.ensures.capacity ∙ old.room;
      out = added_or_lost datagram_of one c.loop-index.out c.with_copy-out.result _ _ rest split old.out c.with_copy-out.ensures;
      given_up = one_counted given_up_of one _ _ _ _ rest split old.given_up (c.count_given_up-given_up.ensures.value x.message);
      few = omega (arith, old.few, c.count_given_up-given_up.ensures.bound);
    }
