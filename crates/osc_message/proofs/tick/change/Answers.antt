use Rattle.std.proofs.Common.{◌≡◌, take, drop, ◌∷◌, [], ap, subst, sym, ◌∙◌, arith}
use Rattle.std.proofs.lemmas.List.{map-append}
use Rattle.std.specs.List.{remove}
use Rattle.osc_message.specs.{ArePlaced, messages, placed}
use Rattle.osc_message.proofs.Marks.{placed_set, placed_remove, front_removed, back_removed}
use Rattle.osc_message.proofs.Walk.{taken_at, dropped_at}
use Rattle.osc_message.proofs.tick.change.Goals as goal

pub returns-in-Keep-clause-front : goal.returns-in-Keep-clause-front
returns-in-Keep-clause-front c = λ queued later split.
    rw c.in-Keep.is
    (ap messages (taken_at c.args.sending.now.items c.args.place queued later (omega arith) split)
    ∙ map-append (λ q. q.message) (take c.args.place c.args.sending.now.items) (queued ∷ []))

pub returns-in-Keep-clause-back : goal.returns-in-Keep-clause-back
returns-in-Keep-clause-back c = λ queued later split. ap messages (dropped_at c.args.sending.now.items c.args.place queued later (omega arith) split)

pub returns-in-Send-clause-placed : goal.returns-in-Send-clause-placed
returns-in-Send-clause-placed c = λ places.
    placed_set c.args.sending.now.items c.args.place _ c.index_mut.result.now (ap (λ q. q.place) c.index_mut.ensures.value)
    (ap (λ m. m.to) c.go_out.ensures ∙ ap (λ q. q.message.to) c.index_mut.ensures.value) places

left : (c : goal.After-drop-given_up) → c.place_again.new.queue.items ≡ placed c.remove-given_up.result.message.to 0 (remove c.args.sending.now.items c.args.place)
left c = c.place_again.ensures.items ∙ ap (placed c.remove-given_up.result.message.to 0) c.remove-given_up.ensures.items

pub returns-in-GiveUp-clause-front : goal.returns-in-GiveUp-clause-front
returns-in-GiveUp-clause-front c = λ queued later split.
    rw c.in-GiveUp.is
    (ap (λ xs. messages (take c.args.place xs)) (left c)
    ∙ front_removed c.remove-given_up.result.message.to c.args.sending.now.items c.args.place)

pub returns-in-GiveUp-clause-back : goal.returns-in-GiveUp-clause-back
returns-in-GiveUp-clause-back c = λ queued later split.
    ap (λ xs. messages (drop c.args.place xs)) (left c)
    ∙ back_removed c.remove-given_up.result.message.to c.args.sending.now.items c.args.place queued later split

pub returns-in-GiveUp-clause-placed : goal.returns-in-GiveUp-clause-placed
returns-in-GiveUp-clause-placed c = λ places.
    subst ArePlaced (sym (left c)) (placed_remove c.args.sending.now.items c.args.place c.remove-given_up.result c.remove-given_up.ensures.value places)
