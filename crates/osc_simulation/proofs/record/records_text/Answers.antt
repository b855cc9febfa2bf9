use Rattle.std.proofs.Common.{◌≡◌, ◌∙◌, ◌+◌, ◌++◌, ap, sym, subst, drop, List, ℕ}
use Rattle.std.proofs.Math.ListN.{drop_of_length-le}
use Rattle.osc_simulation.specs.{PrintAllRecords}
use Rattle.osc_simulation.proofs.Printing.{events_left, events_more, events_end}
use Rattle.osc_simulation.proofs.record.records_text.Goals as goal

pub loop-event-preserved : goal.loop-event-preserved
loop-event-preserved c =
    let all = c.args.records.now in
    let here = c.loop-event in
    let printed = c.in_ok-more.more.items in
    let grown : c.extend_from_slice.new.self.items ≡ here.text.items ++ printed =
    c.in_ok-extend_from_slice.ensures.items ∙ ap (λ bytes. here.text.items ++ bytes) c.deref.ensures.value in
    subst
    (λ text. (rest : List ℕ) → PrintAllRecords c.args.with_bytes c.args.clients.now c.args.world.now (drop (here.event-index + 1) all) rest
    → PrintAllRecords c.args.with_bytes c.args.clients.now c.args.world.now all (text ++ rest)) (sym grown)
    (events_more c.args.with_bytes c.args.clients.now c.args.world.now (drop here.event-index all) (drop (here.event-index + 1) all) _ here.text.items printed
    (PrintAllRecords c.args.with_bytes c.args.clients.now c.args.world.now all) (events_left all here.event-index _ c.loop-event-test.true) c.in_ok-more.ensures here.invariant)

pub returns : goal.returns
returns c =
    let here = c.loop-event in
    events_end c.args.with_bytes c.args.clients.now c.args.world.now (drop here.event-index c.args.records.now) here.text.items
    (PrintAllRecords c.args.with_bytes c.args.clients.now c.args.world.now c.args.records.now) (drop_of_length-le c.args.records.now c.loop-event-test.false) here.invariant
