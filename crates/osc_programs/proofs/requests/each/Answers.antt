use Rattle.std.proofs.Common.{◌≡◌, ◌∙◌, List, ℕ, [], ◌∷◌, ◌++◌, refl, subst, sym}
use Rattle.std.specs.Io.KnownBytes.{Appends}
use Rattle.std.proofs.lemmas.Result.{err_from_is_err_and}
use Rattle.osc_programs.specs.{nothing_passed, then_passed}
use Rattle.osc_programs.specs.Conversation.{outcome_text}
use Rattle.osc_programs.specs.Staying.{ends_text, nothing_yet}
use Rattle.osc_programs.proofs.Appended.{appends_more, appends_none}
use Rattle.osc_programs.proofs.Passing.{passes_more, passes_none}
use Rattle.osc_programs.proofs.Staying.{ended_more, stays_all, stays_more, stays_skipped, text_more}
use Rattle.osc_programs.proofs.requests.each.Goals as goal
use Rattle.osc_programs.proofs.requests.each.Goals.{in-Some+in_ok-end+in_ok-well, in_default}

pub loop-entry-init : goal.loop-entry-init
loop-entry-init g c = ([], nothing_passed, nothing_yet, passes_none g.P.Port.received g.P.Port.sent _, refl, appends_none (g.W.Write.contents c.args.writer.now))

pub loop-entry-preserved : goal.loop-entry-preserved
loop-entry-preserved g c =
    let so_far = c.loop-entry.invariant in
    let items = c.args.asked.now.requests.items in
    let lt = rw c.deref-entry-items.ensures.value at c.loop-entry-test.true in
    let item = rw c.deref-entry-items.ensures.value at c.entry-item.is in
    elim c.match-entry.branch [
      | in-Some+in_ok-end+in_ok-well w ↦
          let one = w.in_ok-end.ensures.attended in
          let told = w.in_ok-well.ensures.told in
          rw (w.port-is, w.staying-is, w.writer-is, w.ended-is) (
            so_far.0 ++ w.in_ok-end.end ∷ [],
            then_passed so_far.1 one.0,
            stays_more c.args.asked.now.manner _ _ items c.loop-entry.entry-index c.entry-item.result _ w.in_ok-end.end one.0 _ _ _ lt (sym item ∙ w.in-Some.is) so_far.2 one.1,
            passes_more g.P.Port.received g.P.Port.sent _ _ _ so_far.1 one.0 so_far.3 one.2,
            ended_more so_far.0 w.in_ok-end.end c.loop-entry.ended _ w.in_ok-well.well so_far.4 told.0 w.ended_with-ended.ensures,
            subst (λ (text : List ℕ). Appends (g.W.Write.contents c.args.writer.now) (g.W.Write.contents w.tell.new.writer) text) (sym (text_more so_far.0 w.in_ok-end.end))
                (appends_more _ _ _ (ends_text so_far.0) (outcome_text w.in_ok-end.end.outcome) so_far.5 told.1),
          )
      | in_default w ↦
          rw (w.port-is, w.staying-is, w.writer-is, w.ended-is) (
            so_far.0,
            so_far.1,
            stays_skipped c.args.asked.now.manner _ _ items c.loop-entry.entry-index c.entry-item.result lt (sym item ∙ w.in_default.is) so_far.2,
            so_far.3,
            so_far.4,
            so_far.5,
          )
    ]

pub returns-in_err-well-clause-ends : goal.returns-in_err-well-clause-ends
returns-in_err-well-clause-ends g c =
    let p = err_from_is_err_and c.from_residual-in_err-well.result c.from_residual-in_err-well.ensures.1 in
    rw (p.1, p.2) (c.in-Some.request, c.in_err-well.ensures.ends c.in-Some.request)

pub returns-clause-stays : goal.returns-clause-stays
returns-clause-stays g c =
    let so_far = c.loop-entry.invariant in
    let le = rw c.deref-entry-items.ensures.value at c.loop-entry-test.false in (
      record {
        client = record { node = c.loop-entry.staying.talking.client; busy = c.loop-entry.staying.talking.pace.busy_since; supply = c.loop-entry.staying.talking.supply };
        due = c.loop-entry.staying.due;
        stale = c.loop-entry.staying.stale;
        ends = so_far.0;
        passed = so_far.1;
      },
      stays_all c.args.asked.now.manner _ _ c.args.asked.now.requests.items c.loop-entry.entry-index le so_far.2,
      so_far.3,
      so_far.4,
      so_far.5,
    )
