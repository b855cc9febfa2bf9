use Rattle.std.proofs.Common.{◌∙◌, ap, subst, drop}
use Rattle.std.proofs.lemmas.Result.{IfOk-weaker}
use Rattle.osc_simulation.specs.{PrintAllRecords, behind_number}
use Rattle.osc_simulation.proofs.simulate.line_text.Goals as goal

pub returns : goal.returns
returns c =
    let world = c.does.new.self.world in
    let events = c.in_ok-text.text.items in
    IfOk-weaker c.behind_number.result _ _
    (λ text is. (
      c.in_ok-quiet.quiet,
      events,
      c.in_ok-quiet.ensures,
      subst (λ before. PrintAllRecords c.args.form.bytes c.args.names.now.clients world (drop before world.records) events) c.count_events-before.ensures c.in_ok-text.ensures,
      is ∙ ap (behind_number c.args.form.lines c.args.number) c.in_ok-add_quiet.ensures,
    )) c.behind_number.ensures
