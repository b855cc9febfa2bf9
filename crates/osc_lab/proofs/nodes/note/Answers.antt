use Rattle.std.proofs.Common.{◌∙◌, ap, ◌∷◌}
use Rattle.osc_run.specs.{Kept, Noted}
use Rattle.osc_lab.proofs.Labs.{stops_if}
use Rattle.osc_lab.proofs.nodes.note.Goals as goal

pub returns-clause-stopped : goal.returns-clause-stopped
returns-clause-stopped g c =
    stops_if c.tell_result-told.result c.args.who.cast.clients.now c.args.who.number c.args.step _ _ _ _
    (ap (λ (kept : Kept). kept.steps) c.add.ensures ∙ ap (λ (noted : Noted). noted ∷ c.args.notes.now.steps) c.by_client.ensures) c.tell_result-told.ensures.untold
