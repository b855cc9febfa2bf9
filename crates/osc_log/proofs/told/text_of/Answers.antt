use Rattle.std.proofs.Common.{◌∙◌, ℕ, List, ap, subst}
use Rattle.std.proofs.lemmas.Result.{IfOk-weaker}
use Rattle.osc_log.specs.{IsTime, turn_text}
use Rattle.osc_log.proofs.told.text_of.Goals as goal

pub returns : goal.returns
returns g c =
    let time = subst (λ now. IsTime now c.time_text-time.result.bytes) c.moment.ensures c.time_text-time.ensures in
    IfOk-weaker c.text_at.result _ _
    (λ text told. (c.time_text-time.result.bytes, time, told ∙ ap (λ (at : List ℕ). turn_text c.args.form at c.args.seen.now c.args.turn.now (g.N.TellsHeld.held c.args.node.now)) c.as_str.ensures.value))
    c.text_at.ensures
