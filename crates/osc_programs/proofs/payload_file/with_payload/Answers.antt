use Rattle.std.proofs.Common.{◌∙◌, sym}
use Rattle.osc_programs.proofs.PayloadFiles.{holds, needs_none}
use Rattle.osc_programs.proofs.payload_file.with_payload.Goals as goal

pub returns-in_ok-payload : goal.returns-in_ok-payload
returns-in_ok-payload g c = holds c.args.words c.filled.result _ _ c.in_ok-payload.payload (sym c.is_some-stands.ensures ∙ c.if-stands.true) c.in_ok-payload.ensures.within c.in_ok-payload.ensures.bytes
    c.filled.ensures

pub returns-else-stands : goal.returns-else-stands
returns-else-stands g c = needs_none c.args.words _ _ (sym c.is_some-stands.ensures ∙ c.if-stands.false)
