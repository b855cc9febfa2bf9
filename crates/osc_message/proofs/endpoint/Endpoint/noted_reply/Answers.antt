use Rattle.std.proofs.Common.{subst, sym}
use Rattle.osc_message.specs.{IsSendableReply}
use Rattle.osc_message.proofs.Notes.{looked_fits}
use Rattle.osc_message.proofs.endpoint.Endpoint.noted_reply.Goals as goal

pub returns-clause-short : goal.returns-clause-short
returns-clause-short g c =
    subst IsSendableReply (sym c.as_ref.ensures.value)
    (looked_fits c.self.inside.seen c.args.now c.args.from c.args.id c.in_ok-look.field-0.now c.self.invariant.4 (sym c.in_ok-look.ensures))
