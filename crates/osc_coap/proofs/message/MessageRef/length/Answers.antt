use Rattle.std.proofs.Common.{◌≡◌, ◌+◌, length, subst}
use Rattle.osc_coap.specs.{spelling, view}
use Rattle.osc_coap.specs.Message.{Message}
use Rattle.osc_coap.proofs.LengthLaws.{length-of_parts}
use Rattle.osc_coap.proofs.message.MessageRef.length.Goals as goal

pub returns : goal.returns
returns c =
    subst (λ (m : Message). 4 + length c.self.inside.token.now + length c.self.inside.body.now ≡ length (spelling m)) c.self.view_is
    (length-of_parts (view c.self.inside) c.self.inside.body.now c.self.invariant.spelled)
