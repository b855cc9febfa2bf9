use Rattle.std.proofs.Common.{◌≡◌, ◌+◌, length, subst}
use Rattle.osc_coap.specs.{plaintext_spelling}
use Rattle.osc_coap.specs.Plaintext.{Plaintext}
use Rattle.osc_coap.specs.PlaintextRef.{view}
use Rattle.osc_coap.proofs.PlaintextLaws.{length-of_parts}
use Rattle.osc_coap.proofs.plaintext.PlaintextRef.length.Goals as goal

pub returns : goal.returns
returns c =
    subst (λ (p : Plaintext). 1 + length c.self.inside.body.now ≡ length (plaintext_spelling p)) c.self.view_is
    (length-of_parts (view c.self.inside) c.self.inside.body.now c.self.invariant.spelled)
