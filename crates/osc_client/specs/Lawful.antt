-- What is true of each client, as its parts and its invariants say.
use Rattle.std.specs.Prelude.{◌≡◌, [], None, IfSome, length}
use Rattle.osc_protect.specs.{HasShortContext}
use Rattle.osc_client.specs.State.{State}
use Rattle.osc_client.specs.Route.{IsLawfulOrigin}

-- No message is open where nothing waits; an id context is short enough for OSCORE's option; the host of a server behind a proxy can be
-- a Uri-Host; and what waits does so under a token of 8 bytes.
pub record IsLawfulClient (client : State) : Type 0 where
  pub still : client.waiting ≡ None → client.endpoint.sending ≡ []
  pub context : IfSome client.context (λ context. HasShortContext context.name)
  pub origin : IfSome client.origin IsLawfulOrigin
  pub token : IfSome client.waiting (λ waiting. length waiting.token ≡ 8)
