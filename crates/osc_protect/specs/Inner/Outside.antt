-- What goes outside of a sealed reply. No public contract rests on this.
use Rattle.std.specs.Prelude.{◌≡◌, ◌++◌, ℕ, List, [], None}
use Rattle.osc_coap.specs.{Spells, bare, payload_of, payload_spelling}
use Rattle.osc_coap.specs.Message.{Message}
use Rattle.osc_model.specs.declared.context.ContextName.{ContextName}
use Rattle.osc_model.specs.declared.context.Side.TheVariants.{Server}
use Rattle.osc_options.specs.{protected}
use Rattle.osc_ccm.specs.{Sealings}
use Rattle.osc_context.specs.{algorithm_of, key_of}
use Rattle.osc_protect.specs.Aad.{aad_of}
use Rattle.osc_protect.specs.Protection.{request_nonce, response_value}
use Rattle.osc_protect.specs.declared.header.Header.{Header}

-- the protected response under a request's nonce with this payload, in place of a message with nothing outside
abbrev pub outer_response : Header → List ℕ → Message
outer_response header payload = protected (bare header.kind 68 header.id header.token.now) 68 (response_value None) payload

-- these bytes are that response, and this text is sealed in it
pub record IsSealedOutside (is_sealing : Sealings) (name : ContextName) (number : ℕ) (text : List ℕ) (header : Header) (bytes : List ℕ) : Type 0 where
  pub sealed : List ℕ
  pub is_sealed : is_sealing (algorithm_of name) (key_of name Server) (request_nonce name number) (aad_of name number) text sealed
  pub start : List ℕ
  pub begins : Spells start (outer_response header [])
  pub whole : bytes ≡ start ++ payload_spelling (payload_of sealed)
