-- The client's end of an exchange.
use Rattle.std.specs.Prelude.{◌≡◌, ◌≢◌, ℕ, if◌then◌else◌, List, [], ◌∷◌, bytes_eq, Option, Some, None, Result, Ok, Err}
use Rattle.osc_model.specs.{code}
use Rattle.osc_model.specs.declared.code.Code.{Code}
use Rattle.osc_model.specs.declared.context.ContextName.{ContextName}
use Rattle.osc_context.specs.{master_salt}
use Rattle.osc_authz.specs.Exchange.{IsAnswer}
use Rattle.osc_authz.specs.declared.granted.ClientDesk.{ClientDesk}
use Rattle.osc_authz.specs.Begun.{Begun, ClientContextState}
use Rattle.osc_authz.specs.declared.error.FinishError.{FinishError}
use Rattle.osc_authz.specs.declared.error.FinishError.TheVariants.{Fields, EqualIds}

-- The recipient ID that the client offers is 00, or 01 where its context has that already.
abbrev pub offered_id : Option ClientContextState → ℕ
offered_id None = 0
offered_id (Some made) = if bytes_eq made.name.server_id (0 ∷ []) then 1 else 0

-- the name of the context that an answer makes (RFC 9203 section 4.3)
abbrev pub made_name : ClientDesk → Begun → List ℕ → List ℕ → ContextName
made_name desk begun nonce2 server_id = record {
  secret = desk.secret;
  salt = master_salt desk.salt begun.nonce1 nonce2;
  id_context = desk.id_context;
  client_id = server_id;
  server_id = begun.recipient_id ∷ [];
  alg = desk.alg;
}

-- the outcome of an exchange with an answer of this code and payload
pub data Finishes (desk : ClientDesk) (begun : Begun) (came : Code) (payload : List ℕ) (result : Result ClientContextState FinishError) : Type 0 where
  another_code : came ≢ code 2 1 → result ≡ Err Fields → Finishes desk begun came payload result
  no_answer : came ≡ code 2 1 → ((nonce2 server_id : List ℕ) → ¬ IsAnswer payload nonce2 server_id)
      → result ≡ Err Fields → Finishes desk begun came payload result
  equal_ids : (nonce2 : List ℕ) → came ≡ code 2 1 → IsAnswer payload nonce2 (begun.recipient_id ∷ [])
      → result ≡ Err EqualIds → Finishes desk begun came payload result
  made : (nonce2 server_id : List ℕ) → came ≡ code 2 1 → IsAnswer payload nonce2 server_id
      → server_id ≢ begun.recipient_id ∷ []
      → result ≡ Ok (record { name = made_name desk begun nonce2 server_id; next = 0 }) → Finishes desk begun came payload result
