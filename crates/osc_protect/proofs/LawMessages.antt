-- What a protected message says is what it was made of.
use Rattle.std.proofs.Common.{◌≡◌, ℕ, ◌<◌, ◌≤◌, List, [], ◌∷◌, length, Option, Some, None, refl, ap, ◌∙◌, arith}
use Rattle.std.specs.Prelude.{IfSome}
use Rattle.osc_model.specs.declared.algorithm.Algorithm.{Algorithm}
use Rattle.osc_model.specs.declared.context.ContextName.{ContextName}
use Rattle.osc_model.specs.declared.context.Side.TheVariants.{Client, Server}
use Rattle.osc_coap.specs.Message.{Message}
use Rattle.osc_coap.specs.{plaintext_spelling, payload_of}
use Rattle.osc_coap.specs.Plaintext.{Plaintext}
use Rattle.osc_options.specs.{value, plaintext_of, protected}
use Rattle.osc_context.specs.{algorithm_of, key_of, greatest_number}
use Rattle.osc_protect.specs.{aad_of, HasShortContext, plain_bytes, request_nonce, response_nonce, request_value, response_value, IsProtectedRequest, IsProtectedResponse, SealedRequest, IsRequest, IsFor, SealedResponse, IsResponse}
use Rattle.osc_ccm.specs.{Sealings, Tags, SealsOneText, IsLongerBy}

-- ---- the payload

payload_written : (bytes : List ℕ) → 0 < length bytes → payload_of bytes ≡ Some bytes
payload_written [] some = absurd (omega arith)
payload_written (b ∷ bytes) some = refl

plaintext-some : (p : Plaintext) → 0 < length (plaintext_spelling p)
unfolding plaintext_spelling
plaintext-some p = omega arith

-- ---- whole messages, under any cipher

context_fits : (context : Option (List ℕ)) → IfSome context (λ bytes. length bytes ≤ 64) → IfSome context (λ bytes. length bytes < 256)
context_fits None short = tt
context_fits (Some bytes) short = omega arith

module _ (is_sealing : Sealings) (tag : Tags)
    (one_text : (algorithm : Algorithm) → SealsOneText (is_sealing algorithm))
    (sealed_length : (algorithm : Algorithm) → IsLongerBy (tag algorithm) (is_sealing algorithm))
    (option_nine : (m : Message) (code : ℕ) (bytes payload : List ℕ) → value 9 (protected m code bytes payload).options ≡ Some bytes) where
  pub request_says : (name : ContextName) (number : ℕ) (m p : Message) → HasShortContext name → number ≤ greatest_number → IsProtectedRequest is_sealing name number m p
      → (request : SealedRequest) × IsRequest p request × (request.number ≡ number) × IsFor name request
      × is_sealing (algorithm_of name) (key_of name Client) (request_nonce name number) (aad_of name number) (plain_bytes m) request.sealed
      × ((text : List ℕ) → is_sealing (algorithm_of name) (key_of name Client) (request_nonce name number) (aad_of name number) text request.sealed → text ≡ plain_bytes m)
  request_says name number m p short fits made =
      let request : SealedRequest = record { number = number; kid = name.client_id; kid_context = name.id_context; sealed = made.sealed } in
      let some : 0 < length made.sealed = omega (arith, sealed_length (algorithm_of name) _ _ _ _ _ made.is_sealed, plaintext-some (plaintext_of m)) in
      let says : IsRequest p request = record {
        bytes = request_value name number;
        option = ap (λ (q : Message). value 9 q.options) made.whole ∙ option_nine m 2 (request_value name number) made.sealed;
        says = record {
          spelled = record { lawful = record { number = fits; kid_context = context_fits name.id_context short }; whole = refl };
          payload = ap (λ (q : Message). q.payload) made.whole ∙ payload_written made.sealed some;
        };
      } in
      (request, says, refl, record { kid = refl; kid_context = λ bytes same. same }, made.is_sealed, λ text opens. one_text (algorithm_of name) _ _ _ _ _ _ opens made.is_sealed)

  pub response_says : (name : ContextName) (number : ℕ) (own : Option ℕ) (m p : Message) → IfSome own (λ n. n ≤ greatest_number) → IsProtectedResponse is_sealing name number own m p
      → (response : SealedResponse) × IsResponse p response × (response.own ≡ own)
      × is_sealing (algorithm_of name) (key_of name Server) (response_nonce name number own) (aad_of name number) (plain_bytes m) response.sealed
      × ((text : List ℕ) → is_sealing (algorithm_of name) (key_of name Server) (response_nonce name number own) (aad_of name number) text response.sealed → text ≡ plain_bytes m)
  response_says name number own m p fits made =
      let response : SealedResponse = record { own = own; sealed = made.sealed } in
      let some : 0 < length made.sealed = omega (arith, sealed_length (algorithm_of name) _ _ _ _ _ made.is_sealed, plaintext-some (plaintext_of m)) in
      let says : IsResponse p response = record {
        bytes = response_value own;
        kid_context = None;
        kid = None;
        option = ap (λ (q : Message). value 9 q.options) made.whole ∙ option_nine m 68 (response_value own) made.sealed;
        spelled = record { lawful = record { number = fits; kid_context = tt }; whole = refl };
        payload = ap (λ (q : Message). q.payload) made.whole ∙ payload_written made.sealed some;
      } in
      (response, says, refl, made.is_sealed, λ text opens. one_text (algorithm_of name) _ _ _ _ _ _ opens made.is_sealed)
