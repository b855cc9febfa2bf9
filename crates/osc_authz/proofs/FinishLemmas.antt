-- The outcome of an exchange.
use Rattle.std.proofs.Common.{◌≡◌, ℕ, Bool, true, false, not, nat_eq, eqb-true, List, [], ◌∷◌, sym, ap, ◌∙◌}
use Rattle.std.specs.Prelude.{Result, Ok}
use Rattle.std.proofs.lemmas.Bool.{false≢true}
use Rattle.osc_model.specs.{code}
use Rattle.osc_model.specs.declared.code.Code.{Code}
use Rattle.osc_authz.specs.{ClientContextState, Finishes, another_code, no_answer, equal_ids, made, made_name, IsAnswer}
use Rattle.osc_authz.specs.Begun.{Begun}
use Rattle.osc_authz.specs.declared.error.FinishError.{FinishError}
use Rattle.osc_authz.specs.declared.granted.ClientDesk.{ClientDesk}

with_number : ℕ → Code
with_number n = record { 0 = n }

code_if : (n : ℕ) (b : Bool) → nat_eq n 65 ≡ b → false ≡ not b → n ≡ 65
code_if n true e h = eqb-true n 65 e
code_if n false e h = absurd (false≢true h)

-- the code that passed the test is 2.01
pub code_is : (came : Code) (b : Bool) → b ≡ not (nat_eq came.0 65) → b ≡ false → came ≡ code 2 1
unfolding with_number
code_is came b e h = ap with_number (code_if came.0 (nat_eq came.0 65) (λ i. nat_eq came.0 65) (sym h ∙ e))

-- ---- it has one outcome

module _ (one_answer : (payload nonce2 server_id nonces ids : List ℕ) → IsAnswer payload nonce2 server_id → IsAnswer payload nonces ids → (nonce2 ≡ nonces) × (server_id ≡ ids)) where
  pub finishes_once : (desk : ClientDesk) (begun : Begun) (came : Code) (payload : List ℕ) (result other : Result ClientContextState FinishError)
      → Finishes desk begun came payload result → Finishes desk begun came payload other → result ≡ other
  finishes_once desk begun came payload result other (another_code differs is) (another_code differs2 is') = is ∙ sym is'
  finishes_once desk begun came payload result other (another_code differs is) (no_answer its none is') = absurd (differs its)
  finishes_once desk begun came payload result other (another_code differs is) (equal_ids nonce2 its answer is') = absurd (differs its)
  finishes_once desk begun came payload result other (another_code differs is) (made nonce2 id its answer apart is') = absurd (differs its)
  finishes_once desk begun came payload result other (no_answer its none is) (another_code differs is') = absurd (differs its)
  finishes_once desk begun came payload result other (no_answer its none is) (no_answer its2 none' is') = is ∙ sym is'
  finishes_once desk begun came payload result other (no_answer its none is) (equal_ids nonce2 its2 answer is') = absurd (none nonce2 (begun.recipient_id ∷ []) answer)
  finishes_once desk begun came payload result other (no_answer its none is) (made nonce2 id its2 answer apart is') = absurd (none nonce2 id answer)
  finishes_once desk begun came payload result other (equal_ids nonce2 its answer is) (another_code differs is') = absurd (differs its)
  finishes_once desk begun came payload result other (equal_ids nonce2 its answer is) (no_answer its2 none is') = absurd (none nonce2 (begun.recipient_id ∷ []) answer)
  finishes_once desk begun came payload result other (equal_ids nonce2 its answer is) (equal_ids nonces its2 answer' is') = is ∙ sym is'
  finishes_once desk begun came payload result other (equal_ids nonce2 its answer is) (made nonces id its2 answer' apart is') =
      absurd (apart (sym (one_answer payload nonce2 (begun.recipient_id ∷ []) nonces id answer answer').1))
  finishes_once desk begun came payload result other (made nonce2 id its answer apart is) (another_code differs is') = absurd (differs its)
  finishes_once desk begun came payload result other (made nonce2 id its answer apart is) (no_answer its2 none is') = absurd (none nonce2 id answer)
  finishes_once desk begun came payload result other (made nonce2 id its answer apart is) (equal_ids nonces its2 answer' is') =
      absurd (apart (one_answer payload nonce2 id nonces (begun.recipient_id ∷ []) answer answer').1)
  finishes_once desk begun came payload result other (made nonce2 id its answer apart is) (made nonces ids its2 answer' apart' is') =
      let same = one_answer payload nonce2 id nonces ids answer answer' in
      is ∙ ap (λ (n : List ℕ). Ok (record { name = made_name desk begun n id; next = 0 })) same.0
      ∙ ap (λ (i : List ℕ). Ok (record { name = made_name desk begun nonces i; next = 0 })) same.1 ∙ sym is'
