use Rattle.std.proofs.Common.{◌≡◌, ℕ, List, [], ◌∷◌, length, refl, arith}
use Rattle.osc_cbor.specs.{head, spelling}
use Rattle.osc_authz.specs.{answer_item}
use Rattle.osc_authz.proofs.laws.lengths_of_answers.Goals as goal

by : (nonce : List ℕ) (id : ℕ) → length nonce ≡ 8 → length (spelling (answer_item nonce (id ∷ []))) ≡ 16
unfolding head
by (a ∷ b ∷ c ∷ d ∷ e ∷ f ∷ g ∷ h ∷ []) id size = refl
by _ id size = absurd (omega arith)

pub returns : goal.returns
returns c = by
