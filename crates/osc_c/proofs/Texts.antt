-- How many segments a path of a text has.
use Rattle.std.proofs.Common.{◌≡◌, ◌==◌, ◌≤◌, ◌∙◌, ◌+◌, ◌∷◌, IsTrue, List, ℕ, ap, arith, length, nat_lt, sym}
use Rattle.std.specs.List.{count_by}
use Rattle.std.proofs.lemmas.Bool.Decides.{nat_tests}
use Rattle.std.proofs.lemmas.List.Splits.{length-slice_split}
use Rattle.osc_model.specs.{segments_of}

-- one more than there are slashes after its first byte
pub few_slashes : (text rest : List ℕ) (first number : ℕ) → text ≡ first ∷ rest → number ≡ count_by (λ b. b == 47) rest
    → (IsTrue (nat_lt number 4) → length (segments_of text) ≤ 4) × (length (segments_of text) ≤ 4 → IsTrue (nat_lt number 4))
few_slashes text rest first number is count =
    let more : length (segments_of text) ≡ number + 1 = ap (λ t. length (segments_of t)) is ∙ length-slice_split (λ b. b == 47) rest ∙ ap (λ n. n + 1) (sym count) in
    (λ few. grind (arith, nat_tests), λ few. grind (arith, nat_tests))
