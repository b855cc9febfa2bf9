-- How many segments a path has.
use Rattle.std.proofs.Common.{◌≡◌, ℕ, true, ◌==◌, List, [], ◌∷◌, ◌++◌, length, refl, sym, ap, subst, arith}
use Rattle.std.specs.List.{count_by, slice_split}
use Rattle.std.proofs.lemmas.List.Splits.{length-slice_split, slice_split-cons_yes}
use Rattle.osc_model.specs.{are_segments, path_text, segments_of, IsPath}

from_first : (rest : List ℕ) → count_by (λ b. b == 47) (47 ∷ rest) ≡ length (slice_split (λ b. b == 47) rest)
from_first rest =
    let more : length (slice_split (λ b. b == 47) (47 ∷ rest)) ≡ length ([] ∷ slice_split (λ b. b == 47) rest) = ap length (slice_split-cons_yes (λ b. b == 47) 47 rest refl) in
    omega (arith, length-slice_split (λ b. b == 47) (47 ∷ rest), more)

of_segments : (text : List ℕ) (segments : List (List ℕ)) → are_segments segments ≡ true → text ≡ path_text segments → count_by (λ b. b == 47) text ≡ length (segments_of text)
of_segments text [] lawful e = cc
of_segments text (segment ∷ segments) lawful e = subst (λ (t : List ℕ). count_by (λ b. b == 47) t ≡ length (segments_of t)) (sym e) (from_first (segment ++ path_text segments))

-- as many as there are slashes in its text
pub one_a_slash : (text : List ℕ) → IsPath text → count_by (λ b. b == 47) text ≡ length (segments_of text)
one_a_slash text path = of_segments text path.segments path.lawful path.spelled
