-- A sum modulo 65535 that goes on.
use Rattle.std.proofs.Common.{◌≡◌, ◌∙◌, ap, sym, refl, ℕ, ◌+◌, ◌%◌, ◌<◌, ◌≤◌, Bool, not, true, List, [], ◌∷◌, length, drop, get_or, add-one, arith}
use Rattle.std.proofs.Math.Seq.{drop-cons}
use Rattle.std.proofs.lemmas.List.{drop_all}
use Rattle.osc_diagram.specs.Chart.Capture.{sum_of_pairs, weight}

pub bytes_left : (bytes : List ℕ) (i : ℕ) → i < length bytes → drop i bytes ≡ get_or bytes i 0 ∷ drop (i + 1) bytes
bytes_left bytes i lt = rw (add-one, drop-cons bytes i 0 lt) refl

pub one_more : (s w r : ℕ) → ((s + w) % 65535 + r) % 65535 ≡ (s + (w + r)) % 65535
one_more s w r = omega arith

-- one byte more
pub byte_more : (high : Bool) (left left-after : List ℕ) (byte sum counts whole : ℕ) → left ≡ byte ∷ left-after → counts ≡ weight high byte
    → (sum + sum_of_pairs high left) % 65535 ≡ whole → ((sum + counts) % 65535 + sum_of_pairs (not high) left-after) % 65535 ≡ whole
byte_more high left left-after byte sum counts whole e f so_far =
    let after = sum_of_pairs (not high) left-after in
    one_more sum counts after ∙ (ap (λ n. (sum + (n + after)) % 65535) f ∙ (ap (λ bytes. (sum + sum_of_pairs high bytes) % 65535) (sym e) ∙ so_far))

pub below : (n : ℕ) → n % 65535 < 65535
below n = omega arith

pub none_left : (sum whole : ℕ) → sum < 65535 → (sum + 0) % 65535 ≡ whole → sum ≡ whole
none_left sum whole few e = omega arith

-- at the end nothing is left
pub at_end : (high : Bool) (bytes : List ℕ) (i sum whole : ℕ) → length bytes ≤ i → sum < 65535
    → (sum + sum_of_pairs high (drop i bytes)) % 65535 ≡ whole → sum ≡ whole
at_end high bytes i sum whole gone few e =
    none_left sum whole few (ap (λ left. (sum + sum_of_pairs high left) % 65535) (sym (drop_all i bytes gone)) ∙ e)
