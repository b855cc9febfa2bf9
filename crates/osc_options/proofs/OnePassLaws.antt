-- One pass over the options of a request.
use Rattle.std.proofs.Common.{◌≡◌, ℕ, ◌<◌, ◌≤◌, true, false, nat_le, List, ◌∷◌, ◌++◌, length, take, [], ◌==◌, Option, Some, None, refl, sym, ap, ◌∙◌, arith, inl, inr, eq-eqb}
use Rattle.std.specs.Prelude.{IfSome, is_some}
use Rattle.std.specs.List.{list_any}
use Rattle.std.specs.Option.{option_map}
use Rattle.std.proofs.lemmas.Bool.{cases_Bool, cases_lt, ne_eqb}
use Rattle.std.proofs.lemmas.Bool.Decides.{nat_tests}
use Rattle.std.proofs.lemmas.List.{take_all, take-append-le, length-take}
use Rattle.osc_model.specs.{path_of}
use Rattle.osc_coap.specs.{NumberAndValue, AreOptions}
use Rattle.osc_options.specs.{value, values}

-- ---- one option more

pub values_other : (wanted number : ℕ) (bytes : List ℕ) (rest : List NumberAndValue) → (number ≡ wanted → ⊥) → values wanted ((number, bytes) ∷ rest) ≡ values wanted rest
values_other wanted number bytes rest other = rw (ne_eqb number wanted other) refl

pub values_same : (wanted number : ℕ) (bytes : List ℕ) (rest : List NumberAndValue) → number ≡ wanted → values wanted ((number, bytes) ∷ rest) ≡ bytes ∷ values wanted rest
values_same wanted number bytes rest same = rw (eq-eqb number wanted same) refl

pub value_other : (wanted number : ℕ) (bytes : List ℕ) (rest : List NumberAndValue) → (number ≡ wanted → ⊥) → value wanted ((number, bytes) ∷ rest) ≡ value wanted rest
value_other wanted number bytes rest other = rw (ne_eqb number wanted other) refl

pub value_same : (wanted number : ℕ) (bytes : List ℕ) (rest : List NumberAndValue) → number ≡ wanted → value wanted ((number, bytes) ∷ rest) ≡ Some bytes
value_same wanted number bytes rest same = rw (eq-eqb number wanted same) refl

-- a tenth doesn't count
pub nine : (front rest : List (List ℕ)) (more : List ℕ) → 9 ≤ length front → take 9 (front ++ rest) ≡ take 9 (front ++ more ∷ rest)
nine front rest more full = take-append-le 9 front rest full ∙ sym (take-append-le 9 front (more ∷ rest) full)

-- ---- at most eight segments make a path

le_false : (m n : ℕ) → n < m → nat_le m n ≡ false
le_false m n lt = grind (arith, nat_tests)

le_true : (m n : ℕ) → m ≤ n → nat_le m n ≡ true
le_true m n le = grind (arith, nat_tests)

no_path : (segments : List (List ℕ)) → 8 < length segments → path_of segments ≡ None
no_path segments many = rw (le_true 1 (length segments) (omega arith), le_false (length segments) 8 many) refl

pub path_nine : (segments : List (List ℕ)) → path_of (take 9 segments) ≡ path_of segments
path_nine segments =
    elim (cases_lt (length segments) 9) [
      | inl few ↦ ap path_of (take_all 9 segments (omega arith))
      | inr many ↦ no_path (take 9 segments) (omega (arith, length-take 9 segments)) ∙ sym (no_path segments (omega arith))
    ]

-- so the first nine tell
pub same_path : (a b : List (List ℕ)) → take 9 a ≡ take 9 b → path_of a ≡ path_of b
same_path a b e = sym (path_nine a) ∙ ap path_of e ∙ path_nine b

-- ---- what was shown

pub shown_within : {A : Type 0} (shown : A → List ℕ) (o : Option A) → IfSome (option_map shown o) (λ bytes. length bytes ≤ 2) → IfSome o (λ v. length (shown v) ≤ 2)
shown_within shown None h = tt
shown_within shown (Some v) h = h

pub shown_some : {A : Type 0} (shown : A → List ℕ) (o : Option A) → is_some (option_map shown o) ≡ is_some o
shown_some shown None = refl
shown_some shown (Some v) = refl

-- ---- one that is there

pub value_there : (number : ℕ) (options : List NumberAndValue) → is_some (value number options) ≡ list_any (λ option. option.0 == number) options
value_there number [] = refl
value_there number (option ∷ options) =
    elim (cases_Bool (option.0 == number)) [
      | inl same ↦ rw same refl
      | inr other ↦ rw other (value_there number options)
    ]

-- options after one of a larger number
pub none_behind : (number before : ℕ) (options : List NumberAndValue) → AreOptions before options → number < before → list_any (λ option. option.0 == number) options ≡ false
none_behind number before [] order less = refl
none_behind number before (option ∷ options) order less =
    rw (ne_eqb option.0 number (λ e. omega (arith, e, order.0.rises))) (none_behind number option.0 options order.1 (omega (arith, order.0.rises)))

-- one of no smaller number tells whether one of this number is there
pub first_tells : (number other : ℕ) (bytes : List ℕ) (rest : List NumberAndValue) → AreOptions other rest → number ≤ other
    → (other == number) ≡ list_any (λ option. option.0 == number) ((other, bytes) ∷ rest)
first_tells number other bytes rest order le =
    elim (cases_lt number other) [
      | inl less ↦ rw (ne_eqb other number (λ e. omega (arith, e))) (sym (none_behind number other rest order less))
      | inr ge ↦ rw (eq-eqb other number (omega arith)) refl
    ]
