-- The orders of paths and of permissions are total, and tell their keys apart.
use Rattle.std.specs.declared.cmp.Ordering.{Ordering}
use Rattle.std.specs.declared.cmp.Ordering.TheVariants.{Less, Equal, Greater}
use Rattle.std.specs.Str.{bytes_eq}
use Rattle.std.proofs.lemmas.Map.Text.{is_eq-slice_cmp}
use Rattle.std.proofs.lemmas.Bool.Decides.{nat_tests}
use Rattle.std.proofs.Common.{arith, ◌==◌, ◌≡◌, ℕ, Bool, true, false, ◌&&◌, refl, sym, ◌∙◌, ap}
use Rattle.std.specs.Bool.{beq}
use Rattle.std.specs.Cmp.{IsTotalOrder, bool_cmp_total}
use Rattle.std.specs.Ordering.{nat_cmp, bool_cmp, eq_by_cmp, is_eq, ordering_then}
use Rattle.std.specs.FinMap.{IsAntisymmetric}
use Rattle.std.proofs.lemmas.Cmp.{nat_cmp_total, nat_list_cmp_total, on_total, then_total}
use Rattle.std.proofs.lemmas.Map.Lookups.{exact_pairs, exact_unsigned, exact_bytes}
use Rattle.osc_model.specs.{path_cmp, Permission, permission_cmp, is_same_method, method_number, method_with_number, method_back}
use Rattle.osc_model.specs.declared.code.Method.{Method}

pub paths_total : IsTotalOrder path_cmp
paths_total = nat_list_cmp_total

pub paths_exact : IsAntisymmetric path_cmp
paths_exact = exact_bytes

pub permissions_total : IsTotalOrder permission_cmp
permissions_total =
    then_total (on_total (λ p. p.path) nat_list_cmp_total)
    (then_total (on_total (λ p. p.below) bool_cmp_total) (on_total (λ p. method_number p.method) nat_cmp_total))

-- methods with one number are one
methods_exact : IsAntisymmetric (λ (a b : Method). nat_cmp (method_number a) (method_number b))
methods_exact a b same = sym (method_back a) ∙ ap method_with_number (exact_unsigned (method_number a) (method_number b) same) ∙ method_back b

below_exact : IsAntisymmetric bool_cmp
below_exact false false same = refl
below_exact false true same = cc
below_exact true false same = cc
below_exact true true same = refl

abbrev method_cmp : Method → Method → Ordering
method_cmp a b = nat_cmp (method_number a) (method_number b)

pub permissions_exact : IsAntisymmetric permission_cmp
permissions_exact a b same =
    let parts = exact_pairs path_cmp (λ x y. ordering_then (bool_cmp x.0 y.0) (method_cmp x.1 y.1)) exact_bytes (exact_pairs bool_cmp method_cmp below_exact methods_exact)
    (a.path, (a.below, a.method)) (b.path, (b.below, b.method)) same in
    λ i. record { path = (parts i).0; below = (parts i).1.0; method = (parts i).1.1 }

-- permissions tie where path, reach and method are the same
pub same_permission : (a b : Permission) → eq_by_cmp permission_cmp a b ≡ (bytes_eq a.path b.path && (beq a.below b.below && is_same_method a.method b.method))
same_permission a b =
    joined (path_cmp a.path b.path) (ordering_then (bool_cmp a.below b.below) (method_cmp a.method b.method))
    ∙ ap (λ r. is_eq (path_cmp a.path b.path) && r) (joined (bool_cmp a.below b.below) (method_cmp a.method b.method))
    ∙ (λ i. is_eq-slice_cmp a.path b.path i && (same_reach a.below b.below i && same_number (method_number a.method) (method_number b.method) i))
  where
    joined : (r s : Ordering) → is_eq (ordering_then r s) ≡ (is_eq r && is_eq s)
    joined Less s = refl
    joined Equal s = refl
    joined Greater s = refl

    same_reach : (a b : Bool) → is_eq (bool_cmp a b) ≡ beq a b
    same_reach false false = refl
    same_reach false true = refl
    same_reach true false = refl
    same_reach true true = refl

    same_number : (m n : ℕ) → is_eq (nat_cmp m n) ≡ (m == n)
    same_number m n = grind (arith, nat_tests)
