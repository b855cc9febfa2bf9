-- What is recognised is no longer than its row of the table says.
use Rattle.std.proofs.Common.{◌≡◌, ℕ, ◌≤◌, true, ◌==◌, List, [], ◌∷◌, length, Option, Some, None, subst, sym, arith, inl, inr}
use Rattle.std.specs.Prelude.{IfSome}
use Rattle.std.proofs.lemmas.Bool.{cases_Bool}
use Rattle.std.proofs.lemmas.Bool.Decides.{nat_tests}
use Rattle.osc_coap.specs.{NumberAndValue}
use Rattle.osc_options.specs.declared.table.Rule.{Rule}
use Rattle.osc_options.specs.{rule_of, fits, is_recognised, recognised, value}

fits_within : (before limit : ℕ) (option : NumberAndValue) (rule : Option Rule) → IfSome rule (λ r. r.longest ≤ limit) → fits before option rule ≡ true → length option.1 ≤ limit
fits_within before limit option None short e = cc
fits_within before limit option (Some r) short e = grind (arith, nat_tests)

same_number : (m n : ℕ) → (m == n) ≡ true → m ≡ n
same_number m n e = grind (arith, nat_tests)

pub value_within : (number limit before : ℕ) (options : List NumberAndValue) → IfSome (rule_of number) (λ rule. rule.longest ≤ limit) → IfSome (value number (recognised before options)) (λ bytes. length bytes ≤ limit)
value_within number limit before [] short = tt
value_within number limit before (option ∷ options) short =
    let rest = value_within number limit option.0 options short in
    elim (cases_Bool (is_recognised before option)) [
      | inl known ↦ elim (cases_Bool (option.0 == number)) [
        | inl same ↦ rw (known, same) (fits_within before limit option (rule_of option.0) (subst (λ (n : ℕ). IfSome (rule_of n) (λ rule. rule.longest ≤ limit)) (sym (same_number option.0 number same)) short) known)
        | inr other ↦ rw (known, other) rest
      ]
      | inr unknown ↦ rw unknown rest
    ]
