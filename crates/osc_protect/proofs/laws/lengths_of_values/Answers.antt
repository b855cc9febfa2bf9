use Rattle.std.proofs.Common.{ℕ, ◌≤◌, ◌==◌, if◌then◌else◌, true, false, List, [], ◌∷◌, ◌++◌, length, Option, Some, None, arith, length-append}
use Rattle.std.specs.Prelude.{IfSome}
use Rattle.osc_context.specs.{partial_iv}
use Rattle.osc_protect.specs.{Compressed, value_spelling, flag_bits, kid_context_bytes}
use Rattle.osc_protect.proofs.ValuePartialIv.{partial_iv-short}
use Rattle.osc_protect.proofs.laws.lengths_of_values.Goals as goal

context_short : (context : Option (List ℕ)) → IfSome context (λ bytes. length bytes ≤ 64) → length (kid_context_bytes context) ≤ 65
context_short None short = omega arith
context_short (Some bytes) short = omega arith

by_flags : (b : _) (flags : ℕ) (rest : List ℕ) → length rest ≤ 254 → length (if b then [] else flags ∷ rest) ≤ 255
by_flags true flags rest short = omega arith
by_flags false flags rest short = omega arith

written : (number : ℕ) (context : Option (List ℕ)) (kid : List ℕ) → IfSome context (λ bytes. length bytes ≤ 64) → length kid ≤ 7
    → length (value_spelling (record { partial_iv = Some number; kid_context = context; kid = Some kid })) ≤ 255
unfolding value_spelling
written number context kid short few =
    let c : Compressed = record { partial_iv = Some number; kid_context = context; kid = Some kid } in
    by_flags (flag_bits c == 0) (flag_bits c) (partial_iv number ++ kid_context_bytes context ++ kid)
    (omega (arith, length-append (partial_iv number ++ kid_context_bytes context) kid, length-append (partial_iv number) (kid_context_bytes context), partial_iv-short number, context_short context short))

pub returns-clause-request : goal.returns-clause-request
returns-clause-request c = λ name number short few. written number name.id_context name.client_id short few

pub returns-clause-response : goal.returns-clause-response
unfolding value_spelling
returns-clause-response c = omega arith
