-- The value of a request's and of a response's option, part by part.
use Rattle.std.proofs.Common.{◌≡◌, ℕ, ◌+◌, ◌<◌, List, [], ◌∷◌, ◌++◌, length, Some, None, refl, sym, ap, ◌∙◌, append_assoc, arith}
use Rattle.std.specs.Prelude.{unwrap_or}
use Rattle.std.proofs.lemmas.Bool.{ne_eqb}
use Rattle.std.proofs.lemmas.List.{append-nil}
use Rattle.osc_context.specs.{partial_iv}
use Rattle.osc_protect.specs.{Compressed, partial_iv_bytes, kid_context_bytes, flag_bits, value_spelling, response_value}
use Rattle.osc_protect.proofs.ValuePartialIv.{partial_iv-some}

value_spelling-some : (c : Compressed) → 0 < flag_bits c → value_spelling c ≡ flag_bits c ∷ partial_iv_bytes c.partial_iv ++ kid_context_bytes c.kid_context ++ unwrap_or c.kid []
unfolding value_spelling
value_spelling-some c some = rw (ne_eqb (flag_bits c) 0 (λ e. omega arith)) refl

pub response_value-some : (n : ℕ) → response_value (Some n) ≡ length (partial_iv n) ∷ partial_iv n
response_value-some n =
    let said : Compressed = record { partial_iv = Some n; kid_context = None; kid = None } in
    let flags : length (partial_iv n) + 0 + 0 ≡ length (partial_iv n) = omega arith in
    value_spelling-some said (omega (arith, partial_iv-some n)) ∙ ap (λ (first : ℕ). first ∷ (partial_iv n ++ [] ++ [])) flags
    ∙ ap (λ (rest : List ℕ). length (partial_iv n) ∷ rest) (append-nil (partial_iv n ++ []) ∙ append-nil (partial_iv n))

pub response_value-none : response_value None ≡ []
unfolding value_spelling
response_value-none = refl

-- without and with a kid context
pub plain_value : (n : ℕ) (kid : List ℕ) → value_spelling (record { partial_iv = Some n; kid_context = None; kid = Some kid }) ≡ (8 + length (partial_iv n)) ∷ (partial_iv n ++ kid)
plain_value n kid =
    let said : Compressed = record { partial_iv = Some n; kid_context = None; kid = Some kid } in
    let flags : length (partial_iv n) + 8 + 0 ≡ 8 + length (partial_iv n) = omega arith in
    value_spelling-some said (omega arith) ∙ ap (λ (first : ℕ). first ∷ (partial_iv n ++ [] ++ kid)) flags
    ∙ ap (λ (front : List ℕ). (8 + length (partial_iv n)) ∷ (front ++ kid)) (append-nil (partial_iv n))

pub full_value : (n : ℕ) (context kid : List ℕ) → value_spelling (record { partial_iv = Some n; kid_context = Some context; kid = Some kid })
    ≡ (16 + (8 + length (partial_iv n))) ∷ (((partial_iv n ++ (length context ∷ [])) ++ context) ++ kid)
full_value n context kid =
    let said : Compressed = record { partial_iv = Some n; kid_context = Some context; kid = Some kid } in
    let flags : length (partial_iv n) + 8 + 16 ≡ 16 + (8 + length (partial_iv n)) = omega arith in
    value_spelling-some said (omega arith) ∙ ap (λ (first : ℕ). first ∷ (partial_iv n ++ (length context ∷ context) ++ kid)) flags
    ∙ ap (λ (front : List ℕ). (16 + (8 + length (partial_iv n))) ∷ (front ++ kid)) (sym (append_assoc (partial_iv n) (length context ∷ []) context))
