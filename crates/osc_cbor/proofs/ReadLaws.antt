-- What the answer of a read means.
use Rattle.std.proofs.Common.{◌≡◌, ◌⊎◌, ℕ, zero, suc, ◌+◌, ◌-◌, ◌≤◌, List, ◌++◌, length, take, Result, Ok, Err, refl, sym, ap, subst, ◌∙◌, arith, inl, inr}
use Rattle.std.proofs.lemmas.List.{take_at, length-append}
use Rattle.osc_cbor.specs.{DataItem, Pairs, nesting, most_nesting, Spells, Begins, HeadFails, StringFails, PairFails, key_fails, key_again, value_fails, ItemFails, in_head, in_string, in_array, in_map, in_tag, TooDeepFails, too_deep, Fails, Refuses, item_at}
use Rattle.osc_cbor.specs.Faults as faults
use Rattle.osc_cbor.specs.declared.error.ReadError.{ReadError}
use Rattle.osc_cbor.specs.declared.error.ReadError.TheVariants.{Truncated, Unsupported, DuplicateKey, TooDeep, Memory}
use Rattle.osc_cbor.proofs.Steps.{AreBytes, ok_is, ok_or_err}
use Rattle.osc_cbor.proofs.FoundLaws.{item_takes}
use Rattle.osc_cbor.proofs.AgainLaws.{item_again}
use Rattle.osc_cbor.proofs.FailLaws.{item_fails}

-- a refusal is for lack of memory, or the one of the reading
pub refusal : {Y : Type 0} (e : ReadError) (read : Result Y ReadError) → Refuses e read → (e ≡ Memory) ⊎ (read ≡ Err e)
refusal Memory read h = inl refl
refusal Truncated read h = inr h
refusal Unsupported read h = inr h
refusal DuplicateKey read h = inr h
refusal TooDeep read h = inr h

-- what is left is no longer than the whole
pub rest_within : (bytes : List ℕ) (d : DataItem) (rest : List ℕ) → AreBytes bytes → item_at 9 bytes ≡ Ok (d, rest) → length rest ≤ length bytes
rest_within bytes d rest fits e = let t = item_takes 9 bytes d rest fits e in omega (arith, ap length t.whole, length-append t.front rest)

pub found_begins : (bytes : List ℕ) (d : DataItem) (rest : List ℕ) → AreBytes bytes → item_at 9 bytes ≡ Ok (d, rest) → Begins bytes d (length bytes - length rest)
found_begins bytes d rest fits e =
    let t = item_takes 9 bytes d rest fits e in
    let sizes : length bytes ≡ length t.front + length rest = ap length t.whole ∙ length-append t.front rest in
    let size : length bytes - length rest ≡ length t.front = omega arith in
    let front : take (length bytes - length rest) bytes ≡ t.front = ap (λ (n : ℕ). take n bytes) size ∙ ap (take (length t.front)) t.whole ∙ take_at t.front rest (length t.front) refl in
    record {
      within = omega arith;
      spelled = subst (λ (x : List ℕ). Spells x d) (sym front) t.spelled;
      shallow = omega (arith, t.shallow);
    }

-- what is spelled is the one that was found
pub found_only : (bytes : List ℕ) (found : DataItem) (after : List ℕ) → item_at 9 bytes ≡ Ok (found, after) → (d : DataItem) (front rest : List ℕ) → Spells front d → nesting d ≤ most_nesting → bytes ≡ front ++ rest
    → (found ≡ d) × (length bytes - length after ≡ length front)
found_only bytes found after e d front rest spelled shallow whole =
    let read = item_again 9 d front rest spelled (omega (arith, shallow)) in
    let same : ◌≡◌ {A = DataItem × List ℕ} (found, after) (d, rest) = ok_is (found, after) (d, rest) (sym e ∙ ap (item_at 9) whole ∙ read) in
    let left : after ≡ rest = ap (λ (p : DataItem × List ℕ). p.1) same in
    (ap (λ (p : DataItem × List ℕ). p.0) same, omega (arith, ap length left, ap length whole, length-append front rest))

-- once the end was found, nothing but memory runs out
pub only_memory : (bytes : List ℕ) (e : ReadError) → Refuses e (item_at 9 bytes) → (d : DataItem) (rest : List ℕ) → item_at 9 bytes ≡ Ok (d, rest) → e ≡ Memory
only_memory bytes e h d rest found =
    elim (refusal e (item_at 9 bytes) h) [
      | inl is ↦ is
      | inr read ↦ absurd (ok_or_err (d, rest) e (sym found ∙ read))
    ]

pub found_first : (bytes : List ℕ) (found : DataItem) (after : List ℕ) → item_at 9 bytes ≡ Ok (found, after) → (fault : ReadError) → Fails 9 bytes fault → ⊥
found_first bytes found after e fault fails = ok_or_err (found, after) fault (sym e ∙ item_fails 9 bytes fault fails)

-- the error of two equal answers
pub same_err : {Y : Type 0} {e d fault : ReadError} → e ≡ d → ◌≡◌ {A = Result Y ReadError} (Err d) (Err fault) → e ≡ fault
same_err p q = p ∙ cc

-- ---- lack of memory is no fault of the bytes

head_never : (bytes : List ℕ) → HeadFails bytes Memory → ⊥
head_never bytes (faults.HeadFails.no_byte none is) = cc
head_never bytes (faults.HeadFails.unsupported major bits rest whole lt bad is) = cc
head_never bytes (faults.HeadFails.cut_short major bits size rest whole low extended short is) = cc

string_never : (bytes : List ℕ) → StringFails bytes Memory → ⊥
string_never bytes (faults.StringFails.bytes_end n f is) = cc
string_never bytes (faults.StringFails.text_ends n f is) = cc
string_never bytes (faults.StringFails.not_utf8 content rest f other is) = cc

pair_never : (left : ℕ) (Inner : List ℕ → ReadError → Type 0) → ((bytes : List ℕ) → Inner bytes Memory → ⊥) → (before : Pairs) (bytes : List ℕ) → PairFails left Inner before bytes Memory → ⊥
pair_never left Inner never before bytes (key_fails h) = never bytes h
pair_never left Inner never before bytes (key_again k front rest is_key shallow whole old is) = cc
pair_never left Inner never before bytes (value_fails k front rest is_key shallow whole new h) = never rest h

item_never : (left : ℕ) (Inner : List ℕ → ReadError → Type 0) → ((bytes : List ℕ) → Inner bytes Memory → ⊥) → (bytes : List ℕ) → ItemFails left Inner bytes Memory → ⊥
item_never left Inner never bytes (in_head h) = head_never bytes h
item_never left Inner never bytes (in_string h) = string_never bytes h
item_never left Inner never bytes (in_array n f) = never f.is_rest.rest f.is_rest.fails
item_never left Inner never bytes (in_map n f) = pair_never left Inner never f.is_rest.before f.is_rest.rest f.is_rest.fails
item_never left Inner never bytes (in_tag n f) = never f.rest f.is_rest

deep_never : (bytes : List ℕ) → TooDeepFails bytes Memory → ⊥
deep_never bytes (faults.TooDeepFails.no_byte none is) = cc
deep_never bytes (too_deep some is) = cc

pub never_memory : (left : ℕ) (bytes : List ℕ) → Fails left bytes Memory → ⊥
unfolding Fails
never_memory zero bytes h = deep_never bytes h
never_memory (suc left) bytes h = item_never left (Fails left) (never_memory left) bytes h
