-- A word spells a number exactly where one is read, and it is that one.
use Rattle.std.proofs.Common.{◌≡◌, ℕ, ◌^◌, ◌<◌, ◌≢◌, ◌&&◌, true, cond, List, length, get_or, Option, Some, None, Result, Ok, Err, codes, nat_lt, refl, sym, ap, ◌∙◌, subst, inl, inr, MatchResult, Bor, arith, bytes_eq, ltb-true, lt-ltb, nat_le, leb-true, le-leb, ◌≤◌, IsUtf8}
use Rattle.std.specs.Str.{all_ascii_digits}
use Rattle.std.specs.Str.Parse.{digits_value, ParsesUnsigned}
use Rattle.std.specs.Result.{result_ok}
use Rattle.std.proofs.lemmas.Bool.{and_parts, cases_Bool}
use Rattle.std.proofs.lemmas.Option.{cond_some}
use Rattle.std.proofs.lemmas.Str.{IsUtf8-from_ascii}
use Rattle.std.proofs.lemmas.Str.Ascii.{IsAscii-from_reads}
use Rattle.std.proofs.lemmas.Str.Parse.{IsNumeralModel, numerals_by_value, tells_all_ascii_digits, digit_at, parse_plain}
use Rattle.std.proofs.lemmas.Slice.Eq.{bytes_eq-Decides}
use Rattle.osc_script.specs.{last_number, Reads, SpellsNumber, SpellsShortNumber, SpellsFormat}
use Rattle.osc_script.specs.Inner.Reading.{number_in, short_number_in, request_number_in, format_in}
use Rattle.osc_script.proofs.Found.{step_found, none_unless}

digits_model : IsNumeralModel (λ ds. all_ascii_digits ds ≡ true) (digits_value 10)
digits_model = numerals_by_value (λ ds. all_ascii_digits ds ≡ true) tells_all_ascii_digits

pub number_found : (word : List ℕ) (n : ℕ) → number_in word ≡ Some n → SpellsNumber word n
unfolding number_in
number_found word n e =
    let c = cond_some _ _ _ e in
    let a = and_parts (nat_lt 0 (length word) && all_ascii_digits word) (nat_lt (digits_value 10 word) (2 ^ 64)) c.0 in
    let b = and_parts (nat_lt 0 (length word)) (all_ascii_digits word) a.0 in
    record { digits = (ltb-true 0 (length word) b.0, digits_model.to word b.1); value = c.1; fits = rw (← c.1) (ltb-true (digits_value 10 word) (2 ^ 64) a.1) }

pub number_again : (word : List ℕ) (n : ℕ) → SpellsNumber word n → number_in word ≡ Some n
unfolding number_in
number_again word n s =
    let some : nat_lt 0 (length word) ≡ true = lt-ltb 0 (length word) s.digits.0 in
    let digits : all_ascii_digits word ≡ true = digits_model.from word s.digits.1 in
    let small : nat_lt (digits_value 10 word) (2 ^ 64) ≡ true = lt-ltb (digits_value 10 word) (2 ^ 64) (rw s.value s.fits) in
    rw (some, digits, small) (ap Some s.value)

-- what std's parse reads, where no sign is first
pub number_parsed : {E : Type 0} (word : List ℕ) (r : Result ℕ E) → ParsesUnsigned 64 10 word r → get_or word 0 0 ≢ 43 → result_ok r ≡ number_in word
number_parsed {E} word (Ok n) h plain =
    let p = parse_plain digits_model {E = E} 64 word (Ok n) h plain in
    sym (number_again word n (record { digits = (p.0.1, digits_model.to word p.0.0); value = sym p.1; fits = rw p.1 p.0.2 }))
number_parsed {E} word (Err e) h plain =
    let p = parse_plain digits_model {E = E} 64 word (Err e) h plain in
    sym (none_unless (number_in word) (λ n f. let s = number_found word n f in p (digits_model.from word s.digits.1, s.digits.0, rw s.value s.fits)))

-- digits are text
pub no_text : (word : List ℕ) → (IsUtf8 word → ⊥) → number_in word ≡ None
no_text word h = none_unless (number_in word) (λ n f.
    let s = number_found word n f in
    h (IsUtf8-from_ascii word (IsAscii-from_reads word (length word) (omega arith) (λ k lt. omega (arith, digit_at word k s.digits.1 lt)))))

-- what from_utf8 refuses is no text
pub refused : {T E : Type 0} (P : T → Type 0) (Q : Type 0) (R : E → Type 0) (r : Result T E) (o : Option T) → MatchResult r P (λ e. (Q → ⊥) × R e) → o ≡ result_ok r → o ≡ None → Q → ⊥
refused P Q R (Ok x) o h e none q = absurd cc
refused P Q R (Err d) o h e none q = h.0 q

-- and what it lets through is the text
pub text_is : {E : Type 0} (word : List ℕ) (Q : Bor (List ℕ) → Type 0) (R : E → Type 0) (r : Result (Bor (List ℕ)) E) (text : Bor (List ℕ)) → MatchResult r (λ s. (s.now ≡ word) × Q s) R → Some text ≡ result_ok r → text.now ≡ word
text_is word Q R (Ok s) text h e = let same : text ≡ s = cc in rw same h.0
text_is word Q R (Err d) text h e = absurd cc

pub short_number_found : (word : List ℕ) (n : ℕ) → short_number_in word ≡ Some n → SpellsNumber word n × (n < 2 ^ 16)
unfolding short_number_in
short_number_found word n e =
    let a = step_found (number_in word) (λ n. cond (nat_lt n (2 ^ 16)) (Some n) None) n e in
    let c = cond_some (nat_lt a.0 (2 ^ 16)) a.0 n a.2 in
    (number_found word n (a.1 ∙ ap Some c.1), rw (← c.1) (ltb-true a.0 (2 ^ 16) c.0))

pub short_number_again : (word : List ℕ) (n : ℕ) → SpellsNumber word n → n < 2 ^ 16 → short_number_in word ≡ Some n
unfolding short_number_in
short_number_again word n s lt = rw (number_again word n s, lt-ltb n (2 ^ 16) lt) refl

pub request_number_found : (word : List ℕ) (n : ℕ) → request_number_in word ≡ Some n → SpellsNumber word n × (n ≤ last_number)
unfolding request_number_in
request_number_found word n e =
    let a = step_found (number_in word) (λ n. cond (nat_le n last_number) (Some n) None) n e in
    let c = cond_some (nat_le a.0 last_number) a.0 n a.2 in
    (number_found word n (a.1 ∙ ap Some c.1), rw (← c.1) (leb-true a.0 last_number c.0))

pub request_number_again : (word : List ℕ) (n : ℕ) → SpellsNumber word n → n ≤ last_number → request_number_in word ≡ Some n
unfolding request_number_in
request_number_again word n s le = rw (number_again word n s, le-leb n last_number le) refl

pub format_found : (word : List ℕ) (f : Option ℕ) → format_in word ≡ Some f → SpellsFormat word f
unfolding format_in
format_found word f e =
    elim (cases_Bool (bytes_eq word (codes "none"))) [
      | inl same ↦
          let is_none : None ≡ f = some_is None f (sym (rw same refl) ∙ e) in
          subst (SpellsFormat word) is_none ((bytes_eq-Decides word (codes "none")).0 same)
      | inr other ↦
          let a = step_found (short_number_in word) (λ n. Some (Some n)) f (sym (rw other refl) ∙ e) in
          subst (SpellsFormat word) (some_is (Some a.0) f a.2) (short_number_found word a.0 a.1)
    ]
  where
    some_is : (x y : Option ℕ) → Some x ≡ Some y → x ≡ y
    some_is x y e = cc

pub format_again : (word : List ℕ) (f : Option ℕ) → SpellsFormat word f → format_in word ≡ Some f
unfolding format_in number_in
format_again word None s = rw s refl
format_again word (Some n) s =
    elim (cases_Bool (bytes_eq word (codes "none"))) [
      | inl same ↦
          let is_none : word ≡ codes "none" = (bytes_eq-Decides word (codes "none")).0 same in
          let read : number_in (codes "none") ≡ Some n = ap number_in (sym is_none) ∙ number_again word n s.0 in
          absurd cc
      | inr other ↦ rw (other, short_number_again word n s.0 s.1) refl
    ]

-- ---- the same, of what was found

pub number_reads : (word : List ℕ) (found : Option ℕ) → found ≡ number_in word → Reads (SpellsNumber word) found
number_reads word (Some n) e = number_found word n (sym e)
number_reads word None e = λ n s. let no : None ≡ Some n = e ∙ number_again word n s in absurd cc

pub short_number_reads : (word : List ℕ) (found : Option ℕ) → found ≡ short_number_in word → Reads (SpellsShortNumber word) found
short_number_reads word (Some n) e = short_number_found word n (sym e)
short_number_reads word None e = λ n s. let no : None ≡ Some n = e ∙ short_number_again word n s.0 s.1 in absurd cc
