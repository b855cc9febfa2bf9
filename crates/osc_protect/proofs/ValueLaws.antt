-- A value that is written is read again, and what is read is written so.
use Rattle.std.proofs.Common.{◌≡◌, ℕ, suc, ◌+◌, ◌/◌, ◌%◌, ◌<◌, ◌≤◌, Bool, true, false, cond, ltb, List, [], ◌∷◌, ◌++◌, length, take, drop, Option, Some, None, refl, sym, ap, subst, ◌∙◌, append_assoc, arith, inl, inr}
use Rattle.std.specs.Prelude.{IfSome, is_some, unwrap_or, ◌==◌}
use Rattle.std.proofs.lemmas.Bool.{cases_Bool, cases_lt, eqb-true, eqb-false, le-ltb, ltb-false, ne_eqb}
use Rattle.std.proofs.lemmas.List.{take_at, drop_at, take-append-drop, length-append, length-take, length-take-le, get_or-take, get_or-drop, get_or_past}
use Rattle.std.proofs.lemmas.Option.{some_pair_parts}
use Rattle.osc_context.specs.{greatest_number, partial_iv}
use Rattle.osc_protect.specs.{Compressed, partial_iv_bytes, kid_context_bytes, flag_bits, value_spelling, HasValueSpelling, SpellsValue}
use Rattle.osc_protect.specs.Inner.ValueReading.{◌>>=◌, number_in, has_leading_zero, partial_iv_at, kid_context_at, kid_at, parts_at, value_at}
use Rattle.osc_protect.proofs.ValuePartialIv.{AreBytes, IsShortest, partial_iv-some, partial_iv-short, has_leading_zero-partial_iv, number_in-partial_iv, partial_iv-number_in, number_in-fits}

-- ---- what is written is read again

partial_iv_again : (number : Option ℕ) (rest : List ℕ) → partial_iv_at (length (partial_iv_bytes number)) (partial_iv_bytes number ++ rest) ≡ Some (number, rest)
unfolding partial_iv_at
partial_iv_again None rest = refl
partial_iv_again (Some n) rest =
    let bytes : List ℕ = partial_iv n in
    let some = partial_iv-some n in
    let short = partial_iv-short n in
    let long : length (partial_iv n) ≤ length (partial_iv n ++ rest) = omega (arith, length-append (partial_iv n) rest) in
    rw (ne_eqb (length (partial_iv n)) 0 (λ e. omega arith), le-ltb 5 (length (partial_iv n)) short, le-ltb (length (partial_iv n ++ rest)) (length (partial_iv n)) long, take_at (partial_iv n) rest (length (partial_iv n)) refl, drop_at (partial_iv n) rest (length (partial_iv n)) refl, has_leading_zero-partial_iv n, number_in-partial_iv n) refl

kid_context_again : (context : Option (List ℕ)) (rest : List ℕ) → kid_context_at (is_some context) (kid_context_bytes context ++ rest) ≡ Some (context, rest)
unfolding kid_context_at
kid_context_again None rest = refl
kid_context_again (Some bytes) rest =
    let long : length bytes ≤ length (bytes ++ rest) = omega (arith, length-append bytes rest) in
    rw (le-ltb (length (bytes ++ rest)) (length bytes) long, take_at bytes rest (length bytes) refl, drop_at bytes rest (length bytes) refl) refl

kid_again : (kid : Option (List ℕ)) → kid_at (is_some kid) (unwrap_or kid []) ≡ Some kid
unfolding kid_at
kid_again None = refl
kid_again (Some bytes) = refl

-- the flag bits of `size` bytes of Partial IV, a kid and a kid context
abbrev flags_with : ℕ → Bool → Bool → ℕ
flags_with size kid context = size + cond kid 8 0 + cond context 16 0

record AreFlags (size : ℕ) (kid context : Bool) (flags : ℕ) : Type 0 where
  reserved : flags < 32
  size_is : flags % 8 ≡ size
  kid_is : (flags / 8 % 2 == 1) ≡ kid
  context_is : (flags / 16 == 1) ≡ context

flags_again : (size : ℕ) (kid context : Bool) → size ≤ 5 → AreFlags size kid context (flags_with size kid context)
flags_again size true true short =
    let q : (size + 8 + 16) / 8 % 2 ≡ 1 = omega arith in
    let r : (size + 8 + 16) / 16 ≡ 1 = omega arith in
    record { reserved = omega arith; size_is = omega arith; kid_is = rw q refl; context_is = rw r refl }
flags_again size true false short =
    let q : (size + 8 + 0) / 8 % 2 ≡ 1 = omega arith in
    let r : (size + 8 + 0) / 16 ≡ 0 = omega arith in
    record { reserved = omega arith; size_is = omega arith; kid_is = rw q refl; context_is = rw r refl }
flags_again size false true short =
    let q : (size + 0 + 16) / 8 % 2 ≡ 0 = omega arith in
    let r : (size + 0 + 16) / 16 ≡ 1 = omega arith in
    record { reserved = omega arith; size_is = omega arith; kid_is = rw q refl; context_is = rw r refl }
flags_again size false false short =
    let q : (size + 0 + 0) / 8 % 2 ≡ 0 = omega arith in
    let r : (size + 0 + 0) / 16 ≡ 0 = omega arith in
    record { reserved = omega arith; size_is = omega arith; kid_is = rw q refl; context_is = rw r refl }

partial_iv_bytes-short : (number : Option ℕ) → length (partial_iv_bytes number) ≤ 5
partial_iv_bytes-short None = omega arith
partial_iv_bytes-short (Some n) = partial_iv-short n

-- the parts after the flag bits
abbrev parts_of : Compressed → List ℕ
parts_of c = partial_iv_bytes c.partial_iv ++ kid_context_bytes c.kid_context ++ unwrap_or c.kid []

parts_again : (c : Compressed) → parts_at (flag_bits c) (parts_of c) ≡ Some c
unfolding parts_at
parts_again c =
    let flags = flags_again (length (partial_iv_bytes c.partial_iv)) (is_some c.kid) (is_some c.kid_context) (partial_iv_bytes-short c.partial_iv) in
    rw (append_assoc (partial_iv_bytes c.partial_iv) (kid_context_bytes c.kid_context) (unwrap_or c.kid []), flags.size_is, flags.kid_is, flags.context_is, partial_iv_again c.partial_iv (kid_context_bytes c.kid_context ++ unwrap_or c.kid []), kid_context_again c.kid_context (unwrap_or c.kid []), kid_again c.kid) refl

flags_below : (c : Compressed) → flag_bits c < 32
flags_below c = (flags_again (length (partial_iv_bytes c.partial_iv)) (is_some c.kid) (is_some c.kid_context) (partial_iv_bytes-short c.partial_iv)).reserved

-- no flag bits, no parts
nothing_is : (number : Option ℕ) (context kid : Option (List ℕ)) → flags_with (length (partial_iv_bytes number)) (is_some kid) (is_some context) ≡ 0
    → let nothing : Compressed = record { partial_iv = None; kid_context = None; kid = None } in let said : Compressed = record { partial_iv = number; kid_context = context; kid = kid } in nothing ≡ said
nothing_is None None None none = refl
nothing_is None None (Some bytes) none = absurd (omega arith)
nothing_is None (Some bytes) kid none = absurd (omega arith)
nothing_is (Some n) context kid none = absurd (omega (arith, partial_iv-some n))

pub value_again : (c : Compressed) → value_at (value_spelling c) ≡ Some c
unfolding value_spelling value_at
value_again c =
    elim (cases_Bool (flag_bits c == 0)) [
      | inl none ↦ rw none (ap (λ (said : Compressed). Some said) (nothing_is c.partial_iv c.kid_context c.kid (eqb-true (flag_bits c) 0 none)))
      | inr some ↦ rw (some, some, le-ltb 31 (flag_bits c) (omega (arith, flags_below c))) (parts_again c)
    ]

-- ---- what is read is written so

-- a test that let the rest go on
goes_on : {A : Type 0} (b : Bool) (o : Option A) (y : A) → cond b None o ≡ Some y → (b ≡ false) × (o ≡ Some y)
goes_on true o y e = absurd cc
goes_on false o y e = (refl, e)

-- the value of a step that did not fail
bind_some : {A B : Type 0} (o : Option A) (f : A → Option B) (y : B) → (o >>= f) ≡ Some y → (x : A) × (o ≡ Some x) × (f x ≡ Some y)
bind_some (Some x) f y e = (x, refl, e)
bind_some None f y e = absurd cc

AreBytes-drop : (n : ℕ) (bytes : List ℕ) → AreBytes bytes → AreBytes (drop n bytes)
AreBytes-drop n bytes h i = rw get_or-drop (h (n + i))

AreBytes-take : (n : ℕ) (bytes : List ℕ) → AreBytes bytes → AreBytes (take n bytes)
AreBytes-take n bytes h i =
    elim (cases_lt i n) [
      | inl lt ↦ rw (get_or-take n bytes i 0 lt) (h i)
      | inr le ↦ rw (get_or_past (take n bytes) i 0 (omega (arith, length-take n bytes))) (omega arith)
    ]

-- `size` bytes of Partial IV were taken from the front
record TakesNumber (size : ℕ) (bytes : List ℕ) (number : Option ℕ) (rest : List ℕ) : Type 0 where
  parts : bytes ≡ partial_iv_bytes number ++ rest
  size_is : length (partial_iv_bytes number) ≡ size
  fits : IfSome number (λ n. n ≤ greatest_number)
  rest_fits : AreBytes rest

takes_number : (size : ℕ) (bytes : List ℕ) → AreBytes bytes → 0 < size → size ≤ 5 → size ≤ length bytes → has_leading_zero (take size bytes) ≡ false → TakesNumber size bytes (Some (number_in (take size bytes))) (drop size bytes)
takes_number size bytes are some short within shortest =
    let long : length (take size bytes) ≡ size = length-take-le size bytes within in
    let h : IsShortest (take size bytes) = record { are_bytes = AreBytes-take size bytes are; some = omega arith; short = omega arith; shortest = shortest } in
    let same = partial_iv-number_in (take size bytes) h in
    record {
      parts = sym (ap (λ (front : List ℕ). front ++ drop size bytes) same ∙ take-append-drop size bytes);
      size_is = ap (λ (front : List ℕ). length front) same ∙ long;
      fits = number_in-fits (take size bytes) h;
      rest_fits = AreBytes-drop size bytes are;
    }

number_taken : (size : ℕ) (bytes : List ℕ) (number : Option ℕ) (rest : List ℕ) → AreBytes bytes → partial_iv_at size bytes ≡ Some (number, rest) → TakesNumber size bytes number rest
unfolding partial_iv_at
number_taken size bytes number rest are e =
    elim (cases_Bool (size == 0)) [
      | inl none ↦
          let p = some_pair_parts None number bytes rest (rw none at e) in
          rw (← p.0, ← p.1, eqb-true size 0 none) (record { parts = refl; size_is = refl; fits = tt; rest_fits = are })
      | inr some ↦
          let a = goes_on (ltb 5 size) _ (number, rest) (rw some at e) in
          let b = goes_on (ltb (length bytes) size) _ (number, rest) a.1 in
          let d = goes_on (has_leading_zero (take size bytes)) _ (number, rest) b.1 in
          let p = some_pair_parts (Some (number_in (take size bytes))) number (drop size bytes) rest d.1 in
          let not_zero = eqb-false size 0 some in
          let short = ltb-false 5 size a.0 in
          let within = ltb-false (length bytes) size b.0 in
          rw (← p.0, ← p.1) (takes_number size bytes are (omega arith) short within d.0)
    ]

-- a kid context was taken from the front, or none
record TakesContext (is_there : Bool) (bytes : List ℕ) (context : Option (List ℕ)) (rest : List ℕ) : Type 0 where
  parts : bytes ≡ kid_context_bytes context ++ rest
  is_so : is_some context ≡ is_there
  fits : IfSome context (λ bytes. length bytes < 256)

context_taken : (is_there : Bool) (bytes : List ℕ) (context : Option (List ℕ)) (rest : List ℕ) → AreBytes bytes → kid_context_at is_there bytes ≡ Some (context, rest) → TakesContext is_there bytes context rest
unfolding kid_context_at
context_taken false bytes context rest are e =
    let p = some_pair_parts None context bytes rest e in
    rw (← p.0, ← p.1) (record { parts = refl; is_so = refl; fits = tt })
context_taken true [] context rest are e = absurd cc
context_taken true (size ∷ bytes) context rest are e =
    let a = goes_on (ltb (length bytes) size) _ (context, rest) e in
    let within = ltb-false (length bytes) size a.0 in
    let p = some_pair_parts (Some (take size bytes)) context (drop size bytes) rest a.1 in
    let long : length (take size bytes) ≡ size = length-take-le size bytes within in
    rw (← p.0, ← p.1) (record {
      parts = sym (ap (λ (n : ℕ). n ∷ (take size bytes ++ drop size bytes)) long ∙ ap (λ (t : List ℕ). size ∷ t) (take-append-drop size bytes));
      is_so = refl;
      fits = omega (arith, are 0);
    })

-- the kid is all that is left
record IsKid (is_there : Bool) (bytes : List ℕ) (kid : Option (List ℕ)) : Type 0 where
  whole : bytes ≡ unwrap_or kid []
  is_so : is_some kid ≡ is_there

kid_taken : (is_there : Bool) (bytes : List ℕ) (kid : Option (List ℕ)) → kid_at is_there bytes ≡ Some kid → IsKid is_there bytes kid
unfolding kid_at
kid_taken true bytes kid e = let same : Some bytes ≡ kid = cc in rw (← same) (record { whole = refl; is_so = refl })
kid_taken false [] kid e = let same : None ≡ kid = cc in rw (← same) (record { whole = refl; is_so = refl })
kid_taken false (b ∷ bytes) kid e = absurd cc

-- flag bits are what they say
flags_are : (flags : ℕ) → flags < 32 → flags_with (flags % 8) (flags / 8 % 2 == 1) (flags / 16 == 1) ≡ flags
flags_are flags below =
    elim (cases_Bool (flags / 8 % 2 == 1)) [
      | inl kid ↦ elim (cases_Bool (flags / 16 == 1)) [
        | inl context ↦ rw (kid, context) (omega (arith, eqb-true (flags / 8 % 2) 1 kid, eqb-true (flags / 16) 1 context))
        | inr no_context ↦ rw (kid, no_context) (omega (arith, eqb-true (flags / 8 % 2) 1 kid, eqb-false (flags / 16) 1 no_context))
      ]
      | inr no_kid ↦ elim (cases_Bool (flags / 16 == 1)) [
        | inl context ↦ rw (no_kid, context) (omega (arith, eqb-false (flags / 8 % 2) 1 no_kid, eqb-true (flags / 16) 1 context))
        | inr no_context ↦ rw (no_kid, no_context) (omega (arith, eqb-false (flags / 8 % 2) 1 no_kid, eqb-false (flags / 16) 1 no_context))
      ]
    ]

record ArePartsOf (flags : ℕ) (bytes : List ℕ) (c : Compressed) : Type 0 where
  lawful : HasValueSpelling c
  flags_are : flag_bits c ≡ flags
  whole : bytes ≡ parts_of c

parts_taken : (flags : ℕ) (bytes : List ℕ) (c : Compressed) → flags < 32 → AreBytes bytes → parts_at flags bytes ≡ Some c → ArePartsOf flags bytes c
unfolding parts_at
parts_taken flags bytes c below are e =
    let a = bind_some (partial_iv_at (flags % 8) bytes) _ c e in
    let b = bind_some (kid_context_at (flags / 16 == 1) a.0.1) _ c a.2 in
    let d = bind_some (kid_at (flags / 8 % 2 == 1) b.0.1) _ c b.2 in
    let n = number_taken (flags % 8) bytes a.0.0 a.0.1 are a.1 in
    let x = context_taken (flags / 16 == 1) a.0.1 b.0.0 b.0.1 n.rest_fits b.1 in
    let k = kid_taken (flags / 8 % 2 == 1) b.0.1 d.0 d.1 in
    let said : Compressed = record { partial_iv = a.0.0; kid_context = b.0.0; kid = d.0 } in
    let same : said ≡ c = ap (λ (o : Option Compressed). unwrap_or o said) d.2 in
    subst (ArePartsOf flags bytes) same (record {
      lawful = record { number = n.fits; kid_context = x.fits };
      flags_are = rw (n.size_is, k.is_so, x.is_so) (flags_are flags below);
      whole = n.parts ∙ ap (λ (t : List ℕ). partial_iv_bytes a.0.0 ++ t) (x.parts ∙ ap (λ (t : List ℕ). kid_context_bytes b.0.0 ++ t) k.whole) ∙ sym (append_assoc (partial_iv_bytes a.0.0) (kid_context_bytes b.0.0) (unwrap_or d.0 []));
    })

pub found : (bytes : List ℕ) (c : Option Compressed) → AreBytes bytes → c ≡ value_at bytes → IfSome c (SpellsValue bytes)
unfolding value_spelling value_at
found bytes None are e = tt
found [] (Some c) are e =
    let nothing : Compressed = record { partial_iv = None; kid_context = None; kid = None } in
    let same : c ≡ nothing = ap (λ (o : Option Compressed). unwrap_or o c) e in
    subst (SpellsValue []) (sym same) (record { lawful = record { number = tt; kid_context = tt }; whole = refl })
found (flags ∷ bytes) (Some c) are e =
    let a = goes_on (flags == 0) _ c (sym e) in
    let b = goes_on (ltb 31 flags) _ c a.1 in
    let below = ltb-false 31 flags b.0 in
    let p = parts_taken flags bytes c (omega arith) (λ i. are (suc i)) b.1 in
    record { lawful = p.lawful; whole = rw (p.flags_are, a.0) (ap (λ (t : List ℕ). flags ∷ t) p.whole) }
