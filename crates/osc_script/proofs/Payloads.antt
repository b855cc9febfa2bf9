-- A word spells bytes exactly where they are read, and they are those.
use Rattle.std.proofs.Common.{◌≡◌, ℕ, zero, suc, ◌+◌, ◌-◌, ◌*◌, ◌<◌, ◌==◌, Bool, true, false, List, [], ◌∷◌, ◌++◌, length, get_or, replicate, min, Option, Some, None, Result, Ok, Err, codes, nat_lt, refl, sym, ap, subst, ◌∙◌, arith, inl, inr, ◌⊎◌, Bor, map, take, drop, add-one, drop-cons, drop_of_length-le, ◌≤◌, append-nil, eqb-true, bytes_eq, ltb-true, lt-ltb, cond, nat_le, leb-true, le-leb, length-append, option_map}
use Rattle.std.proofs.lemmas.List.{length-take, take_all}
use Rattle.std.proofs.lemmas.Option.{cond_some}
use Rattle.std.specs.Prelude.{slice_index, IfSome, IsNone, ◌≢◌}
use Rattle.std.specs.List.{slice_split}
use Rattle.std.proofs.lemmas.Bool.{cases_Bool}
use Rattle.std.proofs.lemmas.List.Elements.{All-head, All-tail}
use Rattle.std.proofs.lemmas.Slice.Eq.{bytes_eq-Decides}
use Rattle.hex.specs.Hex.{decode_of, is_hex_digit}
use Rattle.hex.specs.declared.error.FromHexError.{FromHexError}
use Rattle.hex.proofs.HexLemmas.{decode_of-ok}
use Rattle.osc_script.specs.{SpellsNumber, most_kept, SpellsPairs, SpellsRepeated, SpellParts, SpellsBytes, SpellsKept}
use Rattle.osc_script.specs.Inner.Reading.{◌>>=◌, number_in, decoded, hex_in, nonce_in, repeated_in, part_in, parts_in, bytes_in, kept_in, short_bytes_in}
use Rattle.osc_script.proofs.Found.{step_found, mapped_found, not_mapped, test_held, none_unless}
use Rattle.osc_script.proofs.Numbers.{number_found, number_again}

decoded_ok : (r : Result (List ℕ) FromHexError) (bytes : List ℕ) → decoded r ≡ Some bytes → r ≡ Ok bytes
decoded_ok (Ok x) bytes e = cc
decoded_ok (Err d) bytes e = absurd cc

pub hex_found : (part bytes : List ℕ) → hex_in part ≡ Some bytes → SpellsPairs part bytes
unfolding hex_in
hex_found part bytes e =
    let t = test_held (nat_lt 0 (length part)) (decoded (decode_of part)) bytes e in
    record { some = ltb-true 0 (length part) t.0; digits = decoded_ok (decode_of part) bytes t.1 }

pub hex_again : (part bytes : List ℕ) → SpellsPairs part bytes → hex_in part ≡ Some bytes
unfolding hex_in
hex_again part bytes s =
    let some : nat_lt 0 (length part) ≡ true = lt-ltb 0 (length part) s.some in
    rw (some, s.digits) refl

-- pairs of digits are twice as long as their bytes
twice : (part bytes : List ℕ) → decode_of part ≡ Ok bytes → length part ≡ 2 * length bytes
twice part bytes e = (decode_of-ok part bytes e).2

one_byte : (bytes : List ℕ) → length bytes ≡ 1 → bytes ≡ get_or bytes 0 0 ∷ []
one_byte [] h = absurd (omega arith)
one_byte (b ∷ []) h = refl
one_byte (b ∷ c ∷ bytes) h = absurd (omega arith)

-- no `*` is a digit
no_star : (high low : ℕ) (digits bytes : List ℕ) → decode_of (high ∷ low ∷ 42 ∷ digits) ≡ Ok bytes → ⊥
no_star high low digits bytes e =
    let P : ℕ → Type 0 = λ x. is_hex_digit x ≡ true in
    let all = (decode_of-ok (high ∷ low ∷ 42 ∷ digits) bytes e).1 in
    let star : is_hex_digit 42 ≡ true = All-head P 42 digits (All-tail P low (42 ∷ digits) (All-tail P high (low ∷ 42 ∷ digits) all)) in
    cc

repeated_found : (high low : ℕ) (digits bytes : List ℕ) → repeated_in (high ∷ low ∷ []) digits ≡ Some bytes → SpellsRepeated (high ∷ low ∷ 42 ∷ digits) bytes
unfolding repeated_in
repeated_found high low digits bytes e =
    let a = step_found (hex_in (high ∷ low ∷ [])) (λ bytes. number_in digits >>= λ count. Some (replicate count (slice_index bytes 0))) bytes e in
    let b = step_found (number_in digits) (λ count. Some (replicate count (slice_index a.0 0))) bytes a.2 in
    let pair = (hex_found (high ∷ low ∷ []) a.0 a.1).digits in
    record {
      byte = get_or a.0 0 0;
      count = b.0;
      pair = high ∷ low ∷ [];
      digits = digits;
      whole = refl;
      is_pair = pair ∙ ap Ok (one_byte a.0 (omega (arith, twice (high ∷ low ∷ []) a.0 pair)));
      is_count = number_found digits b.0 b.1;
      repeated = sym (some_is (replicate b.0 (get_or a.0 0 0)) bytes b.2);
    }
  where
    some_is : (x y : List ℕ) → Some x ≡ Some y → x ≡ y
    some_is x y e = cc

pub part_found : (part bytes : List ℕ) → part_in part ≡ Some bytes → SpellsPairs part bytes ⊎ SpellsRepeated part bytes
unfolding part_in
part_found [] bytes e = inl (hex_found [] bytes e)
part_found (high ∷ []) bytes e = inl (hex_found (high ∷ []) bytes e)
part_found (high ∷ low ∷ []) bytes e = inl (hex_found (high ∷ low ∷ []) bytes e)
part_found (high ∷ low ∷ star ∷ digits) bytes e =
    elim (cases_Bool (star == 42)) [
      | inl same ↦
          let is_star : 42 ≡ star = sym (eqb-true star 42 same) in
          let read : repeated_in (high ∷ low ∷ []) digits ≡ Some bytes = sym (rw same refl) ∙ e in
          subst (λ (c : ℕ). SpellsPairs (high ∷ low ∷ c ∷ digits) bytes ⊎ SpellsRepeated (high ∷ low ∷ c ∷ digits) bytes) is_star (inr (repeated_found high low digits bytes read))
      | inr other ↦
          let read : hex_in (high ∷ low ∷ star ∷ digits) ≡ Some bytes = sym (rw other refl) ∙ e in
          inl (hex_found (high ∷ low ∷ star ∷ digits) bytes read)
    ]

hex_part : (part bytes : List ℕ) → SpellsPairs part bytes → part_in part ≡ Some bytes
unfolding part_in
hex_part [] bytes s = hex_again [] bytes s
hex_part (high ∷ []) bytes s = hex_again (high ∷ []) bytes s
hex_part (high ∷ low ∷ []) bytes s = hex_again (high ∷ low ∷ []) bytes s
hex_part (high ∷ low ∷ star ∷ digits) bytes s =
    elim (cases_Bool (star == 42)) [
      | inl same ↦ absurd (no_star high low digits bytes (ap (λ (c : ℕ). decode_of (high ∷ low ∷ c ∷ digits)) (sym (eqb-true star 42 same)) ∙ s.digits))
      | inr other ↦ rw other (hex_again (high ∷ low ∷ star ∷ digits) bytes s)
    ]

repeated_part : (pair digits : List ℕ) (byte count : ℕ) → decode_of pair ≡ Ok (byte ∷ []) → SpellsNumber digits count → part_in (pair ++ 42 ∷ digits) ≡ Some (replicate count byte)
unfolding part_in repeated_in
repeated_part [] digits byte count d n = absurd (omega (arith, twice [] (byte ∷ []) d))
repeated_part (high ∷ []) digits byte count d n = absurd (omega (arith, twice (high ∷ []) (byte ∷ []) d))
repeated_part (high ∷ low ∷ []) digits byte count d n =
    let pair : hex_in (high ∷ low ∷ []) ≡ Some (byte ∷ []) = hex_again (high ∷ low ∷ []) (byte ∷ []) (record { some = omega arith; digits = d }) in
    rw (pair, number_again digits count n) refl
repeated_part (high ∷ low ∷ more ∷ rest) digits byte count d n = absurd (omega (arith, twice (high ∷ low ∷ more ∷ rest) (byte ∷ []) d))

pub part_again : (part bytes : List ℕ) → SpellsPairs part bytes ⊎ SpellsRepeated part bytes → part_in part ≡ Some bytes
part_again part bytes (inl s) = hex_part part bytes s
part_again part bytes (inr s) = ap part_in s.whole ∙ repeated_part s.pair s.digits s.byte s.count s.is_pair s.is_count ∙ ap Some (sym s.repeated)

pub parts_found : (parts : List (List ℕ)) (bytes : List ℕ) → parts_in parts ≡ Some bytes → SpellParts parts bytes
unfolding parts_in
parts_found [] bytes e = cc
parts_found (part ∷ parts) bytes e =
    let a = step_found (part_in part) (λ first. parts_in parts >>= λ rest. Some (first ++ rest)) bytes e in
    let b = step_found (parts_in parts) (λ rest. Some (a.0 ++ rest)) bytes a.2 in
    (a.0, b.0, part_found part a.0 a.1, parts_found parts b.0 b.1, some_is (a.0 ++ b.0) bytes b.2)
  where
    some_is : (x y : List ℕ) → Some x ≡ Some y → y ≡ x
    some_is x y e = cc

pub parts_again : (parts : List (List ℕ)) (bytes : List ℕ) → SpellParts parts bytes → parts_in parts ≡ Some bytes
unfolding parts_in
parts_again [] bytes s = ap Some (sym s)
parts_again (part ∷ parts) bytes s = rw (part_again part s.0 s.2, parts_again parts s.1 s.3) (ap Some (sym s.4))

pub bytes_found : (word bytes : List ℕ) → bytes_in word ≡ Some bytes → SpellsBytes word bytes
unfolding bytes_in
bytes_found word bytes e =
    elim (cases_Bool (bytes_eq word (codes "-"))) [
      | inl same ↦ inl ((bytes_eq-Decides word (codes "-")).0 same, some_is [] bytes (sym (rw same refl) ∙ e))
      | inr other ↦ inr (parts_found (slice_split (λ b. b == 43) word) bytes (sym (rw other refl) ∙ e))
    ]
  where
    some_is : (x y : List ℕ) → Some x ≡ Some y → y ≡ x
    some_is x y e = cc

pub bytes_again : (word bytes : List ℕ) → SpellsBytes word bytes → bytes_in word ≡ Some bytes
unfolding bytes_in parts_in part_in hex_in
bytes_again word bytes (inl s) = rw s.0 (ap Some (sym s.1))
bytes_again word bytes (inr s) =
    elim (cases_Bool (bytes_eq word (codes "-"))) [
      | inl same ↦
          let is_dash : word ≡ codes "-" = (bytes_eq-Decides word (codes "-")).0 same in
          let read : parts_in (slice_split (λ b. b == 43) (codes "-")) ≡ Some bytes = ap (λ (w : List ℕ). parts_in (slice_split (λ b. b == 43) w)) (sym is_dash) ∙ parts_again (slice_split (λ b. b == 43) word) bytes s in
          absurd cc
      | inr other ↦ rw other (parts_again (slice_split (λ b. b == 43) word) bytes s)
    ]

-- ---- the first of the bytes

pub kept_found : (word kept : List ℕ) → kept_in word ≡ Some kept → SpellsKept word kept
unfolding kept_in
kept_found word kept e =
    let m = mapped_found (take most_kept) (bytes_in word) kept e in
    (m.0, bytes_found word m.0 m.1, m.2)

pub kept_again : (word kept : List ℕ) → SpellsKept word kept → kept_in word ≡ Some kept
unfolding kept_in
kept_again word kept s = rw (bytes_again word s.0 s.1) (ap Some (sym s.2))

pub short_found : (most : ℕ) (word bytes : List ℕ) → short_bytes_in most word ≡ Some bytes → (bytes_in word ≡ Some bytes) × (length bytes ≤ most)
unfolding short_bytes_in
short_found most word bytes e =
    let a = step_found (bytes_in word) (λ bytes. cond (nat_le (length bytes) most) (Some bytes) None) bytes e in
    let c = cond_some (nat_le (length a.0) most) a.0 bytes a.2 in
    (a.1 ∙ ap Some c.1, rw (← c.1) (leb-true (length a.0) most c.0))

pub short_again : (most : ℕ) (word bytes : List ℕ) → bytes_in word ≡ Some bytes → length bytes ≤ most → short_bytes_in most word ≡ Some bytes
unfolding short_bytes_in
short_again most word bytes e le = rw (e, le-leb (length bytes) most le) refl

-- as many as are wanted and one more tell whether there are more than are wanted
pub few_enough : (most : ℕ) (word kept : List ℕ) → Some kept ≡ option_map (take (most + 1)) (bytes_in word) → length kept ≤ most → Some kept ≡ short_bytes_in most word
few_enough most word kept e le =
    let m = mapped_found (take (most + 1)) (bytes_in word) kept (sym e) in
    let all : length m.0 ≤ most + 1 = omega (arith, le, ap length m.2, length-take (most + 1) m.0) in
    sym (short_again most word kept (m.1 ∙ ap Some (sym (m.2 ∙ take_all (most + 1) m.0 all))) le)

pub too_many : (most : ℕ) (word kept : List ℕ) → Some kept ≡ option_map (take (most + 1)) (bytes_in word) → most < length kept → None ≡ short_bytes_in most word
too_many most word kept e lt =
    let m = mapped_found (take (most + 1)) (bytes_in word) kept (sym e) in
    sym (none_unless (short_bytes_in most word) (λ bytes f.
    let s = short_found most word bytes f in
    let same : m.0 ≡ bytes = some_is m.0 bytes (sym m.1 ∙ s.0) in
    omega (arith, lt, s.1, ap length same, length-take (most + 1) m.0, ap length m.2)))
  where
    some_is : (x y : List ℕ) → Some x ≡ Some y → x ≡ y
    some_is x y e = cc

pub not_read : (most wanted : ℕ) (word : List ℕ) → None ≡ option_map (take wanted) (bytes_in word) → None ≡ short_bytes_in most word
not_read most wanted word e =
    sym (none_unless (short_bytes_in most word) (λ bytes f. let some : None ≡ Some (take wanted bytes) = e ∙ ap (option_map (take wanted)) (short_found most word bytes f).0 in absurd cc))

-- what hex reads
pub pairs_read : (part bytes : List ℕ) (empty : Bool) → empty ≡ (length part == 0) → empty ≡ false → decode_of part ≡ Ok bytes → Some bytes ≡ hex_in part
pairs_read [] bytes empty e f d = absurd cc
pairs_read (c ∷ part) bytes empty e f d = sym (hex_again (c ∷ part) bytes (record { some = omega arith; digits = d }))

-- what was read isn't empty
pub not_empty : (part bytes : List ℕ) → Some bytes ≡ hex_in part → 0 < length bytes
not_empty part bytes e =
    let s = hex_found part bytes (sym e) in
    omega (arith, s.some, twice part bytes s.digits)

first_replicated : (most count byte : ℕ) → take most (replicate count byte) ≡ replicate (min count most) byte
first_replicated zero count byte = let none : min count 0 ≡ 0 = omega arith in rw none refl
first_replicated (suc most) zero byte = let none : min 0 (suc most) ≡ 0 = omega arith in rw none refl
first_replicated (suc most) (suc count) byte =
    let more : min (suc count) (suc most) ≡ suc (min count most) = omega arith in
    rw more (ap (λ (bytes : List ℕ). byte ∷ bytes) (first_replicated most count byte))

-- what a pair and a count read
pub repeated_read : (pair digits read bytes : List ℕ) (count byte most : ℕ) → Some read ≡ hex_in pair → Some count ≡ number_in digits → byte ≡ get_or read 0 0 → bytes ≡ replicate (min count most) byte
    → Some bytes ≡ option_map (take most) (repeated_in pair digits)
unfolding repeated_in
repeated_read pair digits read bytes count byte most h n b e = rw (← h, ← n, e, b) (ap Some (sym (first_replicated most count (get_or read 0 0))))

pub nonce_found : (word bytes : List ℕ) → nonce_in word ≡ Some bytes → (length word ≡ 16) × SpellsPairs word bytes
unfolding nonce_in
nonce_found word bytes e =
    let t = test_held (length word == 16) (hex_in word) bytes e in
    (eqb-true (length word) 16 t.0, hex_found word bytes t.1)

pub nonce_again : (word bytes : List ℕ) → length word ≡ 16 → SpellsPairs word bytes → nonce_in word ≡ Some bytes
unfolding nonce_in
nonce_again word bytes e s = rw e (hex_again word bytes s)

-- 16 digits spell eight bytes, however these are kept
pub nonce_read : (word bytes : List ℕ) (found : Option (List ℕ)) → length word ≡ 16 → Some bytes ≡ hex_in word
    → IfSome found (λ eight. eight ≡ bytes) → (IsNone found → length bytes ≢ 8) → found ≡ nonce_in word
nonce_read word bytes (Some eight) e read some none = ap Some some ∙ sym (nonce_again word bytes e (hex_found word bytes (sym read)))
nonce_read word bytes None e read some none = absurd (none refl (let s = hex_found word bytes (sym read) in omega (arith, twice word bytes s.digits)))

-- the first of the parts before and of those that are still to come
abbrev pub with_front : ℕ → List ℕ → Option (List ℕ) → Option (List ℕ)
with_front most front found = option_map (λ rest. take most (front ++ rest)) found

-- what is left out of one part is left out of the whole
first_again : (most : ℕ) (first rest : List ℕ) → take most (first ++ rest) ≡ take most (take most first ++ rest)
first_again zero first rest = refl
first_again (suc most) [] rest = refl
first_again (suc most) (x ∷ first) rest = ap (λ (bytes : List ℕ). x ∷ bytes) (first_again most first rest)

first_behind : (most : ℕ) (front first rest : List ℕ) → length front ≤ most → take most (front ++ (first ++ rest)) ≡ take most ((front ++ take (most - length front) first) ++ rest)
first_behind most [] first rest few = let all : most - 0 ≡ most = omega arith in rw all (first_again most first rest)
first_behind zero (x ∷ front) first rest few = absurd (omega (arith, few))
first_behind (suc most) (x ∷ front) first rest few =
    let left : suc most - length (x ∷ front) ≡ most - length front = omega arith in
    rw left (ap (λ (bytes : List ℕ). x ∷ bytes) (first_behind most front first rest (omega (arith, few))))

goes_on : (most : ℕ) (front first : List ℕ) (part : List ℕ) (parts : List (List ℕ)) → length front ≤ most → part_in part ≡ Some first
    → with_front most front (parts_in (part ∷ parts)) ≡ with_front most (front ++ take (most - length front) first) (parts_in parts)
unfolding parts_in
goes_on most front first part parts few e = rw e (regroup (parts_in parts))
  where
    regroup : (found : Option (List ℕ)) → with_front most front (found >>= λ rest. Some (first ++ rest)) ≡ with_front most (front ++ take (most - length front) first) found
    regroup (Some rest) = ap Some (first_behind most front first rest few)
    regroup None = refl

ends : (most : ℕ) (front part : List ℕ) (parts : List (List ℕ)) → part_in part ≡ None → with_front most front (parts_in (part ∷ parts)) ≡ None
unfolding parts_in
ends most front part parts e = rw e refl

is_done : (most : ℕ) (front : List ℕ) → length front ≤ most → with_front most front (parts_in []) ≡ Some front
unfolding parts_in
is_done most front few = ap Some (ap (take most) (append-nil front) ∙ take_all most front few)

-- the same at place i of what a loop goes over
drop_part : (parts : List (Bor (List ℕ))) (i : ℕ) (d : Bor (List ℕ)) → i < length parts → map (λ part. part.now) (drop i parts) ≡ (get_or parts i d).now ∷ map (λ part. part.now) (drop (i + 1) parts)
drop_part parts i d lt = rw (add-one, drop-cons parts i d) refl

pub still_few : (most left : ℕ) (front first all : List ℕ) (part : Option (List ℕ)) → left ≡ most - length front → length front ≤ most → Some first ≡ option_map (take left) part → all ≡ front ++ first → length all ≤ most
still_few most left front first all part rest few e joined =
    let m = mapped_found (take left) part first (sym e) in
    omega (arith, rest, few, ap length joined, length-append front first, ap length m.2, length-take left m.0)

pub goes_on_at : (most left : ℕ) (front first all : List ℕ) (parts : List (Bor (List ℕ))) (i : ℕ) (d : Bor (List ℕ)) (total : Option (List ℕ)) → i < length parts → left ≡ most - length front → length front ≤ most
    → Some first ≡ option_map (take left) (part_in (get_or parts i d).now) → all ≡ front ++ first
    → with_front most front (parts_in (map (λ part. part.now) (drop i parts))) ≡ total → with_front most all (parts_in (map (λ part. part.now) (drop (i + 1) parts))) ≡ total
goes_on_at most left front first all parts i d total lt is_left few e joined so_far =
    let rest = map (λ (part : Bor (List ℕ)). part.now) (drop (i + 1) parts) in
    let m = mapped_found (take (most - length front)) (part_in (get_or parts i d).now) first (sym (rw is_left at e)) in
    rw (joined, m.2) (sym (goes_on most front m.0 (get_or parts i d).now rest few m.1) ∙ sym (ap (λ (p : List (List ℕ)). with_front most front (parts_in p)) (drop_part parts i d lt)) ∙ so_far)

pub ends_at : (most left : ℕ) (front : List ℕ) (parts : List (Bor (List ℕ))) (i : ℕ) (d : Bor (List ℕ)) (total : Option (List ℕ)) → i < length parts → None ≡ option_map (take left) (part_in (get_or parts i d).now)
    → with_front most front (parts_in (map (λ part. part.now) (drop i parts))) ≡ total → None ≡ total
ends_at most left front parts i d total lt e so_far =
    let rest = map (λ (part : Bor (List ℕ)). part.now) (drop (i + 1) parts) in
    let none = not_mapped (take left) (part_in (get_or parts i d).now) (sym e) in
    sym (ends most front (get_or parts i d).now rest none) ∙ sym (ap (λ (p : List (List ℕ)). with_front most front (parts_in p)) (drop_part parts i d lt)) ∙ so_far

pub is_done_at : (most : ℕ) (front : List ℕ) (parts : List (Bor (List ℕ))) (i : ℕ) (total : Option (List ℕ)) → length parts ≤ i → length front ≤ most
    → with_front most front (parts_in (map (λ part. part.now) (drop i parts))) ≡ total → Some front ≡ total
is_done_at most front parts i total le few so_far =
    sym (is_done most front few) ∙ sym (ap (λ (p : List (Bor (List ℕ))). with_front most front (parts_in (map (λ part. part.now) p))) (drop_of_length-le parts le)) ∙ so_far

-- an item at a place inside, whatever stands for the others
pub get_inside : (xs : List ℕ) (x : ℕ) → 0 < length xs → x ≡ get_or xs 0 x → x ≡ get_or xs 0 0
get_inside [] x lt e = absurd (omega arith)
get_inside (y ∷ xs) x lt e = e
