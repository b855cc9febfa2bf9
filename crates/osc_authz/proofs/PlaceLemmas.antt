-- Where recipient IDs are in a table.
use Rattle.std.proofs.Common.{◌≡◌, ◌≢◌, ℕ, zero, suc, ◌+◌, ◌<◌, ◌≤◌, ◌==◌, Bool, true, false, not, ◌||◌, cond, List, [], ◌∷◌, ◌++◌, length, get_or, set, drop, drop-cons, replicate, Option, Some, None, option_map, refl, sym, ap, ◌∙◌, arith, position, nat_lt, add-zero, zero-add}
use Rattle.std.specs.List.{AllByRecursion, find, position_or_len}
use Rattle.std.specs.Option.{option_map_or}
use Rattle.std.specs.Str.{bytes_eq}
use Rattle.std.proofs.lemmas.Bool.{cond-false, cond-true}
use Rattle.std.proofs.lemmas.Bool.Decides.{nat_tests}
use Rattle.std.proofs.lemmas.List.{at_drop_all, length-set, get_or-replicate}
use Rattle.std.proofs.lemmas.List.Elements.{recursion_from_All}
use Rattle.std.proofs.lemmas.List.Folds.{position_or_len-set}
use Rattle.std.proofs.lemmas.List.Quantifiers.{position-Some}
use Rattle.std.proofs.lemmas.Slice.Eq.{bytes_eq-Decides}
use Rattle.osc_authz.specs.declared.token_entry.TokenEntry.{TokenEntry}
use Rattle.osc_authz.specs.SecurityContext.{SecurityContext}
use Rattle.osc_authz.specs.Inner.Places.{IsIndex, nowhere, place_at, told}
use Rattle.osc_authz.specs.{IsLawfulContext, IsTable, accepted, accepted_in, contexts, has_id, holder_at, holds_id, listed, taking, with_id}
use Rattle.osc_authz.proofs.Lookups.{IsNone, accepted_here, is_placed, misses, neither}

-- ---- the places that are noted

-- the first place, from this one on, of a token id that has the context
abbrev pub place_from : ℕ → List ℕ → List TokenEntry → Option ℕ
place_from k id [] = None
place_from k id (entry ∷ table) = cond (holds_id id entry) (Some k) (place_from (suc k) id table)

place_is : (id : List ℕ) (k : ℕ) (table : List TokenEntry)
    → place_from k id table ≡ cond (nat_lt (position_or_len (holds_id id) table) (length table)) (Some (k + position_or_len (holds_id id) table)) None
place_is id k [] = refl
place_is id k (entry ∷ table) = by (holds_id id entry) (1 + first) (omega arith) (place_is id (suc k) table)
  where
    first : ℕ
    first = position_or_len (holds_id id) table

    by : (b : Bool) (n : ℕ) → n ≡ suc first → place_from (suc k) id table ≡ cond (nat_lt first (length table)) (Some (suc k + first)) None
        → cond b (Some k) (place_from (suc k) id table) ≡ cond (nat_lt (cond (not b) n 0) (suc (length table))) (Some (k + cond (not b) n 0)) None
    by true n is up =
        let inside : nat_lt 0 (suc (length table)) ≡ true = grind (arith, nat_tests) in
        ap Some (sym (add-zero k)) ∙ sym (cond-true (nat_lt 0 (suc (length table))) (Some (k + 0)) None inside)
    by false n is up =
        let inside : nat_lt first (length table) ≡ nat_lt n (suc (length table)) = grind (arith, nat_tests) in
        let place : suc k + first ≡ k + n = omega (arith, is) in
        up ∙ (λ i. cond (inside i) (Some (place i)) None)

pub placed_is : (id : List ℕ) (table : List TokenEntry) → place_from 0 id table ≡ position (holds_id id) table
placed_is id table =
    let first = position_or_len (holds_id id) table in
    place_is id 0 table ∙ ap (λ n. cond (nat_lt first (length table)) (Some n) None) (zero-add first)

-- the places noted are those from this one on
abbrev pub AreFrom : ℕ → List ℕ → List TokenEntry → Type 0
AreFrom left places table = (byte : ℕ) → byte < 256 → told (place_at places byte) ≡ place_from left (byte ∷ []) (drop left table)

pub none_noted : (byte : ℕ) → byte < 256 → told (place_at (replicate 256 nowhere) byte) ≡ None
none_noted byte small = ap told (get_or-replicate 256 byte nowhere nowhere small)

pub none_left : (id : List ℕ) (table : List TokenEntry) → place_from (length table) id (drop (length table) table) ≡ None
none_left id table = at_drop_all (place_from (length table) id) table (length table) (omega arith)

pub empty_index : IsIndex (replicate 256 nowhere) []
empty_index byte small = none_noted byte small

-- one more token id, before those that are noted
pub one_more : (table : List TokenEntry) (left : ℕ) (entry : TokenEntry) (byte old new : ℕ) → left < length table → length table ≤ 64 → entry ≡ get_or table left entry
    → new ≡ cond (holds_id (byte ∷ []) entry) left old → told old ≡ place_from (suc left) (byte ∷ []) (drop (suc left) table)
    → told new ≡ place_from left (byte ∷ []) (drop left table)
one_more table left entry byte old new within few is noted before =
    ap told noted
    ∙ by (holds_id (byte ∷ []) entry) before
    ∙ sym (ap (place_from left (byte ∷ [])) (drop-cons table left entry within ∙ ap (λ h. h ∷ drop (suc left) table) (sym is)))
  where
    rest : Option ℕ
    rest = place_from (suc left) (byte ∷ []) (drop (suc left) table)

    by : (b : Bool) → told old ≡ rest → told (cond b left old) ≡ cond b (Some left) rest
    by true up =
        let other : (left == nowhere) ≡ false = grind (arith, nat_tests) in
        cond-false (left == nowhere) None (Some left) other
    by false up = up

-- ---- look-ups by them

-- an ID that isn't one byte is none of a table
other_id : (id : List ℕ) (number : ℕ) (xs : List SecurityContext) → length id ≢ 1 → AllByRecursion IsLawfulContext xs → IsNone id number xs
other_id id number [] other all = tt
other_id id number (x ∷ xs) other all = (go (bytes_eq id x.name.client_id) refl, other_id id number xs other all.1)
  where
    go : (b : Bool) → bytes_eq id x.name.client_id ≡ b → b ≡ false
    go true e = absurd (other (ap length ((bytes_eq-Decides id x.name.client_id).0 e ∙ all.0.one_byte)))
    go false e = refl

none_from : (id : List ℕ) (number k : ℕ) (table : List TokenEntry) → IsNone id number (contexts table) → place_from k id table ≡ None
none_from id number k [] none = refl
none_from id number k (entry ∷ table) none =
    let parts = neither id number entry.confirmed entry.pending (contexts table) none in
    cond-false (holds_id id entry) (Some k) (place_from (suc k) id table) parts.0 ∙ none_from id number (suc k) table parts.1

pub no_place : (id : List ℕ) (table : List TokenEntry) → IsTable table → length id ≢ 1 → None ≡ position (holds_id id) table
no_place id table is_table other =
    sym (none_from id 0 0 table (other_id id 0 (contexts table) other (recursion_from_All IsLawfulContext (contexts table) is_table.lawful))) ∙ placed_is id table

abbrev both : TokenEntry → List SecurityContext
both entry = listed entry.confirmed ++ listed entry.pending

hits : (id : List ℕ) (c p : Option SecurityContext) (rest : List SecurityContext) → (option_map_or (has_id id) c false || option_map_or (has_id id) p false) ≡ true
    → find (has_id id) (listed c ++ listed p ++ rest) ≡ find (has_id id) (listed c ++ listed p)
hits id None None rest has = cc
hits id None (Some held) rest has = by (has_id id held) has
  where
    by : (b : Bool) → b ≡ true → cond b (Some held) (find (has_id id) rest) ≡ cond b (Some held) None
    by true e = refl
    by false e = cc
hits id (Some held) None rest has = by (has_id id held) has
  where
    by : (b : Bool) → (b || false) ≡ true → cond b (Some held) (find (has_id id) rest) ≡ cond b (Some held) None
    by true e = refl
    by false e = cc
hits id (Some held) (Some other) rest has = by (has_id id held) (has_id id other) has
  where
    by : (b c : Bool) → (b || c) ≡ true → cond b (Some held) (cond c (Some other) (find (has_id id) rest)) ≡ cond b (Some held) (cond c (Some other) None)
    by true c e = refl
    by false true e = refl
    by false false e = cc

found_at : (id : List ℕ) (table : List TokenEntry) (i : ℕ) (d : TokenEntry) → i < length table → holds_id id (get_or table i d) ≡ true
    → ((k : ℕ) → k < i → holds_id id (get_or table k d) ≡ false) → find (has_id id) (both (get_or table i d)) ≡ with_id id table
found_at id [] i d within has first = absurd (omega arith)
found_at id (entry ∷ table) zero d within has first = sym (hits id entry.confirmed entry.pending (contexts table) has)
found_at id (entry ∷ table) (suc i) d within has first =
    found_at id table i d (omega arith) has (λ k below. first (suc k) (omega arith))
    ∙ sym (misses id 0 entry.confirmed entry.pending (contexts table) (first 0 (omega arith)))

-- the context is that of the token id at its place ..
pub found_there : (id : List ℕ) (table : List TokenEntry) (i : ℕ) (d : TokenEntry) → position (holds_id id) table ≡ Some i
    → find (has_id id) (listed (get_or table i d).confirmed ++ listed (get_or table i d).pending) ≡ with_id id table
found_there id table i d found =
    let at = position-Some (holds_id id) table i d found in
    found_at id table i d at.0 at.1 at.2

-- .. and where there is no place there is none
pub found_nowhere : (id : List ℕ) (table : List TokenEntry) → position (holds_id id) table ≡ None → None ≡ with_id id table
found_nowhere id table none = go (with_id id table) refl
  where
    go : (found : Option SecurityContext) → with_id id table ≡ found → None ≡ found
    go None e = refl
    go (Some held) e = absurd (is_placed id 0 table held e none)

-- the token id at that place is the one that has the context ..
first_holder : (id : List ℕ) (table : List TokenEntry) (i : ℕ) (d : TokenEntry) → i < length table → holds_id id (get_or table i d) ≡ true
    → ((k : ℕ) → k < i → holds_id id (get_or table k d) ≡ false) → Some (get_or table i d).id ≡ holder_at id table
first_holder id [] i d within has first = absurd (omega arith)
first_holder id (entry ∷ table) zero d within has first =
    ap (option_map (λ (e : TokenEntry). e.id)) (sym (cond-true (holds_id id entry) (Some entry) (find (holds_id id) table) has))
first_holder id (entry ∷ table) (suc i) d within has first =
    first_holder id table i d (omega arith) has (λ k below. first (suc k) (omega arith))
    ∙ ap (option_map (λ (e : TokenEntry). e.id)) (sym (cond-false (holds_id id entry) (Some entry) (find (holds_id id) table) (first 0 (omega arith))))

pub holder_there : (id : List ℕ) (table : List TokenEntry) (i : ℕ) (d : TokenEntry) → position (holds_id id) table ≡ Some i → Some (get_or table i d).id ≡ holder_at id table
holder_there id table i d found =
    let at = position-Some (holds_id id) table i d found in
    first_holder id table i d at.0 at.1 at.2

-- .. and where there is no place there is none
no_holder_from : (k : ℕ) (id : List ℕ) (table : List TokenEntry) → place_from k id table ≡ None → None ≡ holder_at id table
no_holder_from k id [] none = refl
no_holder_from k id (entry ∷ table) none = by (holds_id id entry) none (no_holder_from (suc k) id table)
  where
    by : (b : Bool) → cond b (Some k) (place_from (suc k) id table) ≡ None → (place_from (suc k) id table ≡ None → None ≡ holder_at id table)
        → None ≡ option_map (λ (e : TokenEntry). e.id) (cond b (Some entry) (find (holds_id id) table))
    by true e later = absurd (cc)
    by false e later = later e

pub holder_nowhere : (id : List ℕ) (table : List TokenEntry) → position (holds_id id) table ≡ None → None ≡ holder_at id table
holder_nowhere id table none = no_holder_from 0 id table (placed_is id table ∙ none)

-- ---- a request opened

same_ids : (id other : List ℕ) (number : ℕ) (entry : TokenEntry) → option_map_or (has_id id) entry.pending false ≡ false
    → holds_id other (accepted_in id number entry) ≡ holds_id other entry
same_ids id other number entry none = by (option_map_or (has_id id) entry.pending false) (option_map_or (has_id id) entry.confirmed false) none
  where
    taken : (context : Option SecurityContext) → option_map_or (has_id other) (option_map (taking number) context) false ≡ option_map_or (has_id other) context false
    taken None = refl
    taken (Some held) = refl

    by : (p c : Bool) → p ≡ false
        → holds_id other (cond p (record entry { confirmed = option_map (taking number) entry.pending; pending = None; last = None }) (cond c (record entry { confirmed = option_map (taking number) entry.confirmed; last = None }) entry)) ≡ holds_id other entry
    by true c e = cc
    by false true e = ap (λ b. b || option_map_or (has_id other) entry.pending false) (taken entry.confirmed)
    by false false e = refl

-- where no context is confirmed, each ID stays where it is
pub stays_indexed : (id : List ℕ) (number : ℕ) (table : List TokenEntry) (places : List ℕ) (i : ℕ) (d : TokenEntry) → IsTable table → IsIndex places table
    → position (holds_id id) table ≡ Some i → option_map_or (has_id id) (get_or table i d).pending false ≡ false → IsIndex places (accepted id number table)
stays_indexed id number table places i d is_table index found none = λ byte small.
    let p = holds_id (byte ∷ []) in
    let y = accepted_in id number (get_or table i d) in
    let first : position_or_len p (set table i y) ≡ position_or_len p table = position_or_len-set p table i y d (same_ids id (byte ∷ []) number (get_or table i d) none) in
    let size : length (set table i y) ≡ length table = length-set table i y in
    index byte small
    ∙ (λ j. cond (nat_lt (sym first j) (sym size j)) (Some (sym first j)) None)
    ∙ ap (position p) (accepted_here id number table i d is_table found)
