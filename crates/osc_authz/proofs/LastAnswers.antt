-- The last answers of a table.
use Rattle.std.proofs.Common.{◌≡◌, ℕ, zero, suc, ◌<◌, ◌≤◌, Bool, true, false, ◌||◌, cond, List, [], ◌∷◌, ◌++◌, length, map, get_or, set, Option, Some, None, option_map, refl, sym, ap, ap₂, ◌∙◌, subst, arith, position, nat_lt}
use Rattle.std.specs.Prelude.{option_and_then, slice_get}
use Rattle.std.specs.List.{IsDistinct, find, position_or_len}
use Rattle.std.specs.Option.{IfSome, option_map_or}
use Rattle.std.specs.Str.{bytes_eq}
use Rattle.std.proofs.lemmas.Bool.{cond-false, cond-true, ltb-false, ltb-true}
use Rattle.std.proofs.lemmas.List.{length-map, length-set}
use Rattle.std.proofs.lemmas.List.Elements.{All-cons, All-from_recursion, recursion_from_All}
use Rattle.std.proofs.lemmas.List.Folds.{position_or_len-set}
use Rattle.std.proofs.lemmas.List.Quantifiers.{position-Some}
use Rattle.std.proofs.lemmas.Option.{slice_get-get_or, slice_get_past}
use Rattle.std.proofs.lemmas.Slice.Eq.{bytes_eq-Decides}
use Rattle.osc_model.specs.Tree.{Tree}
use Rattle.osc_authz.specs.declared.token_entry.TokenEntry.{TokenEntry}
use Rattle.osc_authz.specs.LastAnswer.{LastAnswerState}
use Rattle.osc_authz.specs.SecurityContext.{SecurityContext}
use Rattle.osc_authz.specs.Inner.Places.{IsIndex}
use Rattle.osc_authz.specs.{AreFew, AreMarked, In, IsTable, KeepsPlace, accepted, accepted_in, answered_by, confirmed_at, confirms_id, contexts, has_id, holds_id, ids, last_at, last_in, listed, of_token, of_tokens, taking, with_id, with_last, with_last_in}
use Rattle.osc_authz.proofs.KeptPlaces.{kept_accepted, kept_by_tokens}
use Rattle.osc_authz.proofs.LifeLemmas.{marked_accepted}
use Rattle.osc_authz.proofs.Lookups.{IsNone, misses, neither, others, rest_apart, untouched}
use Rattle.osc_authz.proofs.PlaceLemmas.{place_from, placed_is}
use Rattle.osc_authz.proofs.TableLaws.{accepted_is_table, tokens}

-- ---- where an answer is

entry_within : (id : List ℕ) (table : List TokenEntry) (i : ℕ) (d : TokenEntry) → i < length table → holds_id id (get_or table i d) ≡ true
    → ((k : ℕ) → k < i → holds_id id (get_or table k d) ≡ false) → last_in id (get_or table i d) ≡ last_at id table
entry_within id [] i d within has first = absurd (omega arith)
entry_within id (entry ∷ table) zero d within has first =
    ap (option_and_then (last_in id)) (sym (cond-true (holds_id id entry) (Some entry) (find (holds_id id) table) has))
entry_within id (entry ∷ table) (suc i) d within has first =
    entry_within id table i d (omega arith) has (λ k below. first (suc k) (omega arith))
    ∙ ap (option_and_then (last_in id)) (sym (cond-false (holds_id id entry) (Some entry) (find (holds_id id) table) (first 0 (omega arith))))

-- the answer is that of the token id at the place of the ID ..
pub last_there : (id : List ℕ) (table : List TokenEntry) (i : ℕ) (d : TokenEntry) → position (holds_id id) table ≡ Some i → last_in id (get_or table i d) ≡ last_at id table
last_there id table i d found =
    let at = position-Some (holds_id id) table i d found in
    entry_within id table i d at.0 at.1 at.2

-- .. and where there is no place there is none
no_last_from : (k : ℕ) (id : List ℕ) (table : List TokenEntry) → place_from k id table ≡ None → None ≡ last_at id table
no_last_from k id [] none = refl
no_last_from k id (entry ∷ table) none = by (holds_id id entry) none (no_last_from (suc k) id table)
  where
    by : (b : Bool) → cond b (Some k) (place_from (suc k) id table) ≡ None → (place_from (suc k) id table ≡ None → None ≡ last_at id table)
        → None ≡ option_and_then (last_in id) (cond b (Some entry) (find (holds_id id) table))
    by true e later = absurd (cc)
    by false e later = later e

pub last_nowhere : (id : List ℕ) (table : List TokenEntry) → position (holds_id id) table ≡ None → None ≡ last_at id table
last_nowhere id table none = no_last_from 0 id table (placed_is id table ∙ none)

-- ---- an answer is kept

first_false : (a b : Bool) → (a || b) ≡ false → a ≡ false
first_false true b e = cc
first_false false b e = refl

first_true : (a b : Bool) → a ≡ true → (a || b) ≡ true
first_true true b e = refl
first_true false b e = absurd (cc)

module _ (id : List ℕ) (last : LastAnswerState) where
  -- the entry with another answer, where it has the ID
  abbrev with_it : TokenEntry → Bool → TokenEntry
  with_it entry b = record entry { last = cond b (Some last) entry.last }

  unkept : (entry : TokenEntry) → confirms_id id entry ≡ false → with_last_in id last entry ≡ entry
  unkept entry none = ap (with_it entry) none

  all_unkept : (table : List TokenEntry) → IsNone id 0 (contexts table) → with_last id last table ≡ table
  all_unkept [] none = refl
  all_unkept (entry ∷ table) none =
      let parts = neither id 0 entry.confirmed entry.pending (contexts table) none in
      let its = first_false (confirms_id id entry) (option_map_or (has_id id) entry.pending false) parts.0 in
      ap₂ (λ (h : TokenEntry) (t : List TokenEntry). h ∷ t) (unkept entry its) (all_unkept table parts.1)

  none_at : (table : List TokenEntry) (i : ℕ) (d : TokenEntry) → IsNone id 0 (contexts table) → i < length table → confirms_id id (get_or table i d) ≡ false
  none_at [] i d none within = absurd (omega arith)
  none_at (entry ∷ table) zero d none within =
      first_false (confirms_id id entry) (option_map_or (has_id id) entry.pending false) (neither id 0 entry.confirmed entry.pending (contexts table) none).0
  none_at (entry ∷ table) (suc i) d none within = none_at table i d (neither id 0 entry.confirmed entry.pending (contexts table) none).1 (omega arith)

  none_else : (entry : TokenEntry) (table : List TokenEntry) → IsDistinct bytes_eq (ids (entry ∷ table)) → confirms_id id entry ≡ true → IsNone id 0 (contexts table)
  none_else entry table apart has =
      others id 0 entry.confirmed entry.pending (contexts table) apart (first_true (confirms_id id entry) (option_map_or (has_id id) entry.pending false) has)

  -- the entry that has the ID is the only one: no other is changed
  pub last_kept : (table : List TokenEntry) (i : ℕ) (d : TokenEntry) → IsDistinct bytes_eq (ids table) → i < length table → confirms_id id (get_or table i d) ≡ true
      → set table i (record (get_or table i d) { last = Some last }) ≡ with_last id last table
  last_kept [] i d apart within has = absurd (omega arith)
  last_kept (entry ∷ table) zero d apart within has =
      ap₂ (λ (h : TokenEntry) (t : List TokenEntry). h ∷ t) (sym (ap (with_it entry) has)) (sym (all_unkept table (none_else entry table apart has)))
  last_kept (entry ∷ table) (suc i) d apart within has =
      by (confirms_id id entry) refl (last_kept table i d (rest_apart id 0 entry.confirmed entry.pending (contexts table) apart) (omega arith) has)
    where
      by : (b : Bool) → confirms_id id entry ≡ b
          → set table i (record (get_or table i d) { last = Some last }) ≡ with_last id last table
          → entry ∷ set table i (record (get_or table i d) { last = Some last }) ≡ with_last_in id last entry ∷ with_last id last table
      by true mine later =
          let other : confirms_id id (get_or table i d) ≡ false = none_at table i d (none_else entry table apart mine) (omega arith) in
          absurd (cc)
      by false mine later = ap₂ (λ (h : TokenEntry) (t : List TokenEntry). h ∷ t) (sym (unkept entry mine)) later

-- the confirmed context at a place that there is
pub confirmed_there : (table : List TokenEntry) (i : ℕ) (d : TokenEntry) → i < length table → confirmed_at i table ≡ (get_or table i d).confirmed
confirmed_there table i d within = ap (option_and_then (λ entry. entry.confirmed)) (slice_get-get_or table i d within)

pub place_within : (table : List TokenEntry) (i : ℕ) (held : SecurityContext) → confirmed_at i table ≡ Some held → i < length table
place_within table i held there = by (nat_lt i (length table)) refl
  where
    by : (b : Bool) → nat_lt i (length table) ≡ b → i < length table
    by true inside = ltb-true i (length table) inside
    by false outside =
        let none : None ≡ Some held = sym (ap (option_and_then (λ entry. entry.confirmed)) (slice_get_past table i (ltb-false i (length table) outside))) ∙ there in
        absurd (cc)

its_own : (held : SecurityContext) (entry : TokenEntry) → entry.confirmed ≡ Some held → confirms_id held.name.client_id entry ≡ true
its_own held entry is =
    ap (λ (c : Option SecurityContext). option_map_or (has_id held.name.client_id) c false) is ∙ (bytes_eq-Decides held.name.client_id held.name.client_id).1 refl

pub kept_here : (last : LastAnswerState) (table : List TokenEntry) (i : ℕ) (d : TokenEntry) (held : SecurityContext) → IsTable table → confirmed_at i table ≡ Some held
    → set table i (record (get_or table i d) { last = Some last }) ≡ with_last held.name.client_id last table
kept_here last table i d held is_table there =
    let within = place_within table i held there in
    last_kept held.name.client_id last table i d is_table.own_ids within (its_own held (get_or table i d) (sym (confirmed_there table i d within) ∙ there))

-- each ID stays where it is
pub kept_index : (last : LastAnswerState) (table : List TokenEntry) (places : List ℕ) (i : ℕ) (d : TokenEntry) → IsIndex places table
    → IsIndex places (set table i (record (get_or table i d) { last = Some last }))
kept_index last table places i d index = λ byte small.
    let p = holds_id (byte ∷ []) in
    let y : TokenEntry = record (get_or table i d) { last = Some last } in
    let first : position_or_len p (set table i y) ≡ position_or_len p table = position_or_len-set p table i y d refl in
    let size : length (set table i y) ≡ length table = length-set table i y in
    index byte small ∙ (λ j. cond (nat_lt (sym first j) (sym size j)) (Some (sym first j)) None)

-- ---- what stays

same_contexts : (id : List ℕ) (last : LastAnswerState) (table : List TokenEntry) → contexts (with_last id last table) ≡ contexts table
same_contexts id last [] = refl
same_contexts id last (entry ∷ table) = ap (λ rest. listed entry.confirmed ++ listed entry.pending ++ rest) (same_contexts id last table)

same_tokens : (id : List ℕ) (last : LastAnswerState) (table : List TokenEntry) → of_tokens (with_last id last table) ≡ of_tokens table
same_tokens id last [] = refl
same_tokens id last (entry ∷ table) =
    ap (λ rest. of_token entry.id true entry.confirmed ++ of_token entry.id false entry.pending ++ rest) (same_tokens id last table)

same_ids : (id : List ℕ) (last : LastAnswerState) (table : List TokenEntry) → tokens (with_last id last table) ≡ tokens table
same_ids id last [] = refl
same_ids id last (entry ∷ table) = ap (λ rest. entry.id ∷ rest) (same_ids id last table)

pub with_last_is_table : (id : List ℕ) (last : LastAnswerState) (table : List TokenEntry) → IsTable table → IsTable (with_last id last table)
with_last_is_table id last table is_table = record {
  few = omega (arith, is_table.few, length-map table (with_last_in id last));
  own_tokens = subst (IsDistinct bytes_eq) (sym (same_ids id last table)) is_table.own_tokens;
  own_ids = rw (same_contexts id last table) is_table.own_ids;
  lawful = rw (same_contexts id last table) is_table.lawful;
}

pub few_with_last : (id : List ℕ) (last : LastAnswerState) (most : ℕ) (table : List TokenEntry) → AreFew most table → AreFew most (with_last id last table)
few_with_last id last most [] few = few
few_with_last id last most (entry ∷ table) few =
    let all = recursion_from_All (λ (e : TokenEntry). length e.posts ≤ most) (entry ∷ table) few in
    All-cons (λ (e : TokenEntry). length e.posts ≤ most) (with_last_in id last entry) (with_last id last table) all.0
    (few_with_last id last most table (All-from_recursion (λ (e : TokenEntry). length e.posts ≤ most) table all.1))

pub kept_with_last : (id : List ℕ) (last : LastAnswerState) (reserved : Option (List ℕ)) (table : List TokenEntry) → KeepsPlace reserved table → KeepsPlace reserved (with_last id last table)
kept_with_last id last reserved table keeps = kept_by_tokens reserved table (with_last id last table) (same_ids id last table) keeps

module _ (id : List ℕ) (last : LastAnswerState) where
  pub answered_tokens : (answers : Bool) (table : List TokenEntry) → of_tokens (answered_by answers id last table) ≡ of_tokens (accepted id last.number table)
  answered_tokens true table = same_tokens id last (accepted id last.number table)
  answered_tokens false table = refl

  pub answered_contexts : (answers : Bool) (table : List TokenEntry) → contexts (answered_by answers id last table) ≡ contexts (accepted id last.number table)
  answered_contexts true table = same_contexts id last (accepted id last.number table)
  answered_contexts false table = refl

  pub answered_is_table : (answers : Bool) (table : List TokenEntry) → IsTable table → IsTable (answered_by answers id last table)
  answered_is_table true table is_table = with_last_is_table id last (accepted id last.number table) (accepted_is_table id last.number table is_table)
  answered_is_table false table is_table = accepted_is_table id last.number table is_table

  pub answered_places : (answers : Bool) (reserved : Option (List ℕ)) (table : List TokenEntry) → KeepsPlace reserved table → KeepsPlace reserved (answered_by answers id last table)
  answered_places true reserved table keeps = kept_with_last id last reserved (accepted id last.number table) (kept_accepted reserved id last.number table keeps)
  answered_places false reserved table keeps = kept_accepted reserved id last.number table keeps

  pub answered_marked : (answers : Bool) (tree : Tree) (table : List TokenEntry) (marks : List Bool) → AreMarked tree table marks → AreMarked tree (answered_by answers id last table) marks
  answered_marked answers tree table marks marked held m =
      marked_accepted id last.number tree table marks marked held (subst (In held) (answered_contexts answers table) m)

-- ---- it is found again

-- where the number is taken, the entry that has the ID has it confirmed
took : (id : List ℕ) (number : ℕ) (entry : TokenEntry) → holds_id id entry ≡ true → confirms_id id (accepted_in id number entry) ≡ true
took id number entry has = by (option_map_or (has_id id) entry.pending false) (option_map_or (has_id id) entry.confirmed false) refl refl has
  where
    same : (context : Option SecurityContext) → option_map_or (has_id id) (option_map (taking number) context) false ≡ option_map_or (has_id id) context false
    same None = refl
    same (Some held) = refl

    by : (p c : Bool) → option_map_or (has_id id) entry.pending false ≡ p → option_map_or (has_id id) entry.confirmed false ≡ c → (c || p) ≡ true
        → confirms_id id (cond p (record entry { confirmed = option_map (taking number) entry.pending; pending = None; last = None }) (cond c (record entry { confirmed = option_map (taking number) entry.confirmed; last = None }) entry)) ≡ true
    by true c is its e = same entry.pending ∙ is
    by false true is its e = same entry.confirmed ∙ its
    by false false is its e = absurd (cc)

-- an entry that had no context with the ID has none
took_none : (id : List ℕ) (number : ℕ) (entry : TokenEntry) → holds_id id entry ≡ false → holds_id id (accepted_in id number entry) ≡ false
took_none id number entry none = ap (holds_id id) (untouched id number entry none) ∙ none

pub answer_found : (id : List ℕ) (last : LastAnswerState) (table : List TokenEntry) (held : SecurityContext) → with_id id table ≡ Some held
    → last_at id (with_last id last (accepted id last.number table)) ≡ Some last
answer_found id last [] held found = let none : None ≡ Some held = found in absurd (cc)
answer_found id last (entry ∷ table) held found = by (holds_id id entry) refl (answer_found id last table held)
  where
    new : TokenEntry
    new = with_last_in id last (accepted_in id last.number entry)

    rest : List TokenEntry
    rest = with_last id last (accepted id last.number table)

    by : (b : Bool) → holds_id id entry ≡ b → (with_id id table ≡ Some held → last_at id rest ≡ Some last)
        → option_and_then (last_in id) (cond (holds_id id new) (Some new) (find (holds_id id) rest)) ≡ Some last
    by true has later =
        let own : confirms_id id (accepted_in id last.number entry) ≡ true = took id last.number entry has in
        let all : holds_id id new ≡ true = first_true (confirms_id id (accepted_in id last.number entry)) (option_map_or (has_id id) (accepted_in id last.number entry).pending false) own in
        ap (option_and_then (last_in id)) (cond-true (holds_id id new) (Some new) (find (holds_id id) rest) all)
        ∙ (λ i. cond (own i) (cond (own i) (Some last) (accepted_in id last.number entry).last) None)
    by false none later =
        ap (option_and_then (last_in id)) (cond-false (holds_id id new) (Some new) (find (holds_id id) rest) (took_none id last.number entry none))
        ∙ later (sym (misses id last.number entry.confirmed entry.pending (contexts table) none) ∙ found)
