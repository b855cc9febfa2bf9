-- Marks of the recipient IDs in use.
use Rattle.std.proofs.Common.{◌≡◌, ℕ, ◌<◌, ◌≤◌, Bool, true, false, not, cond, ◌||◌, List, [], ◌∷◌, ◌++◌, Some, None, length, map, filter, position, nat_lt, replicate, get_or, drop, drop-cons, add-one, suc, ◌+◌, refl, sym, ap, ◌∙◌, arith}
use Rattle.std.specs.List.{Contains, position_or_len}
use Rattle.std.specs.Bool.{Decides}
use Rattle.std.specs.Str.{bytes_eq}
use Rattle.std.proofs.Math.Bool.{or_assoc, or_comm}
use Rattle.std.proofs.lemmas.Bool.{both_ways, ltb-false, not-true, not-false}
use Rattle.std.proofs.lemmas.List.{length-map, get_or-replicate}
use Rattle.std.proofs.lemmas.List.Quantifiers.{position-Some}
use Rattle.std.proofs.lemmas.List.Sums.{fails_before_first}
use Rattle.std.proofs.lemmas.Map.Made.{is_member-Decides}
use Rattle.std.proofs.lemmas.Slice.Eq.{bytes_eq-Decides}
use Rattle.osc_authz.specs.declared.token_entry.TokenEntry.{TokenEntry}
use Rattle.osc_authz.specs.SecurityContext.{SecurityContext}
use Rattle.osc_authz.specs.Inner.Marks.{AddsMarks, is_among, is_marked}
use Rattle.osc_authz.specs.{IsTable, IsLeastFree, contexts, ids, listed, without_pending, without_pending_in}
use Rattle.osc_authz.proofs.Parts.{part_filter, part_length}
use Rattle.osc_authz.proofs.Pigeon.{crowded}
use Rattle.osc_authz.proofs.TableLaws.{two_each}

-- ---- the IDs of some entries, and of those after them

among_more : (held rest : List SecurityContext) (byte : ℕ)
    → is_among (map (λ context. context.name.client_id) (held ++ rest)) byte
    ≡ (is_among (map (λ context. context.name.client_id) (held ++ [])) byte || is_among (map (λ context. context.name.client_id) rest) byte)
among_more [] rest byte = refl
among_more (x ∷ xs) rest byte =
    ap (λ b. bytes_eq (byte ∷ []) x.name.client_id || b) (among_more xs rest byte)
    ∙ sym (or_assoc (bytes_eq (byte ∷ []) x.name.client_id) (is_among (map (λ context. context.name.client_id) (xs ++ [])) byte) (is_among (map (λ context. context.name.client_id) rest) byte))

pub staying_more : (live : TokenEntry → Bool) (token : List ℕ) (entry : TokenEntry) (table : List TokenEntry) (byte : ℕ)
    → is_among (ids (without_pending token (filter live (entry ∷ table)))) byte
    ≡ (is_among (ids (without_pending token (filter live (entry ∷ [])))) byte || is_among (ids (without_pending token (filter live table))) byte)
staying_more live token entry table byte = by (live entry)
  where
    rest : List TokenEntry
    rest = filter live table

    changed : TokenEntry
    changed = without_pending_in token entry

    by : (b : Bool) → is_among (ids (without_pending token (cond b (entry ∷ rest) rest))) byte
        ≡ (is_among (ids (without_pending token (cond b (entry ∷ []) []))) byte || is_among (ids (without_pending token rest)) byte)
    by true = among_more (listed changed.confirmed ++ listed changed.pending) (contexts (without_pending token rest)) byte
    by false = refl

-- what is yet to be marked, once one more entry has been gone over
pub marked_more : (live : TokenEntry → Bool) (token : List ℕ) (table : List TokenEntry) (i : ℕ) (entry : TokenEntry) (byte : ℕ) (old new all : Bool)
    → i < length table → entry ≡ get_or table i entry
    → new ≡ (is_among (ids (without_pending token (filter live (entry ∷ [])))) byte || old)
    → (is_among (ids (without_pending token (filter live (drop i table)))) byte || old) ≡ all
    → (is_among (ids (without_pending token (filter live (drop (i + 1) table)))) byte || new) ≡ all
marked_more live token table i entry byte old new all within is marked before =
    ap (λ b. staying rest || b) marked
    ∙ sym (or_assoc (staying rest) (staying (entry ∷ [])) old)
    ∙ ap (λ b. b || old) (or_comm (staying rest) (staying (entry ∷ [])) ∙ sym (staying_more live token entry rest byte))
    ∙ ap (λ entries. staying entries || old) (sym parts)
    ∙ before
  where
    rest : List TokenEntry
    rest = drop (i + 1) table

    staying : List TokenEntry → Bool
    staying = λ entries. is_among (ids (without_pending token (filter live entries))) byte

    parts : drop i table ≡ entry ∷ rest
    parts = rw (add-one, drop-cons table i entry) (ap (λ h. h ∷ drop (suc i) table) (sym is))

-- ---- a free byte

-- Where a client's ID and others were marked, each byte is marked exactly where it is one of these IDs.
all_marked : (client_id : List ℕ) (others : List (List ℕ)) (one all : List Bool)
    → AddsMarks (client_id ∷ []) (replicate 256 false) one → AddsMarks others one all
    → (byte : ℕ) → byte < 256 → Decides (is_marked all byte) (Contains (client_id ∷ others) (byte ∷ []))
all_marked client_id others one all first then byte small =
    rw (same (bytes_eq (byte ∷ []) client_id) (is_among others byte) (is_marked (replicate 256 false) byte) (is_marked one byte) (is_marked all byte) (get_or-replicate 256 byte false false small) (first byte small) (then byte small))
    (is_member-Decides bytes_eq-Decides (client_id ∷ others) (byte ∷ []))
  where
    same : (mine among before middle after : Bool) → before ≡ false → middle ≡ ((mine || false) || before) → after ≡ (among || middle) → after ≡ (mine || among)
    same true true before middle after e f g = cc
    same true false before middle after e f g = cc
    same false true before middle after e f g = cc
    same false false before middle after e f g = cc

pub least_is_free : (client_id : List ℕ) (others : List (List ℕ)) (one all : List Bool) (byte : ℕ)
    → AddsMarks (client_id ∷ []) (replicate 256 false) one → AddsMarks others one all → length all ≡ 256
    → position not all ≡ Some byte → IsLeastFree (client_id ∷ others) byte
least_is_free client_id others one all byte first then size found = record {
  small = small;
  free = λ there. both_ways (is_marked all byte) (not-true (is_marked all byte) at.1) ((marked byte small).1 there);
  least = λ lower below. (marked lower (omega (arith, below, small))).0 (not-false (is_marked all lower) (at.2 lower below));
}
  where
    at : (byte < length all) × (not (get_or all byte false) ≡ true) × ((k : ℕ) → k < byte → not (get_or all k false) ≡ false)
    at = position-Some not all byte false found

    small : byte < 256
    small = omega (arith, at.0, size)

    marked : (k : ℕ) → k < 256 → Decides (is_marked all k) (Contains (client_id ∷ others) (k ∷ []))
    marked = all_marked client_id others one all first then

-- A table has too few contexts for all bytes to be marked.
pub one_is_unmarked : (live : TokenEntry → Bool) (token client_id : List ℕ) (table : List TokenEntry) (one all : List Bool) → IsTable table
    → AddsMarks (client_id ∷ []) (replicate 256 false) one → AddsMarks (ids (without_pending token (filter live table))) one all → length all ≡ 256
    → position not all ≡ None → ⊥
one_is_unmarked live token client_id table one all is_table first then size none =
    omega (arith, crowded 256 (client_id ∷ others) each, few)
  where
    others : List (List ℕ)
    others = ids (without_pending token (filter live table))

    past : (place : ℕ) (inside : Bool) → nat_lt place (length all) ≡ inside → cond inside (Some place) None ≡ None → length all ≤ place
    past place true is found = absurd (cc)
    past place false is found = ltb-false place (length all) is

    each : (k : ℕ) → k < 256 → Contains (client_id ∷ others) (k ∷ [])
    each k small =
        let end : length all ≤ position_or_len not all = past (position_or_len not all) (nat_lt (position_or_len not all) (length all)) refl none in
        (all_marked client_id others one all first then k small).0 (not-false (is_marked all k) (fails_before_first not all k false (omega (arith, small, size, end))))

    few : length (client_id ∷ others) ≤ 129
    few =
        let known : List TokenEntry = without_pending token (filter live table) in
        omega (arith, length-map (contexts known) (λ held. held.name.client_id), two_each known, length-map (filter live table) (without_pending_in token), part_length (part_filter live table), is_table.few)
