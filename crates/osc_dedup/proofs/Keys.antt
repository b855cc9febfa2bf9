-- Keys, and the table by keys.
use Rattle.std.proofs.Common.{◌≡◌, ℕ, ◌+◌, ◌-◌, ◌≤◌, Bool, true, false, not, cond, ◌&&◌, List, [], ◌∷◌, ◌++◌, filter, drop, length, count_by, zero, suc, refl, ap, sym, ◌∙◌, Some, None, arith, rules}
use Rattle.std.specs.Cmp.{IsEquivalence}
use Rattle.std.specs.Cmp.Rules.{comparing}
use Rattle.std.specs.List.{find, IsDistinct, AllByRecursion}
use Rattle.std.specs.Map.{lookup, keys_of}
use Rattle.std.specs.Option.{option_map}
use Rattle.std.proofs.lemmas.List.{map-append, length-map, drop-map, length-drop}
use Rattle.std.proofs.lemmas.List.Elements.{filter_agree}
use Rattle.std.proofs.lemmas.List.Sums.{length-filter, count_by-le-length}
use Rattle.osc_model.specs.declared.node.Moment.{Moment}
use Rattle.osc_model.specs.declared.node.Peer.{Peer}
use Rattle.osc_dedup.specs.declared.table.Remembered.{Remembered}
use Rattle.osc_dedup.specs.{Entry, is_of, is_alive, alive, staying, with_note, looked, Key, same_key, entry_of, entries_of, stays, while_alive}

-- two keys are the same or are not
pub same_key_equiv : IsEquivalence same_key
same_key_equiv = search (comparing, rules)

-- what is not in a table is not in the end of it
pub absent_from_end : {K X : Type 0} (test : K → Bool) (n : ℕ) (es : List (K × X)) → lookup test es ≡ None → lookup test (drop n es) ≡ None
absent_from_end test zero es none = none
absent_from_end test (suc n) [] none = none
absent_from_end {X = X} test (suc n) (e ∷ es) none = by (test e.0) none (absent_from_end test n es)
  where
    by : (b : Bool) → cond b (Some e.1) (lookup test es) ≡ None → (lookup test es ≡ None → lookup test (drop n es) ≡ None) → lookup test (drop n es) ≡ None
    by true none rest = let wrong : Some e.1 ≡ None = none in absurd (cc)
    by false none rest = rest none

second : (a b : Bool) → (a && not b) ≡ true → b ≡ false
second true true h = sym h
second true false h = refl
second false true h = cc
second false false h = refl

-- what stays is of other messages
pub absent_staying : (now : Moment) (key : Key) (es : List (Key × Remembered)) → lookup (same_key key) (filter (stays now (Some key)) es) ≡ None
absent_staying now key [] = refl
absent_staying now key (e ∷ es) = by (stays now (Some key) e) refl (absent_staying now key es)
  where
    by : (b : Bool) → stays now (Some key) e ≡ b → lookup (same_key key) (filter (stays now (Some key)) es) ≡ None
        → lookup (same_key key) (cond b (e ∷ filter (stays now (Some key)) es) (filter (stays now (Some key)) es)) ≡ None
    by false gone rest = rest
    by true kept rest =
        let apart : same_key key e.0 ≡ false = second _ _ kept in
        rw apart rest

-- with enough of the oldest left out, at most `most` stay
pub few_left : {X : Type 0} (test : X → Bool) (es ys : List X) (most : ℕ) → ys ≡ drop (count_by test es - most) (filter test es) → length ys ≤ most
few_left test es ys most moved = omega (arith, ap length moved, length-drop (count_by test es - most) (filter test es), length-filter test es)

-- the keys that one key isn't, of the same key
same_others : (k j : Key) → same_key k j ≡ true → (ks : List Key) → AllByRecursion (λ i. same_key j i ≡ false) ks → AllByRecursion (λ i. same_key k i ≡ false) ks
same_others k j same [] others = tt
same_others k j same (i ∷ ks) others = (same_key_equiv.congr k j i same ∙ others.0, same_others k j same ks others.1)

-- ---- entries and what they are by keys

pub filter_entries : (test : Entry → Bool) (es : List (Key × Remembered)) → filter test (entries_of es) ≡ entries_of (filter (λ e. test (entry_of e)) es)
filter_entries test [] = refl
filter_entries test (e ∷ es) = by (test (entry_of e)) (filter_entries test es)
  where
    by : (b : Bool) → filter test (entries_of es) ≡ entries_of (filter (λ x. test (entry_of x)) es)
        → cond b (entry_of e ∷ filter test (entries_of es)) (filter test (entries_of es)) ≡ entries_of (cond b (e ∷ filter (λ x. test (entry_of x)) es) (filter (λ x. test (entry_of x)) es))
    by true up = ap (λ xs. entry_of e ∷ xs) up
    by false up = up

pub staying_keys : (now : Moment) (peer : Peer) (id : ℕ) (es : List (Key × Remembered)) → staying now peer id (entries_of es) ≡ entries_of (filter (stays now (Some (peer, id))) es)
staying_keys now peer id es = filter_entries (λ entry. is_alive now entry && not (is_of peer id entry)) es

pub noted_keys : (now : Moment) (peer : Peer) (id : ℕ) (noted : Remembered) (es ys : List (Key × Remembered))
    → ys ≡ drop (count_by (stays now (Some (peer, id))) es - 63) (filter (stays now (Some (peer, id))) es)
    → entries_of (ys ++ ((peer, id), noted) ∷ []) ≡ with_note now peer id noted (entries_of es)
noted_keys now peer id noted es ys moved =
    let test = stays now (Some (peer, id)) in
    let long : length (staying now peer id (entries_of es)) ≡ count_by test es =
    ap length (staying_keys now peer id es) ∙ length-map (filter test es) entry_of ∙ length-filter test es in
    let over : length (staying now peer id (entries_of es)) + 1 - 64 ≡ count_by test es - 63 = omega (arith, long) in
    let kept : entries_of ys ≡ drop (length (staying now peer id (entries_of es)) + 1 - 64) (staying now peer id (entries_of es)) =
    ap entries_of moved ∙ sym (drop-map entry_of (count_by test es - 63) (filter test es))
    ∙ ap (λ n. drop n (entries_of (filter test es))) (sym over)
    ∙ ap (drop (length (staying now peer id (entries_of es)) + 1 - 64)) (sym (staying_keys now peer id es)) in
    map-append entry_of ys (((peer, id), noted) ∷ []) ∙ ap (λ xs. xs ++ (record { peer = peer; id = id; noted = noted }) ∷ []) kept

pub alive_keys : (now : Moment) (es ys : List (Key × Remembered)) → length es ≤ 64 → ys ≡ drop (count_by (stays now None) es - 64) (filter (stays now None) es) → entries_of ys ≡ alive now (entries_of es)
alive_keys now es ys few moved =
    let none : count_by (stays now None) es - 64 ≡ 0 = omega (arith, few, count_by-le-length (stays now None) es) in
    ap entries_of (moved ∙ ap (λ n. drop n (filter (stays now None) es)) none ∙ filter_agree (stays now None) (λ e. is_alive now (entry_of e)) (λ e. and_true (is_alive now (entry_of e))) es)
    ∙ sym (filter_entries (is_alive now) es)
  where
    and_true : (b : Bool) → (b && true) ≡ b
    and_true true = refl
    and_true false = refl

-- a key that is not there
find_absent : (peer : Peer) (id : ℕ) (now : Moment) (es : List (Key × Remembered)) → AllByRecursion (λ k. same_key (peer, id) k ≡ false) (keys_of es)
    → find (is_of peer id) (alive now (entries_of es)) ≡ None
find_absent peer id now [] others = refl
find_absent peer id now (e ∷ es) others = by (is_alive now (entry_of e)) (find_absent peer id now es others.1)
  where
    by : (b : Bool) → find (is_of peer id) (alive now (entries_of es)) ≡ None
        → find (is_of peer id) (cond b (entry_of e ∷ alive now (entries_of es)) (alive now (entries_of es))) ≡ None
    by true up = rw others.0 up
    by false up = up

pub looked_keys : (now : Moment) (peer : Peer) (id : ℕ) (es : List (Key × Remembered)) → IsDistinct same_key (keys_of es)
    → looked now peer id (entries_of es) ≡ while_alive now (lookup (same_key (peer, id)) es)
unfolding IsDistinct
looked_keys now peer id [] apart = refl
looked_keys now peer id (e ∷ es) apart = by (same_key (peer, id) e.0) (is_alive now (entry_of e)) refl refl (looked_keys now peer id es apart.1)
  where
    absent : same_key (peer, id) e.0 ≡ true → find (is_of peer id) (alive now (entries_of es)) ≡ None
    absent same = find_absent peer id now es (same_others (peer, id) e.0 same (keys_of es) apart.0)

    by : (b l : Bool) → same_key (peer, id) e.0 ≡ b → is_alive now (entry_of e) ≡ l → looked now peer id (entries_of es) ≡ while_alive now (lookup (same_key (peer, id)) es)
        → option_map (λ entry. entry.noted) (find (is_of peer id) (cond l (entry_of e ∷ alive now (entries_of es)) (alive now (entries_of es))))
        ≡ while_alive now (cond b (Some e.1) (lookup (same_key (peer, id)) es))
    by true true same lives up = rw (same, lives) refl
    by true false same dead up = rw dead (ap (option_map (λ entry. entry.noted)) (absent same))
    by false true other lives up = rw other up
    by false false other dead up = up
