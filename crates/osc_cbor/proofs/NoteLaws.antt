-- Spellings that are noted, and the keys among them.
use Rattle.std.proofs.Common.{◌≡◌, ℕ, ◌≤◌, true, false, List, [], ◌∷◌, ◌++◌, length, take, drop, refl, sym, ap, ◌∙◌, append_assoc, arith, inl, inr}
use Rattle.std.specs.Str.{bytes_eq}
use Rattle.std.proofs.lemmas.List.{append-nil, take-append-le, map-append}
use Rattle.std.proofs.Math.Seq.{drop-append_seam, take-length}
use Rattle.osc_cbor.specs.{DataItem, Items, no_items, item, Pairs, no_pairs, pair, HasKey, HasOwnKeys, spelling, items_spelling, pairs_spelling, HasSpelling, PairsHaveSpellings, push_item, push_pair}
use Rattle.osc_cbor.specs.Inner.Notes.{piece, pieces, times, AreApart, Repeats, key_spellings}
use Rattle.osc_cbor.specs.declared.keys.Key.{Key}
use Rattle.osc_cbor.proofs.OneItem.{one_item, spells}
use Rattle.osc_cbor.proofs.RowLaws.{times-cons, times-append, times-here, times-there, row_is, itself}

-- ---- pieces stay where they are

-- each key ends within the first `n` bytes
abbrev pub Within : ℕ → List Key → Type 0
Within n [] = Unit {0}
Within n (k ∷ ks) = (k.end ≤ n) × Within n ks

pub within_more : (n m : ℕ) (keys : List Key) → n ≤ m → Within n keys → Within m keys
within_more n m [] le h = tt
within_more n m (k ∷ ks) le h = (omega (arith, h.0), within_more n m ks le h.1)

pub within_push : (n : ℕ) (keys : List Key) (key : Key) → Within n keys → key.end ≤ n → Within n (keys ++ key ∷ [])
within_push n [] key h le = (le, tt)
within_push n (k ∷ ks) key h le = (h.0, within_push n ks key h.1 le)

pub pieces-grown : (spelled more : List ℕ) (keys : List Key) → Within (length spelled) keys → pieces (spelled ++ more) keys ≡ pieces spelled keys
pieces-grown spelled more [] h = refl
pieces-grown spelled more (k ∷ ks) h =
    let one : piece (spelled ++ more) k ≡ piece spelled k = ap (drop k.start) (take-append-le k.end spelled more h.0) in
    rw (one, pieces-grown spelled more ks h.1) refl

pub pieces-push : (spelled : List ℕ) (keys : List Key) (key : Key) → pieces spelled (keys ++ key ∷ []) ≡ pieces spelled keys ++ piece spelled key ∷ []
pieces-push spelled keys key = map-append (piece spelled) keys (key ∷ [])

pub piece-new : (spelled bytes : List ℕ) (key : Key) → key.start ≡ length spelled → key.end ≡ length (spelled ++ bytes) → piece (spelled ++ bytes) key ≡ bytes
piece-new spelled bytes key start end =
    ap (λ (n : ℕ). drop n (take key.end (spelled ++ bytes))) start ∙ ap (λ (n : ℕ). drop (length spelled) (take n (spelled ++ bytes))) end
    ∙ ap (drop (length spelled)) (take-length (spelled ++ bytes)) ∙ drop-append_seam spelled bytes

-- ---- one spelling is one item

pub one_spelling : (d e : DataItem) → HasSpelling d → HasSpelling e → spelling d ≡ spelling e → d ≡ e
one_spelling d e is_d is_e same = (one_item (spelling d) (spelling e) [] [] d e (spells d is_d) (spells e is_e) (ap (λ (x : List ℕ). x ++ []) same)).1

pub key_is_noted : (key : DataItem) (ps : Pairs) → HasKey key ps → 1 ≤ times (spelling key) (key_spellings ps)
key_is_noted key no_pairs h = absurd h
key_is_noted key (pair k v ps) (inl same) =
    let here : bytes_eq (spelling key) (spelling k) ≡ true = ap (λ (d : DataItem). bytes_eq (spelling key) (spelling d)) (sym same) ∙ itself (spelling key) in
    omega (arith, times-here (spelling key) (spelling k) (key_spellings ps) here)
key_is_noted key (pair k v ps) (inr later) = omega (arith, key_is_noted key ps later, times-cons (spelling key) (spelling k) (key_spellings ps))

pub key_not_noted : (key : DataItem) (ps : Pairs) → HasSpelling key → PairsHaveSpellings ps → ¬ HasKey key ps → times (spelling key) (key_spellings ps) ≡ 0
key_not_noted key no_pairs is have new = refl
key_not_noted key (pair k v ps) is have new =
    elim (bytes_eq (spelling key) (spelling k)) as (λ b. bytes_eq (spelling key) (spelling k) ≡ b → times (spelling key) (spelling k ∷ key_spellings ps) ≡ 0) [
      | true ↦ λ h. absurd (new (inl (one_spelling key k is have.0 (row_is (spelling key) (spelling k) h))))
      | false ↦ λ h. times-there (spelling key) (spelling k) (key_spellings ps) h ∙ key_not_noted key ps is have.2 (λ old. new (inr old))
    ] refl

pub own_keys_apart : (ps : Pairs) → PairsHaveSpellings ps → HasOwnKeys ps → AreApart (key_spellings ps)
own_keys_apart no_pairs have own x = omega arith
own_keys_apart (pair k v ps) have own x =
    elim (bytes_eq x (spelling k)) as (λ b. bytes_eq x (spelling k) ≡ b → times x (spelling k ∷ key_spellings ps) ≤ 1) [
      | true ↦ λ h.
          let none : times x (key_spellings ps) ≡ 0 = ap (λ (y : List ℕ). times y (key_spellings ps)) (row_is x (spelling k) h) ∙ key_not_noted k ps have.0 have.2 own.0 in
          omega (arith, times-here x (spelling k) (key_spellings ps) h, none)
      | false ↦ λ h. let rest = own_keys_apart ps have.2 own.1 x in omega (arith, times-there x (spelling k) (key_spellings ps) h, rest)
    ] refl

-- ---- one more at the end

pub key_spellings-push : (ps : Pairs) (k v : DataItem) → key_spellings (push_pair ps k v) ≡ key_spellings ps ++ spelling k ∷ []
key_spellings-push no_pairs k v = refl
key_spellings-push (pair l w ps) k v = ap (λ (rows : List (List ℕ)). spelling l ∷ rows) (key_spellings-push ps k v)

pub have_push : (ps : Pairs) (k v : DataItem) → PairsHaveSpellings ps → HasSpelling k → HasSpelling v → PairsHaveSpellings (push_pair ps k v)
have_push no_pairs k v have is_k is_v = (is_k, is_v, tt)
have_push (pair l w ps) k v have is_k is_v = (have.0, have.1, have_push ps k v have.2 is_k is_v)

pub items_spelling-push : (ds : Items) (d : DataItem) → items_spelling (push_item ds d) ≡ items_spelling ds ++ spelling d
items_spelling-push no_items d = append-nil (spelling d)
items_spelling-push (item e ds) d = ap (λ (x : List ℕ). spelling e ++ x) (items_spelling-push ds d) ∙ sym (append_assoc (spelling e) (items_spelling ds) (spelling d))

pub pairs_spelling-push : (ps : Pairs) (k v : DataItem) → pairs_spelling (push_pair ps k v) ≡ pairs_spelling ps ++ (spelling k ++ spelling v)
pairs_spelling-push no_pairs k v = append-nil (spelling k ++ spelling v)
pairs_spelling-push (pair l w ps) k v = ap (λ (x : List ℕ). spelling l ++ spelling w ++ x) (pairs_spelling-push ps k v) ∙ simp append_assoc

pub repeats_more : (rows : List (List ℕ)) (x : List ℕ) → Repeats rows → Repeats (rows ++ x ∷ [])
repeats_more rows x r = (r.0, omega (arith, r.1, times-append r.0 rows (x ∷ [])))
