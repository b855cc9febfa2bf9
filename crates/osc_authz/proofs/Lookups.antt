-- What look-ups over a table find.
use Rattle.std.proofs.Common.{◌≡◌, ℕ, zero, suc, ◌+◌, ◌<◌, ◌≤◌, Bool, true, false, not, ◌||◌, cond, List, [], ◌∷◌, ◌++◌, length, map, get_or, set, Option, Some, None, option_map, refl, sym, ap, ap₂, ◌∙◌, arith, position, nat_lt}
use Rattle.std.specs.List.{AllByRecursion, IsDistinct, find, position_or_len}
use Rattle.std.specs.Option.{IfSome, option_map_or}
use Rattle.std.specs.Str.{bytes_eq}
use Rattle.std.proofs.lemmas.Bool.{both_ways, cond-false, cond-true, ltb-true, ltb-false}
use Rattle.std.proofs.lemmas.Slice.Eq.{bytes_eq-Decides}
use Rattle.osc_authz.specs.declared.token_entry.TokenEntry.{TokenEntry}
use Rattle.osc_authz.specs.SecurityContext.{SecurityContext}
use Rattle.osc_authz.specs.declared.agreed_post.AgreedPost.{AgreedPost}
use Rattle.osc_authz.specs.LastAnswer.{LastAnswerState}
use Rattle.osc_authz.specs.{IsTable, accepted, accepted_in, contexts, has_id, holds_id, ids, listed, taking, with_id, with_pending}

-- ---- a request opened

-- what holds of all contexts holds of both of an entry
each_front : (P : SecurityContext → Type 0) (xs ys : List SecurityContext) → AllByRecursion P (xs ++ ys) → AllByRecursion P xs
each_front P [] ys all = tt
each_front P (x ∷ xs) ys all = (all.0, each_front P xs ys all.1)

each_back : (P : SecurityContext → Type 0) (xs ys : List SecurityContext) → AllByRecursion P (xs ++ ys) → AllByRecursion P ys
each_back P [] ys all = all
each_back P (x ∷ xs) ys all = each_back P xs ys all.1

in_listed : (P : SecurityContext → Type 0) (context : Option SecurityContext) → AllByRecursion P (listed context) → IfSome context P
in_listed P None all = tt
in_listed P (Some held) all = all.0

pub record HoldOf (P : SecurityContext → Type 0) (entry : TokenEntry) : Type 0 where
  pub confirmed : IfSome entry.confirmed P
  pub pending : IfSome entry.pending P

in_holding : (P : SecurityContext → Type 0) (table : List TokenEntry) (i : ℕ) (d : TokenEntry) → i < length table → AllByRecursion P (contexts table) → HoldOf P (get_or table i d)
in_holding P [] i d within all = absurd (omega arith)
in_holding P (entry ∷ table) zero d within all =
    let mine : AllByRecursion P (listed entry.confirmed ++ listed entry.pending) = each_front P (listed entry.confirmed ++ listed entry.pending) (contexts table) all in
    record {
      confirmed = in_listed P entry.confirmed (each_front P (listed entry.confirmed) (listed entry.pending) mine);
      pending = in_listed P entry.pending (each_back P (listed entry.confirmed) (listed entry.pending) mine);
    }
in_holding P (entry ∷ table) (suc i) d within all =
    in_holding P table i d (omega arith) (each_back P (listed entry.confirmed ++ listed entry.pending) (contexts table) all)

-- Recipient IDs stand once: what holds of the context that is found holds of all with its ID.
pub found_alone : (P : SecurityContext → Type 0) (id : List ℕ) (held : SecurityContext) (xs : List SecurityContext) → IsDistinct bytes_eq (map (λ context. context.name.client_id) xs)
    → find (has_id id) xs ≡ Some held → P held → AllByRecursion (λ context. has_id id context ≡ true → P context) xs
unfolding IsDistinct
found_alone P id held [] apart found here = tt
found_alone P id held (x ∷ xs) apart found here = by (has_id id x) refl found (found_alone P id held xs apart.1)
  where
    no_other : id ≡ x.name.client_id → (ys : List SecurityContext) → AllByRecursion (λ other. bytes_eq x.name.client_id other ≡ false) (map (λ context. context.name.client_id) ys)
        → AllByRecursion (λ context. has_id id context ≡ true → P context) ys
    no_other same [] all = tt
    no_other same (y ∷ ys) all = (λ has. absurd (both_ways (bytes_eq x.name.client_id y.name.client_id) all.0 (rw (← same) has)), no_other same ys all.1)

    by : (b : Bool) → has_id id x ≡ b → cond b (Some x) (find (has_id id) xs) ≡ Some held
        → (find (has_id id) xs ≡ Some held → P held → AllByRecursion (λ context. has_id id context ≡ true → P context) xs)
        → AllByRecursion (λ context. has_id id context ≡ true → P context) (x ∷ xs)
    by true has is up =
        let it : x ≡ held = cc in
        let same : id ≡ x.name.client_id = (bytes_eq-Decides id x.name.client_id).0 has in
        (λ again. rw it here, no_other same xs apart.0)
    by false other is up = (λ has. absurd (both_ways (has_id id x) other has), up is here)

-- ---- where a recipient ID is

-- The entry that has the ID is the only one: no other is changed.
module _ (id : List ℕ) (number : ℕ) where
  abbrev client_ids : List SecurityContext → List (List ℕ)
  client_ids xs = map (λ held. held.name.client_id) xs

  -- none of these contexts has the ID
  abbrev pub IsNone : List SecurityContext → Type 0
  IsNone xs = AllByRecursion (λ y. bytes_eq id y ≡ false) (client_ids xs)

  none_of : (held : SecurityContext) (xs : List SecurityContext) → has_id id held ≡ true → AllByRecursion (λ y. bytes_eq held.name.client_id y ≡ false) (client_ids xs) → IsNone xs
  none_of held xs has all = rw ((bytes_eq-Decides id held.name.client_id).0 has) all

  pub others : (c p : Option SecurityContext) (rest : List SecurityContext) → IsDistinct bytes_eq (client_ids (listed c ++ listed p ++ rest))
      → (option_map_or (has_id id) c false || option_map_or (has_id id) p false) ≡ true → IsNone rest
  unfolding IsDistinct
  others None None rest apart has = absurd (cc)
  others None (Some held) rest apart has = none_of held rest has apart.0
  others (Some held) None rest apart has = by (has_id id held) refl has
    where
      by : (b : Bool) → has_id id held ≡ b → (b || false) ≡ true → IsNone rest
      by true t e = none_of held rest t apart.0
      by false t e = absurd (cc)
  others (Some held) (Some other) rest apart has = by (has_id id held) refl has
    where
      by : (b : Bool) → has_id id held ≡ b → (b || has_id id other) ≡ true → IsNone rest
      by true t e = none_of held rest t apart.0.1
      by false t e = none_of other rest e apart.1.0

  pub rest_apart : (c p : Option SecurityContext) (rest : List SecurityContext) → IsDistinct bytes_eq (client_ids (listed c ++ listed p ++ rest)) → IsDistinct bytes_eq (client_ids rest)
  unfolding IsDistinct
  rest_apart None None rest apart = apart
  rest_apart None (Some held) rest apart = apart.1
  rest_apart (Some held) None rest apart = apart.1
  rest_apart (Some held) (Some other) rest apart = apart.1.1

  pub untouched : (entry : TokenEntry) → holds_id id entry ≡ false → accepted_in id number entry ≡ entry
  untouched entry none = by (option_map_or (has_id id) entry.confirmed false) (option_map_or (has_id id) entry.pending false) none
    where
      by : (c p : Bool) → (c || p) ≡ false
          → cond p (record entry { confirmed = option_map (taking number) entry.pending; pending = None; last = None }) (cond c (record entry { confirmed = option_map (taking number) entry.confirmed; last = None }) entry) ≡ entry
      by true p e = absurd (cc)
      by false true e = absurd (cc)
      by false false e = refl

  pub neither : (c p : Option SecurityContext) (rest : List SecurityContext) → IsNone (listed c ++ listed p ++ rest)
      → ((option_map_or (has_id id) c false || option_map_or (has_id id) p false) ≡ false) × IsNone rest
  neither None None rest none = (refl, none)
  neither None (Some held) rest none = (none.0, none.1)
  neither (Some held) None rest none = (ap (λ b. b || false) none.0, none.1)
  neither (Some held) (Some other) rest none = (ap₂ (λ (b c : Bool). b || c) none.0 none.1.0, none.1.1)

  all_untouched : (table : List TokenEntry) → IsNone (contexts table) → accepted id number table ≡ table
  all_untouched [] none = refl
  all_untouched (entry ∷ table) none =
      let parts = neither entry.confirmed entry.pending (contexts table) none in
      ap₂ (λ (h : TokenEntry) (t : List TokenEntry). h ∷ t) (untouched entry parts.0) (all_untouched table parts.1)

  accepted_within : (table : List TokenEntry) (d : TokenEntry) → IsDistinct bytes_eq (ids table) → position_or_len (holds_id id) table < length table
      → set table (position_or_len (holds_id id) table) (accepted_in id number (get_or table (position_or_len (holds_id id) table) d)) ≡ accepted id number table
  accepted_within [] d apart within = absurd (omega arith)
  accepted_within (entry ∷ table) d apart within =
      by (holds_id id entry) refl (1 + rest) (omega arith) within (accepted_within table d (rest_apart entry.confirmed entry.pending (contexts table) apart))
    where
      rest : ℕ
      rest = position_or_len (holds_id id) table

      by : (b : Bool) → holds_id id entry ≡ b → (n : ℕ) → n ≡ suc rest → cond (not b) n 0 < suc (length table)
          → (rest < length table → set table rest (accepted_in id number (get_or table rest d)) ≡ accepted id number table)
          → set (entry ∷ table) (cond (not b) n 0) (accepted_in id number (get_or (entry ∷ table) (cond (not b) n 0) d)) ≡ accepted_in id number entry ∷ accepted id number table
      by true has n is inside up =
          ap (λ t. accepted_in id number entry ∷ t) (sym (all_untouched table (others entry.confirmed entry.pending (contexts table) apart has)))
      by false has n is inside up = rw is (ap₂ (λ (h : TokenEntry) (t : List TokenEntry). h ∷ t) (sym (untouched entry has)) (up (omega (arith, is, inside))))

  -- the entry at the place of the ID
  pub accepted_here : (table : List TokenEntry) (i : ℕ) (d : TokenEntry) → IsTable table → position (holds_id id) table ≡ Some i
      → set table i (accepted_in id number (get_or table i d)) ≡ accepted id number table
  accepted_here table i d is_table found = by (nat_lt place (length table)) refl found
    where
      place : ℕ
      place = position_or_len (holds_id id) table

      by : (b : Bool) → nat_lt place (length table) ≡ b → cond b (Some place) None ≡ Some i → set table i (accepted_in id number (get_or table i d)) ≡ accepted id number table
      by true inside is =
          let same : place ≡ i = cc in
          ap (λ (k : ℕ). set table k (accepted_in id number (get_or table k d))) (sym same)
          ∙ accepted_within table d is_table.own_ids (ltb-true place (length table) inside)
      by false outside is = let none : None ≡ Some i = is in absurd (cc)

  found_within : (table : List TokenEntry) (d : TokenEntry) → position_or_len (holds_id id) table < length table
      → holds_id id (get_or table (position_or_len (holds_id id) table) d) ≡ true
  found_within [] d within = absurd (omega arith)
  found_within (entry ∷ table) d within = by (holds_id id entry) refl (1 + rest) (omega arith) within (found_within table d)
    where
      rest : ℕ
      rest = position_or_len (holds_id id) table

      by : (b : Bool) → holds_id id entry ≡ b → (n : ℕ) → n ≡ suc rest → cond (not b) n 0 < suc (length table)
          → (rest < length table → holds_id id (get_or table rest d) ≡ true)
          → holds_id id (get_or (entry ∷ table) (cond (not b) n 0) d) ≡ true
      by true has n is inside up = has
      by false has n is inside up = rw is (up (omega (arith, is, inside)))

  -- it is in the table, and has the ID
  pub found_here : (table : List TokenEntry) (i : ℕ) (d : TokenEntry) → position (holds_id id) table ≡ Some i
      → (i < length table) × (holds_id id (get_or table i d) ≡ true)
  found_here table i d found = by (nat_lt place (length table)) refl found
    where
      place : ℕ
      place = position_or_len (holds_id id) table

      by : (b : Bool) → nat_lt place (length table) ≡ b → cond b (Some place) None ≡ Some i → (i < length table) × (holds_id id (get_or table i d) ≡ true)
      by true inside is =
          let same : place ≡ i = cc in
          let within : place < length table = ltb-true place (length table) inside in
          (omega (arith, same, within), ap (λ (k : ℕ). holds_id id (get_or table k d)) (sym same) ∙ found_within table d within)
      by false outside is = let none : None ≡ Some i = is in absurd (cc)

  -- where a context has the ID, there is a place
  pub misses : (c p : Option SecurityContext) (rest : List SecurityContext) → (option_map_or (has_id id) c false || option_map_or (has_id id) p false) ≡ false
      → find (has_id id) (listed c ++ listed p ++ rest) ≡ find (has_id id) rest
  misses None None rest none = refl
  misses None (Some held) rest none = cond-false (has_id id held) (Some held) (find (has_id id) rest) none
  misses (Some held) None rest none = by (has_id id held) refl none
    where
      by : (b : Bool) → has_id id held ≡ b → (b || false) ≡ false → cond b (Some held) (find (has_id id) rest) ≡ find (has_id id) rest
      by true t e = absurd (cc)
      by false t e = refl
  misses (Some held) (Some other) rest none = by (has_id id held) (has_id id other) none
    where
      by : (b c : Bool) → (b || c) ≡ false → cond b (Some held) (cond c (Some other) (find (has_id id) rest)) ≡ find (has_id id) rest
      by true c e = absurd (cc)
      by false true e = absurd (cc)
      by false false e = refl

  has_place : (table : List TokenEntry) (held : SecurityContext) → with_id id table ≡ Some held → length table ≤ position_or_len (holds_id id) table → ⊥
  has_place [] held found none = let no : None ≡ Some held = found in absurd (cc)
  has_place (entry ∷ table) held found none = by (holds_id id entry) refl (1 + rest) (omega arith) none (has_place table held)
    where
      rest : ℕ
      rest = position_or_len (holds_id id) table

      by : (b : Bool) → holds_id id entry ≡ b → (n : ℕ) → n ≡ suc rest → suc (length table) ≤ cond (not b) n 0
          → (with_id id table ≡ Some held → length table ≤ rest → ⊥) → ⊥
      by true has n is past up = absurd (omega arith)
      by false has n is past up = up (sym (misses entry.confirmed entry.pending (contexts table) has) ∙ found) (omega (arith, is, past))

  pub is_placed : (table : List TokenEntry) (held : SecurityContext) → with_id id table ≡ Some held → position (holds_id id) table ≡ None → ⊥
  is_placed table held found none = by (nat_lt place (length table)) refl none
    where
      place : ℕ
      place = position_or_len (holds_id id) table

      by : (b : Bool) → nat_lt place (length table) ≡ b → cond b (Some place) None ≡ None → ⊥
      by true inside is = let some : Some place ≡ None = is in absurd (cc)
      by false outside is = has_place table held found (ltb-false place (length table) outside)

  -- ---- it is found again, with its number taken

  -- the contexts of an entry, and others
  abbrev before : TokenEntry → List SecurityContext → List SecurityContext
  before entry later = listed entry.confirmed ++ listed entry.pending ++ later

  taken_one : (held other : SecurityContext) (rest : List SecurityContext) → has_id id other ≡ true → Some other ≡ Some held → find (has_id id) (taking number other ∷ rest) ≡ Some (taking number held)
  taken_one held other rest has same =
      let it : other ≡ held = cc in
      cond-true (has_id id other) (Some (taking number other)) (find (has_id id) rest) has ∙ ap (λ h. Some (taking number h)) it

  found_in : (i : List ℕ) (posts : List AgreedPost) (last : Option LastAnswerState) (c p : Option SecurityContext) (rest later : List SecurityContext) (held : SecurityContext) → IsDistinct bytes_eq (client_ids (listed c ++ listed p ++ rest))
      → (option_map_or (has_id id) c false || option_map_or (has_id id) p false) ≡ true → find (has_id id) (listed c ++ listed p ++ rest) ≡ Some held
      → find (has_id id) (before (accepted_in id number (record { id = i; confirmed = c; pending = p; posts = posts; last = last })) later) ≡ Some (taking number held)
  unfolding IsDistinct
  found_in i posts last None None rest later held apart has found = absurd (cc)
  found_in i posts last None (Some other) rest later held apart has found = by (has_id id other) has
    where
      by : (b : Bool) → b ≡ true
          → find (has_id id) (before (cond b (record { id = i; confirmed = Some (taking number other); pending = None; posts = posts; last = None }) (record { id = i; confirmed = None; pending = Some other; posts = posts; last = last })) later) ≡ Some (taking number held)
      by true t = taken_one held other later has (sym (cond-true (has_id id other) (Some other) (find (has_id id) rest) has) ∙ found)
      by false t = absurd (cc)
  found_in i posts last (Some other) None rest later held apart has found = by (has_id id other) refl has
    where
      by : (b : Bool) → has_id id other ≡ b → (b || false) ≡ true
          → find (has_id id) (before (cond b (record { id = i; confirmed = Some (taking number other); pending = None; posts = posts; last = None }) (record { id = i; confirmed = Some other; pending = None; posts = posts; last = last })) later) ≡ Some (taking number held)
      by true t e = taken_one held other later t (sym (cond-true (has_id id other) (Some other) (find (has_id id) rest) t) ∙ found)
      by false t e = absurd (cc)
  found_in i posts last (Some first) (Some second) rest later held apart has found = by (has_id id first) (has_id id second) refl refl has
    where
      by : (b d : Bool) → has_id id first ≡ b → has_id id second ≡ d → (b || d) ≡ true
          → find (has_id id) (before (cond d (record { id = i; confirmed = Some (taking number second); pending = None; posts = posts; last = None }) (cond b (record { id = i; confirmed = Some (taking number first); pending = Some second; posts = posts; last = None }) (record { id = i; confirmed = Some first; pending = Some second; posts = posts; last = last }))) later) ≡ Some (taking number held)
      by true true t u e = absurd (both_ways (has_id id second) (none_of first (second ∷ rest) t apart.0).0 u)
      by true false t u e = taken_one held first (second ∷ later) t (sym (cond-true (has_id id first) (Some first) (find (has_id id) (second ∷ rest)) t) ∙ found)
      by false true t u e =
          taken_one held second later u
          (sym (cond-true (has_id id second) (Some second) (find (has_id id) rest) u) ∙ sym (cond-false (has_id id first) (Some first) (find (has_id id) (second ∷ rest)) t) ∙ found)
      by false false t u e = absurd (cc)

  pub found_again : (table : List TokenEntry) (held : SecurityContext) → IsDistinct bytes_eq (ids table) → with_id id table ≡ Some held → with_id id (accepted id number table) ≡ Some (taking number held)
  found_again [] held apart found = let no : None ≡ Some held = found in absurd (cc)
  found_again (entry ∷ table) held apart found =
      by (holds_id id entry) refl (found_again table held (rest_apart entry.confirmed entry.pending (contexts table) apart))
    where
      by : (b : Bool) → holds_id id entry ≡ b → (with_id id table ≡ Some held → with_id id (accepted id number table) ≡ Some (taking number held))
          → with_id id (accepted_in id number entry ∷ accepted id number table) ≡ Some (taking number held)
      by true has up = found_in entry.id entry.posts entry.last entry.confirmed entry.pending (contexts table) (contexts (accepted id number table)) held apart has found
      by false has up =
          rw (untouched entry has)
          (misses entry.confirmed entry.pending (contexts (accepted id number table)) has ∙ up (sym (misses entry.confirmed entry.pending (contexts table) has) ∙ found))

-- what holds of the context with the ID holds of those of any entry that have it
pub each_of : (P : SecurityContext → Type 0) (id : List ℕ) (table : List TokenEntry) (held : SecurityContext) (i : ℕ) (d : TokenEntry) → IsTable table → with_id id table ≡ Some held → P held
    → i < length table → HoldOf (λ context. has_id id context ≡ true → P context) (get_or table i d)
each_of P id table held i d is_table found here within =
    in_holding (λ context. has_id id context ≡ true → P context) table i d within (found_alone P id held (contexts table) is_table.own_ids found here)

-- ---- where a token id is

-- a change of the entry at the place, or a new one at the end
put_within : (token : List ℕ) (held : SecurityContext) (remember : List AgreedPost → List AgreedPost) (table : List TokenEntry) (d : TokenEntry) → position_or_len (λ entry. bytes_eq token entry.id) table < length table
    → set table (position_or_len (λ entry. bytes_eq token entry.id) table)
    (record (get_or table (position_or_len (λ entry. bytes_eq token entry.id) table) d) { pending = Some held; posts = remember (get_or table (position_or_len (λ entry. bytes_eq token entry.id) table) d).posts })
    ≡ with_pending token held remember table
put_within token held remember [] d within = absurd (omega arith)
put_within token held remember (entry ∷ table) d within = by (bytes_eq token entry.id) (1 + rest) (omega arith) within (put_within token held remember table d)
  where
    rest : ℕ
    rest = position_or_len (λ entry. bytes_eq token entry.id) table

    by : (b : Bool) (n : ℕ) → n ≡ suc rest → cond (not b) n 0 < suc (length table)
        → (rest < length table → set table rest (record (get_or table rest d) { pending = Some held; posts = remember (get_or table rest d).posts }) ≡ with_pending token held remember table)
        → set (entry ∷ table) (cond (not b) n 0) (record (get_or (entry ∷ table) (cond (not b) n 0) d) { pending = Some held; posts = remember (get_or (entry ∷ table) (cond (not b) n 0) d).posts })
        ≡ cond b ((record entry { pending = Some held; posts = remember entry.posts }) ∷ table) (entry ∷ with_pending token held remember table)
    by true n is inside up = refl
    by false n is inside up = rw is (ap (λ t. entry ∷ t) (up (omega (arith, is, inside))))

put_at_end : (token : List ℕ) (held : SecurityContext) (remember : List AgreedPost → List AgreedPost) (table : List TokenEntry) → length table ≤ position_or_len (λ entry. bytes_eq token entry.id) table
    → table ++ (record { id = token; confirmed = None; pending = Some held; posts = remember []; last = None }) ∷ [] ≡ with_pending token held remember table
put_at_end token held remember [] none = refl
put_at_end token held remember (entry ∷ table) none = by (bytes_eq token entry.id) (1 + rest) (omega arith) none (put_at_end token held remember table)
  where
    rest : ℕ
    rest = position_or_len (λ entry. bytes_eq token entry.id) table

    new : TokenEntry
    new = record { id = token; confirmed = None; pending = Some held; posts = remember []; last = None }

    by : (b : Bool) (n : ℕ) → n ≡ suc rest → suc (length table) ≤ cond (not b) n 0 → (length table ≤ rest → table ++ new ∷ [] ≡ with_pending token held remember table)
        → (entry ∷ table) ++ new ∷ [] ≡ cond b ((record entry { pending = Some held; posts = remember entry.posts }) ∷ table) (entry ∷ with_pending token held remember table)
    by true n is past up = absurd (omega arith)
    by false n is past up = ap (λ t. entry ∷ t) (up (omega (arith, is, past)))

pub put_here : (token : List ℕ) (held : SecurityContext) (remember : List AgreedPost → List AgreedPost) (table : List TokenEntry) (i : ℕ) (x : TokenEntry) → position (λ entry. bytes_eq token entry.id) table ≡ Some i
    → x ≡ get_or table i x → set table i (record x { pending = Some held; posts = remember x.posts }) ≡ with_pending token held remember table
put_here token held remember table i x found read = by (nat_lt place (length table)) refl found
  where
    place : ℕ
    place = position_or_len (λ entry. bytes_eq token entry.id) table

    by : (b : Bool) → nat_lt place (length table) ≡ b → cond b (Some place) None ≡ Some i → set table i (record x { pending = Some held; posts = remember x.posts }) ≡ with_pending token held remember table
    by true inside is =
        let same : place ≡ i = cc in
        let item : get_or table place x ≡ x = ap (λ k. get_or table k x) same ∙ sym read in
        ap₂ (λ (k : ℕ) (y : TokenEntry). set table k (record y { pending = Some held; posts = remember y.posts })) (sym same) (sym item) ∙ put_within token held remember table x (ltb-true place (length table) inside)
    by false outside is = let none : None ≡ Some i = is in absurd (cc)

pub put_last : (token : List ℕ) (held : SecurityContext) (remember : List AgreedPost → List AgreedPost) (table : List TokenEntry) → position (λ entry. bytes_eq token entry.id) table ≡ None
    → table ++ (record { id = token; confirmed = None; pending = Some held; posts = remember []; last = None }) ∷ [] ≡ with_pending token held remember table
put_last token held remember table none = by (nat_lt place (length table)) refl none
  where
    place : ℕ
    place = position_or_len (λ entry. bytes_eq token entry.id) table

    by : (b : Bool) → nat_lt place (length table) ≡ b → cond b (Some place) None ≡ None
        → table ++ (record { id = token; confirmed = None; pending = Some held; posts = remember []; last = None }) ∷ [] ≡ with_pending token held remember table
    by true inside is = let some : Some place ≡ None = is in absurd (cc)
    by false outside is = put_at_end token held remember table (ltb-false place (length table) outside)
