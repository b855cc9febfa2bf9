-- Marks that say what the tree says.
use Rattle.std.proofs.Common.{arith, ◌≡◌, ◌≢◌, ◌⊎◌, ℕ, Bool, true, false, not, cond, ◌&&◌, ◌||◌, nat_le, nat_lt, ◌/◌, List, [], ◌∷◌, ◌++◌, find, length, is_some, replicate, zero, get_or, drop, drop-cons, add-one, suc, ◌+◌, ◌<◌, Option, Some, None, option_map, refl, sym, ap, subst, ◌∙◌, inl, inr, ⊎_elim, bytes_eq}
use Rattle.std.specs.List.{All, AllByRecursion, list_any}
use Rattle.std.specs.Option.{option_map_or}
use Rattle.std.proofs.lemmas.Bool.{and_parts, or_cases}
use Rattle.std.proofs.lemmas.List.Elements.{recursion_from_All}
use Rattle.std.proofs.lemmas.List.Folds.{list_any-append}
use Rattle.std.proofs.lemmas.Slice.Eq.{bytes_eq-Decides}
use Rattle.std.specs.FinMap as map
use Rattle.osc_model.specs.{path_cmp, stands}
use Rattle.osc_model.specs.Tree.{Tree}
use Rattle.osc_model.specs.declared.node.Moment.{Moment}
use Rattle.osc_authz.specs.Standing.{Standing}
use Rattle.osc_authz.specs.SecurityContext.{SecurityContext}
use Rattle.osc_authz.specs.Inner.Lives.{alive_by, holds_live_by, is_live_by}
use Rattle.osc_authz.specs.Inner.Marks.{is_marked}
use Rattle.osc_authz.specs.Inner.Revoking.{SetsMark, SetsMarks, is_revoked_at, is_revoked_in, is_such}
use Rattle.osc_authz.specs.{AreMarked, IsMarked, IsSameBut, IsTable, In, IsLawfulContext, accepted, accepted_in, alive, contexts, has_id, holds_live, is_live, listed, mark_of, taking, with_id}
use Rattle.osc_authz.specs.declared.token_entry.TokenEntry.{TokenEntry}
use Rattle.osc_authz.proofs.ContextLaws.{one_held}
use Rattle.osc_authz.proofs.Members.{in_front, in_back, in_either}

-- ---- those that live

pub lives_by : (on : Standing) (marks : List Bool) (held : SecurityContext) → IsMarked on.tree marks held → is_live_by on.at marks held ≡ is_live on held
lives_by on marks held marked =
    λ i. option_map_or (λ s. nat_le s (on.at.ms / 1000)) held.not_before true
    && option_map_or (λ s. nat_lt (on.at.ms / 1000) s) held.expires true
    && not (marked i)
    && option_map_or (λ s. nat_lt (on.at.ms / 1000) s) held.ends true

module _ (on : Standing) (marks : List Bool) where
  one_lives : (o : Option SecurityContext) → ((held : SecurityContext) → In held (listed o) → IsMarked on.tree marks held)
      → option_map_or (is_live_by on.at marks) o false ≡ option_map_or (is_live on) o false
  one_lives None marked = refl
  one_lives (Some held) marked = lives_by on marks held (marked held (inl refl))

  abbrev mine : TokenEntry → List SecurityContext
  mine entry = listed entry.confirmed ++ listed entry.pending

  pub alive_is : (table : List TokenEntry) → AreMarked on.tree table marks → alive_by on.at marks table ≡ alive on table
  alive_is [] marked = refl
  alive_is (entry ∷ table) marked =
      let front = λ (held : SecurityContext) (m : In held (mine entry)). marked held (in_front held (mine entry) (contexts table) m) in
      let lives : holds_live_by on.at marks entry ≡ holds_live on entry =
      λ i. one_lives entry.confirmed (λ held m. front held (in_front held (listed entry.confirmed) (listed entry.pending) m)) i
      || one_lives entry.pending (λ held m. front held (in_back held (listed entry.confirmed) (listed entry.pending) m)) i in
      let rest = alive_is table (λ held m. marked held (in_back held (mine entry) (contexts table) m)) in
      λ i. cond (lives i) (entry ∷ rest i) (rest i)

-- what is found is one of the table
pub found_in : (id : List ℕ) (table : List TokenEntry) (held : SecurityContext) → with_id id table ≡ Some held → In held (contexts table)
found_in id table held found = go (contexts table) found
  where
    go : (xs : List SecurityContext) → find (has_id id) xs ≡ Some held → In held xs
    go [] e = absurd (cc)
    go (x ∷ xs) e = by (has_id id x) e (go xs)
      where
        by : (b : Bool) → cond b (Some x) (find (has_id id) xs) ≡ Some held → (find (has_id id) xs ≡ Some held → In held xs) → In held (x ∷ xs)
        by true is rest = inl cc
        by false is rest = inr (rest is)

-- ---- a number is taken

-- each context of the entry is one that it had, but for the window
record Comes (from : List SecurityContext) (held : SecurityContext) : Type 0 where
  old : SecurityContext
  among : In old from
  id : held.name.client_id ≡ old.name.client_id
  revocation : held.revocation ≡ old.revocation

module _ (id : List ℕ) (number : ℕ) where
  comes_one : (o : Option SecurityContext) (held : SecurityContext) → In held (listed (option_map (taking number) o)) → Comes (listed o) held
  comes_one None held m = absurd m
  comes_one (Some old) held (inl e) = record { old = old; among = inl refl; id = ap (λ (c : SecurityContext). c.name.client_id) e; revocation = ap (λ (c : SecurityContext). c.revocation) e }
  comes_one (Some old) held (inr m) = absurd m

  further : (front back : List SecurityContext) (held : SecurityContext) → Comes front held → Comes (front ++ back) held
  further front back held c = record { old = c.old; among = in_front c.old front back c.among; id = c.id; revocation = c.revocation }

  later : (front back : List SecurityContext) (held : SecurityContext) → Comes back held → Comes (front ++ back) held
  later front back held c = record { old = c.old; among = in_back c.old front back c.among; id = c.id; revocation = c.revocation }

  itself : (from : List SecurityContext) (held : SecurityContext) → In held from → Comes from held
  itself from held m = record { old = held; among = m; id = refl; revocation = refl }

  comes_in : (entry : TokenEntry) (held : SecurityContext) → In held (listed (accepted_in id number entry).confirmed ++ listed (accepted_in id number entry).pending)
      → Comes (listed entry.confirmed ++ listed entry.pending) held
  comes_in entry held = by (option_map_or (has_id id) entry.pending false) (option_map_or (has_id id) entry.confirmed false)
    where
      entry_by : Bool → Bool → TokenEntry
      entry_by p c = cond p (record entry { confirmed = option_map (taking number) entry.pending; pending = None; last = None }) (cond c (record entry { confirmed = option_map (taking number) entry.confirmed; last = None }) entry)

      by : (p c : Bool) → In held (listed (entry_by p c).confirmed ++ listed (entry_by p c).pending) → Comes (listed entry.confirmed ++ listed entry.pending) held
      by true c m =
          ⊎_elim
          (λ (x : In held (listed (option_map (taking number) entry.pending))). later (listed entry.confirmed) (listed entry.pending) held (comes_one entry.pending held x))
          (λ (none : ⊥). absurd none)
          (in_either held (listed (option_map (taking number) entry.pending)) [] m)
      by false true m =
          ⊎_elim
          (λ (x : In held (listed (option_map (taking number) entry.confirmed))). further (listed entry.confirmed) (listed entry.pending) held (comes_one entry.confirmed held x))
          (λ (x : In held (listed entry.pending)). later (listed entry.confirmed) (listed entry.pending) held (itself (listed entry.pending) held x))
          (in_either held (listed (option_map (taking number) entry.confirmed)) (listed entry.pending) m)
      by false false m = itself (listed entry.confirmed ++ listed entry.pending) held m

  comes : (table : List TokenEntry) (held : SecurityContext) → In held (contexts (accepted id number table)) → Comes (contexts table) held
  comes [] held m = absurd m
  comes (entry ∷ table) held m =
      let both = listed (accepted_in id number entry).confirmed ++ listed (accepted_in id number entry).pending in
      let own = listed entry.confirmed ++ listed entry.pending in
      ⊎_elim
      (λ (x : In held both). further own (contexts table) held (comes_in entry held x))
      (λ (x : In held (contexts (accepted id number table))). later own (contexts table) held (comes table held x))
      (in_either held both (contexts (accepted id number table)) m)

  pub marked_accepted : (tree : Tree) (table : List TokenEntry) (marks : List Bool) → AreMarked tree table marks → AreMarked tree (accepted id number table) marks
  marked_accepted tree table marks marked held m =
      let c = comes table held m in
      ap (mark_of marks) c.id ∙ marked c.old c.among ∙ ap (stands tree) (sym c.revocation)

replicated : (n byte : ℕ) → get_or (replicate n false) byte false ≡ false
replicated zero byte = refl
replicated (suc n) zero = refl
replicated (suc n) (suc byte) = replicated n byte

unmarked : (id : List ℕ) → mark_of (replicate 256 false) id ≡ false
unmarked [] = refl
unmarked (byte ∷ []) = replicated 256 byte
unmarked (byte ∷ next ∷ rest) = refl

-- where there are no resources, nothing is marked
pub none_marked : (table : List TokenEntry) → AreMarked map.empty table (replicate 256 false)
none_marked table held m = unmarked held.name.client_id ∙ sym (nowhere held.revocation)
  where
    nowhere : (revocation : Option (List ℕ)) → stands map.empty revocation ≡ false
    nowhere None = refl
    nowhere (Some path) = ap is_some (map.get-empty path_cmp path)

-- ---- one mark, or some

pub one_marked : (marks : List Bool) (id : List ℕ) (byte : ℕ) → length id ≡ 1 → byte ≡ get_or id 0 byte → is_marked marks byte ≡ mark_of marks id
one_marked marks [] byte size is = absurd (omega (arith, size))
one_marked marks (first ∷ []) byte size is = ap (is_marked marks) is
one_marked marks (first ∷ second ∷ rest) byte size is = absurd (omega (arith, size))

pub others_unmarked : (marks : List Bool) (id : List ℕ) → length id ≢ 1 → false ≡ mark_of marks id
others_unmarked marks [] other = refl
others_unmarked marks (first ∷ []) other = absurd (other refl)
others_unmarked marks (first ∷ second ∷ rest) other = refl

-- a mark that isn't of this ID stays
pub other_stays : (id other : List ℕ) (mark : Bool) (old new : List Bool) → SetsMark id mark old new → bytes_eq other id ≡ false → mark_of new other ≡ mark_of old other
other_stays id [] mark old new sets e = refl
other_stays id (byte ∷ []) mark old new sets e = sets byte ∙ ap (λ b. cond b mark (is_marked old byte)) e
other_stays id (byte ∷ next ∷ rest) mark old new sets e = refl

pub this_is_set : (byte : ℕ) (mark : Bool) (old new : List Bool) → SetsMark (byte ∷ []) mark old new → mark_of new (byte ∷ []) ≡ mark
this_is_set byte mark old new sets = sets byte ∙ ap (λ b. cond b mark (is_marked old byte)) ((bytes_eq-Decides (byte ∷ []) (byte ∷ [])).1 refl)

-- the same of the contexts that one resource revokes
module _ (test : SecurityContext → Bool) (mark : Bool) where
  pub sets_more : (front back : List SecurityContext) (old middle : Bool) (byte : ℕ) → middle ≡ cond (list_any (is_such test byte) front) mark old
      → cond (list_any (is_such test byte) back) mark middle ≡ cond (list_any (is_such test byte) (front ++ back)) mark old
  sets_more front back old middle byte is =
      ap (λ b. cond (list_any (is_such test byte) back) mark b) is
      ∙ by (list_any (is_such test byte) front) (list_any (is_such test byte) back)
      ∙ ap (λ b. cond b mark old) (sym (list_any-append (is_such test byte) front back))
    where
      by : (f b : Bool) → cond b mark (cond f mark old) ≡ cond (f || b) mark old
      by true true = refl
      by true false = refl
      by false true = refl
      by false false = refl

  -- what is yet to be set, once one more entry has been gone over
  pub set_more : (table : List TokenEntry) (i : ℕ) (entry : TokenEntry) (byte : ℕ) (old new all : Bool)
      → i < length table → entry ≡ get_or table i entry
      → new ≡ cond (list_any (is_such test byte) (listed entry.confirmed ++ listed entry.pending)) mark old
      → cond (list_any (is_such test byte) (contexts (drop i table))) mark old ≡ all
      → cond (list_any (is_such test byte) (contexts (drop (i + 1) table))) mark new ≡ all
  set_more table i entry byte old new all within is set before =
      sets_more (listed entry.confirmed ++ listed entry.pending) (contexts (drop (i + 1) table)) old new byte set
      ∙ ap (λ entries. cond (list_any (is_such test byte) (contexts entries)) mark old) (sym parts)
      ∙ before
    where
      parts : drop i table ≡ entry ∷ drop (i + 1) table
      parts = rw (add-one, drop-cons table i entry) (ap (λ h. h ∷ drop (suc i) table) (sym is))

  -- one is among them
  is_any : (byte : ℕ) (held : SecurityContext) (xs : List SecurityContext) → In held xs → is_such test byte held ≡ true → list_any (is_such test byte) xs ≡ true
  is_any byte held [] m is = absurd m
  is_any byte held (x ∷ xs) (inl e) is = ap (λ b. b || list_any (is_such test byte) xs) (ap (is_such test byte) (sym e) ∙ is)
  is_any byte held (x ∷ xs) (inr m) is = by (is_such test byte x) (is_any byte held xs m is)
    where
      by : (b : Bool) → list_any (is_such test byte) xs ≡ true → (b || list_any (is_such test byte) xs) ≡ true
      by true up = refl
      by false up = up

  any_is : (byte : ℕ) (xs : List SecurityContext) → list_any (is_such test byte) xs ≡ true → (held : SecurityContext) × In held xs × (is_such test byte held ≡ true)
  any_is byte [] is = absurd (cc)
  any_is byte (x ∷ xs) is =
      elim (or_cases (is_such test byte x) (list_any (is_such test byte) xs) is) [
        | inl here ↦ (x, inl refl, here)
        | inr there ↦ let r : (held : SecurityContext) × In held xs × (is_such test byte held ≡ true) = any_is byte xs there in (r.0, inr r.1, r.2)
      ]

-- ---- the tree changed at one path

member : (P : SecurityContext → Type 0) (xs : List SecurityContext) (x : SecurityContext) → AllByRecursion P xs → In x xs → P x
member P [] x all m = absurd m
member P (y ∷ xs) x all (inl e) = subst P (sym e) all.0
member P (y ∷ xs) x all (inr m) = member P xs x all.1 m

at_path : (path : List ℕ) (revocation : Option (List ℕ)) → option_map_or (bytes_eq path) revocation false ≡ true → revocation ≡ Some path
at_path path None is = absurd (cc)
at_path path (Some own) is = ap (λ (p : List ℕ). Some p) (sym ((bytes_eq-Decides path own).0 is))

both_true : (a b : Bool) → a ≡ true → b ≡ true → (a && b) ≡ true
both_true a b p q = rw (p, q) refl

-- marks that follow the tree at this path, as it was and as it is
pub follow : (before tree : Tree) (path : List ℕ) (mark : Bool) (table : List TokenEntry) (old new : List Bool) → IsTable table → mark ≡ map.contains_key tree path
    → SetsMarks (is_revoked_at path) mark (contexts table) old new → IsSameBut before tree path → AreMarked before table old → AreMarked tree table new
follow before tree path mark table old new is_table mark_is sets same marked held m =
    ap (mark_of new) lawful.one_byte ∙ sets lawful.byte ∙ by (list_any (is_such (is_revoked_at path) lawful.byte) (contexts table)) refl
  where
    lawful : IsLawfulContext held
    lawful = member IsLawfulContext (contexts table) held (recursion_from_All IsLawfulContext (contexts table) is_table.lawful) m

    own : has_id (lawful.byte ∷ []) held ≡ true
    own = (bytes_eq-Decides (lawful.byte ∷ []) held.name.client_id).1 (sym lawful.one_byte)

    never : (b : Bool) → b ≡ true → b ≡ false → ⊥
    never b t f = cc (t, f)

    by : (any : Bool) → list_any (is_such (is_revoked_at path) lawful.byte) (contexts table) ≡ any → cond any mark (is_marked old lawful.byte) ≡ stands tree held.revocation
    by true any =
        let r : (other : SecurityContext) × In other (contexts table) × (is_such (is_revoked_at path) lawful.byte other ≡ true) = any_is (is_revoked_at path) mark lawful.byte (contexts table) any in
        let parts = and_parts (has_id (lawful.byte ∷ []) r.0) (option_map_or (bytes_eq path) r.0.revocation false) r.2 in
        let one : r.0 ≡ held = one_held table r.0 held is_table r.1 m (sym ((bytes_eq-Decides (lawful.byte ∷ []) r.0.name.client_id).0 parts.0) ∙ sym lawful.one_byte) in
        mark_is ∙ ap (stands tree) (sym (at_path path r.0.revocation parts.1) ∙ ap (λ (c : SecurityContext). c.revocation) one)
    by false none = sym (ap (mark_of old) lawful.one_byte) ∙ marked held m ∙ at held.revocation refl
      where
        at : (revocation : Option (List ℕ)) → held.revocation ≡ revocation → stands before revocation ≡ stands tree revocation
        at None is = refl
        at (Some other) is = same other apart
          where
            apart : other ≢ path
            apart e =
                let named : option_map_or (bytes_eq path) held.revocation false ≡ true = ap (λ (o : Option (List ℕ)). option_map_or (bytes_eq path) o false) is ∙ (bytes_eq-Decides path other).1 (sym e) in
                let one : is_such (is_revoked_at path) lawful.byte held ≡ true = both_true (has_id (lawful.byte ∷ []) held) (option_map_or (bytes_eq path) held.revocation false) own named in
                never (list_any (is_such (is_revoked_at path) lawful.byte) (contexts table)) (is_any (is_revoked_at path) mark lawful.byte held (contexts table) m one) none

-- marks by the tree alone
pub marked_by : (tree : Tree) (table : List TokenEntry) (new : List Bool) → IsTable table → SetsMarks (is_revoked_in tree) true (contexts table) (replicate 256 false) new → AreMarked tree table new
marked_by tree table new is_table sets held m =
    ap (mark_of new) lawful.one_byte ∙ sets lawful.byte ∙ by (list_any (is_such (is_revoked_in tree) lawful.byte) (contexts table)) refl
  where
    lawful : IsLawfulContext held
    lawful = member IsLawfulContext (contexts table) held (recursion_from_All IsLawfulContext (contexts table) is_table.lawful) m

    own : has_id (lawful.byte ∷ []) held ≡ true
    own = (bytes_eq-Decides (lawful.byte ∷ []) held.name.client_id).1 (sym lawful.one_byte)

    by : (any : Bool) → list_any (is_such (is_revoked_in tree) lawful.byte) (contexts table) ≡ any → cond any true (is_marked (replicate 256 false) lawful.byte) ≡ stands tree held.revocation
    by true any =
        let r : (other : SecurityContext) × In other (contexts table) × (is_such (is_revoked_in tree) lawful.byte other ≡ true) = any_is (is_revoked_in tree) true lawful.byte (contexts table) any in
        let parts = and_parts (has_id (lawful.byte ∷ []) r.0) (stands tree r.0.revocation) r.2 in
        let one : r.0 ≡ held = one_held table r.0 held is_table r.1 m (sym ((bytes_eq-Decides (lawful.byte ∷ []) r.0.name.client_id).0 parts.0) ∙ sym lawful.one_byte) in
        sym parts.1 ∙ ap (λ (c : SecurityContext). stands tree c.revocation) one
    by false none = unmarked (lawful.byte ∷ []) ∙ not_standing (stands tree held.revocation) refl
      where
        not_standing : (b : Bool) → stands tree held.revocation ≡ b → false ≡ b
        not_standing false is = refl
        not_standing true is =
            let one : is_such (is_revoked_in tree) lawful.byte held ≡ true = both_true (has_id (lawful.byte ∷ []) held) (stands tree held.revocation) own is in
            sym none ∙ is_any (is_revoked_in tree) true lawful.byte held (contexts table) m one
