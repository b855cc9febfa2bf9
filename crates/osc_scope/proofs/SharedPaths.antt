-- The paths that a scope of entries names, and those that two have in common.
use Rattle.std.proofs.Common.{◌≡◌, ◌↔◌, ℕ, ◌≤◌, ◌%◌, Bool, true, false, ◌||◌, List, [], ◌∷◌, refl, sym, ap, ◌∙◌}
use Rattle.std.specs.List.{All, list_any}
use Rattle.std.proofs.lemmas.Bool.{both_ways}
use Rattle.std.proofs.lemmas.List.Elements.{All-weaker}
use Rattle.osc_model.specs.{AreApart, names, is_reached}
use Rattle.osc_scope.specs.{Entry, IsLawful, has_path, overlap, scope_of, share_a_path}
use Rattle.osc_scope.proofs.Grants.{AnyPermission, scope_names}

-- ---- what is named

abbrev pub has_it : List Entry → List ℕ → Bool
has_it entries path = list_any (λ entry. has_path entry path) entries

pub named : AnyPermission → (entries : List Entry) (path : List ℕ) → All IsLawful entries → names (scope_of entries) path ≡ has_it entries path
named any entries path lawful = scope_names any entries path (All-weaker IsLawful (λ entry. 1 ≤ entry.mask % 16) (λ entry e. e.some) entries lawful)

-- ---- what two have in common

or_true : (b : Bool) → (b || true) ≡ true
or_true true = refl
or_true false = refl

record IsCommon (entries others : List Entry) : Type 0 where
  path : List ℕ
  here : has_it entries path ≡ true
  there : has_it others path ≡ true

-- What follows rests on two laws of osc_model.
module _
    (own : (top : List ℕ) (below : Bool) → is_reached top below top ≡ true)
    (common : (top other : List ℕ) (below others_below : Bool) (path : List ℕ)
    → is_reached top below path ≡ true → is_reached other others_below path ≡ true
    → (is_reached top below other || is_reached other others_below top) ≡ true)
  where
    itself : (entry : Entry) → has_path entry entry.path ≡ true
    itself entry = own entry.path _

    -- an entry that overlaps one of the others
    one_common : (entry : Entry) (others : List Entry) → list_any (overlap entry) others ≡ true → IsCommon (entry ∷ []) others
    one_common entry [] e = cc
    one_common entry (other ∷ others) e = go (has_path entry other.path) (has_path other entry.path) refl refl e (one_common entry others)
      where
        go : (a b : Bool) → has_path entry other.path ≡ a → has_path other entry.path ≡ b → ((a || b) || list_any (overlap entry) others) ≡ true
            → (list_any (overlap entry) others ≡ true → IsCommon (entry ∷ []) others) → IsCommon (entry ∷ []) (other ∷ others)
        go true b here there e later = record { path = other.path; here = ap (λ t. t || false) here; there = ap (λ t. t || has_it others other.path) (itself other) }
        go false true here there e later = record { path = entry.path; here = ap (λ t. t || false) (itself entry); there = ap (λ t. t || has_it others entry.path) there }
        go false false here there e later =
            let one = later e in
            record { path = one.path; here = one.here; there = ap (λ t. has_path other one.path || t) one.there ∙ or_true (has_path other one.path) }

    in_common : (entries others : List Entry) → share_a_path entries others ≡ true → IsCommon entries others
    in_common [] others e = cc
    in_common (entry ∷ entries) others e = go (list_any (overlap entry) others) refl e (in_common entries others)
      where
        first : (b c : Bool) → (b || false) ≡ true → (b || c) ≡ true
        first true c e = refl
        first false c e = cc

        go : (b : Bool) → list_any (overlap entry) others ≡ b → (b || share_a_path entries others) ≡ true
            → (share_a_path entries others ≡ true → IsCommon entries others) → IsCommon (entry ∷ entries) others
        go true is e later =
            let one = one_common entry others is in
            record { path = one.path; here = first (has_path entry one.path) (has_it entries one.path) one.here; there = one.there }
        go false is e later =
            let one = later e in
            record { path = one.path; here = ap (λ t. has_path entry one.path || t) one.here ∙ or_true (has_path entry one.path); there = one.there }

    -- an entry with a path that one of the others has overlaps that one
    one_shared : (entry : Entry) (others : List Entry) (path : List ℕ) → has_path entry path ≡ true → has_it others path ≡ true → list_any (overlap entry) others ≡ true
    one_shared entry [] path here there = there
    one_shared entry (other ∷ others) path here there = go (has_path other path) refl there (one_shared entry others path here)
      where
        go : (b : Bool) → has_path other path ≡ b → (b || has_it others path) ≡ true → (has_it others path ≡ true → list_any (overlap entry) others ≡ true)
            → (overlap entry other || list_any (overlap entry) others) ≡ true
        go true is e later = ap (λ t. t || list_any (overlap entry) others) (common entry.path other.path _ _ path here is)
        go false is e later = ap (λ t. overlap entry other || t) (later e) ∙ or_true (overlap entry other)

    shared : (entries others : List Entry) (path : List ℕ) → has_it entries path ≡ true → has_it others path ≡ true → share_a_path entries others ≡ true
    shared [] others path here there = here
    shared (entry ∷ entries) others path here there = go (has_path entry path) refl here (λ later. shared entries others path later there)
      where
        go : (b : Bool) → has_path entry path ≡ b → (b || has_it entries path) ≡ true → (has_it entries path ≡ true → share_a_path entries others ≡ true)
            → (list_any (overlap entry) others || share_a_path entries others) ≡ true
        go true is e later = ap (λ t. t || share_a_path entries others) (one_shared entry others path is there)
        go false is e later = ap (λ t. list_any (overlap entry) others || t) (later e) ∙ or_true (list_any (overlap entry) others)

    is_false : (b : Bool) → (b ≡ true → ⊥) → b ≡ false
    is_false true never = absurd (never refl)
    is_false false never = refl

    pub apart_where : AnyPermission → (entries others : List Entry) → All IsLawful entries → All IsLawful others
        → (AreApart (scope_of entries) (scope_of others) ↔ share_a_path entries others ≡ false)
    apart_where any entries others lawful lawfuls = (
      (λ apart.
          is_false (share_a_path entries others)
          (λ e.
          let one = in_common entries others e in
          both_ways (has_it others one.path)
          (sym (named any others one.path lawfuls) ∙ apart one.path (named any entries one.path lawful ∙ one.here)) one.there)),
      (λ none path here.
          is_false (names (scope_of others) path)
          (λ there.
          both_ways (share_a_path entries others) none
          (shared entries others path (sym (named any entries path lawful) ∙ here) (sym (named any others path lawfuls) ∙ there)))),
    )
