-- What a store's files list, and what is left of them.
use Rattle.std.proofs.Common.{◌≡◌, ◌≢◌, ◌⊎◌, Bool, true, false, List, [], inl, inr, refl, sym, subst, subst₂, ap, ◌∙◌, arith}
use Rattle.std.proofs.Math.Logic.{∥∥₁_elim, ∥∥₁_map}
use Rattle.sqlite_disk.specs.declared.Disk.{Ghosts}
use Rattle.sqlite_pages.specs.PageMap.{PageMap}
use Rattle.sqlite_wal.specs.State.{State}
use Rattle.sqlite_wal.specs.PageSize.{bytes_of}
use Rattle.sqlite_wal.specs.declared.page_size.PageSize.{PageSize}
use Rattle.sqlite_pool.specs.File.{in_use}
use Rattle.sqlite_pool.specs.Opening.{IsBlankFile}
use Rattle.sqlite_pool.specs.Stored.{used_size, Recovers, RecoversAs}
use Rattle.sqlite_pool.specs.StoredLaws.{carried, readable, recovers_once, RecoversAs-from}
use Rattle.sqlite_trees.specs.declared.store.Shape.TheVariants.{Table}
use Rattle.sqlite_value.specs.Order.{Row}
use Rattle.sqlite_store.specs.Db.{rows_at, IsFile}
use Rattle.sqlite_store.specs.declared.catalog.Wanted.{Wanted}
use Rattle.sqlite_store.specs.Listing.{IsOurs}
use Rattle.sqlite_store.specs.Opening.{IsEmptyFile}
use Rattle.sqlite_store.specs.Unopened.{image, state_of, HasSomeFile, Opens}
use Rattle.sqlite_store.specs.declared.store.open.Unopened.{Unopened}
use Rattle.sqlite_store.proofs.AlikeLemmas.{same_file}
use Rattle.osc_model.specs.Tree.{Tree}
use Rattle.osc_store.specs.{FindsTree, IsStore, page, schema, Fits, IsOwnList}
use Rattle.osc_store.proofs.FindLemmas.{page_sized}
use Rattle.osc_store.proofs.StartLemmas.{carry, lists_by, own_list}

module _ {D : Type 0} {g : Ghosts D} (it : Unopened D g) (fits : Fits (image it) (state_of it).page_size) (some : ¬ IsBlankFile page (image it)) where
  -- a store is a file of some schema
  pub store_is_file : IsStore (image it) → ∥ HasSomeFile it ∥₁
  store_is_file store = elim store.1 [
    | inl held ↦
        let r = held.1 in
        ∥∥₁_map r.ours (λ ours.
        let size = fits r.size (record { pages = r.pages; sized = r.sized; found = r.found; sound = ours.file.sound }) in
        subst (λ n. (pages : PageMap) × Recovers n (image it) pages × ((s : List Wanted) × IsFile n s pages)) size (r.pages, r.found, (r.wanted, ours.file)))
    | inr none ↦ ∥∥₁_map none.0 (elim [
      | inl blank ↦ absurd (some blank)
      | inr empty ↦
          let size = fits page (record { pages = empty.0; sized = page_sized; found = empty.1; sound = empty.2.0.sound }) in
          subst (λ n. (pages : PageMap) × Recovers n (image it) pages × ((s : List Wanted) × IsFile n s pages)) size (empty.0, empty.1, ([], empty.2.0))
    ])
  ]

  module _ (pages : PageMap) (before : Recovers (state_of it).page_size (image it) pages) where
    -- what is found is the table, or no table in pages of a new file
    pub found_case : (tree : Tree) → FindsTree (image it) tree → ∥ IsOurs (state_of it).page_size true schema pages ⊎ ((page ≡ (state_of it).page_size) × IsEmptyFile page pages) ∥₁
    found_case tree (inl held) =
        let r = held.1 in
        ∥∥₁_map r.ours (λ ours.
        let size = fits r.size (record { pages = r.pages; sized = r.sized; found = r.found; sound = ours.file.sound }) in
        let same = recovers_once (state_of it).page_size (image it) r.pages pages (subst (λ n. Recovers n (image it) r.pages) size r.found) before in
        let own = (same_file r.size r.wanted schema r.pages (sym (lists_by (image it) held.0 r held.2)) ours).0 in
        inl (subst₂ (λ n p. IsOurs n true schema p) size same own))
    found_case tree (inr none) = ∥∥₁_map none.0 (elim [
      | inl blank ↦ absurd (some blank)
      | inr empty ↦
          let size = fits page (record { pages = empty.0; sized = page_sized; found = empty.1; sound = empty.2.0.sound }) in
          let same = recovers_once page (image it) empty.0 pages empty.1 (subst (λ n. Recovers n (image it) pages) (sym size) before) in
          inr (size, subst (IsEmptyFile page) same empty.2)
    ])

    abbrev rows : List Row
    rows = rows_at (state_of it).page_size (in_use (state_of it).page_size pages) Table 1

    lists_own : IsOurs (state_of it).page_size true schema pages → IsOwnList rows
    lists_own ours = own_list (state_of it).page_size schema pages refl ours

    lists_none : (page ≡ (state_of it).page_size) → IsEmptyFile page pages → rows ≡ []
    lists_none size empty = ap (λ n. rows_at n (in_use n pages) Table 1) (sym size) ∙ empty.1

    -- where it lists the table
    pub own_case : (tree : Tree) → FindsTree (image it) tree → IsOwnList rows → ∥ IsOurs (state_of it).page_size true schema pages ∥₁
    own_case tree found own = ∥∥₁_map (found_case tree found) (elim [ inl ours ↦ ours | inr none ↦ absurd (never own (lists_none none.0 none.1)) ])
      where
        never : IsOwnList rows → rows ≡ [] → ⊥
        never own none = let h = sym own.1 ∙ none in cc

    -- where it lists nothing
    pub empty_case : (tree : Tree) → FindsTree (image it) tree → rows ≡ [] → ∥ (page ≡ (state_of it).page_size) × IsEmptyFile page pages ∥₁
    empty_case tree found none = ∥∥₁_map (found_case tree found) (elim [ inl ours ↦ absurd (never (lists_own ours) none) | inr empty ↦ empty ])
      where
        never : IsOwnList rows → rows ≡ [] → ⊥
        never own none = let h = sym own.1 ∙ none in cc

    -- it lists nothing else
    pub no_other : IsStore (image it) → ¬ IsOwnList rows → rows ≢ [] → ⊥
    no_other store foreign more = ∥∥₁_elim (found_case store.0 store.1) (λ x y. absurd x) (elim [ inl ours ↦ foreign (lists_own ours) | inr none ↦ more (lists_none none.0 none.1) ])

module _ {D : Type 0} {g : Ghosts D} (old mid : Unopened D g) (pages : PageMap) (before : Recovers (state_of old).page_size (image old) pages) (again : Recovers (state_of old).page_size (image mid) pages) where
  -- one opening after another
  pub opens_then : (new : State) → Opens old (state_of mid) → Opens mid new → Opens old new
  opens_then new first next = record {
    size = next.size ∙ first.size;
    counts = omega (arith, first.counts, next.counts);
    crash = λ left may. elim (next.crash left may).same [
      | inl was ↦ first.crash left was
      | inr same ↦
          let size = (state_of old).page_size in
          let now = carried size (image mid) left (subst (λ n. RecoversAs n (image mid) left) first.size same) pages again in
          record { same = inr (RecoversAs-from size (image old) left pages before now); unread = λ unreadable. absurd (readable size (image old) pages before unreadable) }
    ];
  }

  -- what was found is still there
  pub still_found : Fits (image old) (state_of old).page_size → ¬ IsBlankFile page (image old) → (tree : Tree) → FindsTree (image old) tree → ∥ FindsTree (image mid) tree ∥₁
  still_found fits some tree found = carry (image old) (image mid) (state_of old).page_size tree fits some (RecoversAs-from (state_of old).page_size (image old) (image mid) pages before again) found

-- only pages of 4096 bytes with a sum have `page` bytes that are used
pub only_new : (size : PageSize) (b : Bool) → page ≡ used_size (bytes_of size) b → (bytes_of size ≡ 4096) × (b ≡ true)
only_new size true is = (omega (arith, is), refl)
only_new size false is = absurd (omega (arith, is, size.aligned))
