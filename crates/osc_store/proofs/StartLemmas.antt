-- What a crash leaves of a start, and what the next start finds.
use Rattle.std.proofs.Common.{◌≡◌, ◌⊎◌, ℕ, true, List, [], ◌∷◌, codes, IsTrue, None, inl, inr, subst₂, refl, sym, subst, ap, ◌∙◌, arith}
use Rattle.std.proofs.Math.Logic.{∥∥₁_elim, ∥∥₁_map}
use Rattle.std.proofs.lemmas.List.Sums.{sum_by-cons}
use Rattle.std.proofs.lemmas.Nat.Bits.{bit_at-zero}
use Rattle.std.specs.Float.{NotNan}
use lib.Ieee.{is_nan, lt}
use Rattle.std.specs.FinMap as finmap
use Rattle.std.proofs.lemmas.List.Elements.{All-from_recursion}
use Rattle.sqlite_disk.specs.declared.Disk.{Ghosts}
use Rattle.sqlite_disk.specs.Disk.{MoreFaults}
use Rattle.sqlite_pages.specs.PageMap.{PageMap}
use Rattle.sqlite_wal.specs.PageSize.{IsPageSize}
use Rattle.sqlite_wal.specs.Recovery.{Image, AreWhole}
use Rattle.sqlite_wal.specs.State.{State}
use Rattle.sqlite_pool.specs.File.{in_use, version_in}
use Rattle.sqlite_pool.specs.Opening.{IsBlankFile, IsNew}
use Rattle.sqlite_pool.specs.Stored.{Recovers, RecoversAs, stored_size}
use Rattle.sqlite_pool.specs.StoredLaws.{carried, trimmed_whole}
use Rattle.sqlite_pool.proofs.StateLemmas.{size_is_allowed}
use Rattle.sqlite_value.specs.Order.{Row, number, value_cmp}
use Rattle.sqlite_trees.specs.Sound.{begins, fits_kind, is_free_name, may_follow, same_name}
use Rattle.sqlite_trees.specs.View.{IsStorable}
use Rattle.sqlite_value.specs.declared.value.Value.TheVariants.{Text}
use Rattle.sqlite_trees.specs.Objects.{catalog_tree, with_version}
use Rattle.sqlite_trees.specs.Tree.{Trees}
use Rattle.sqlite_trees.specs.declared.store.Shape.TheVariants.{Index, Table}
use Rattle.sqlite_value.specs.Keys.{plain}
use Rattle.sqlite_store.specs.Build.{CanBuild, listing}
use Rattle.sqlite_store.specs.Catalog.{is_plain, roots_in}
use Rattle.sqlite_store.specs.Db.{rows_at, roots_of, trees_in}
use Rattle.sqlite_store.specs.Exact.{entries_of}
use Rattle.sqlite_store.specs.FileStore.{reading, recovers, schema_in, state, view}
use Rattle.sqlite_store.specs.Listing.{all_reals, all_shapes, all_trees, file_trees, listed_from, IsOurs}
use Rattle.sqlite_store.specs.Opening.{FailsToOpen, IsEmptyFile, IsFresh}
use Rattle.sqlite_store.specs.Saved.{kept_schema}
use Rattle.sqlite_store.specs.Unopened.{image, state_of, wanted_by, Creates, IsOnTheWay, IsUnstarted, Opens}
use Rattle.sqlite_store.specs.declared.catalog.Wanted.{Wanted}
use Rattle.sqlite_store.specs.declared.error.OpenError.{OpenError as FileError}
use Rattle.sqlite_store.specs.declared.error.OpenError.TheVariants as file
use Rattle.sqlite_store.specs.declared.store.FileStore.{FileStore}
use Rattle.sqlite_store.specs.declared.store.open.Unopened.{Unopened}
use Rattle.sqlite_store.proofs.AlikeLemmas.{same_file}
use Rattle.sqlite_store.proofs.BuildLemmas.{new_is_empty}
use Rattle.sqlite_store.proofs.ListingLemmas.{past_version, named_tree}
use Rattle.osc_model.specs.Tree.{Tree}
use Rattle.osc_store.specs.{rows_of, Holds, schema, statement, page, FindsTree, HoldsTree, IsEmpty, IsUnmade, Leaves, ListsTable, ReadsAs, Keeps, MayHold, of_open, Fails, Fits, HasSound, IsOwnList, Shows}
use Rattle.osc_store.proofs.FindLemmas.{page_sized, same_size, same_pages, sound_is_something}
use Rattle.osc_store.proofs.LoadLemmas.{one_tree}
use Rattle.osc_store.proofs.ViewLemmas.{no_rows}

-- ---- what the files of a store list

pub listing_of : (size : ℕ) (listed : List Wanted) (pages : PageMap) → file_trees size listed pages catalog_tree ≡ listed_from 0 listed
unfolding all_trees
listing_of size listed pages = refl

own_rows : (roots : List Row) → IsOwnList (entries_of 1 schema (roots_in roots schema))
own_rows roots = (_, refl, refl, refl)

pub own_list : (size : ℕ) (wanted : List Wanted) (pages : PageMap) → listed_from 0 wanted ≡ listed_from 0 schema → IsOurs size true wanted pages → IsOwnList (rows_at size (in_use size pages) Table 1)
unfolding roots_of
own_list size wanted pages same ours =
    let exact = (same_file size wanted schema pages (sym same) ours).0.numbered refl in
    subst IsOwnList (sym exact.listed) (own_rows (rows_at size (in_use size pages) Table 1))

pub lists_by : (image : Image) (db : Trees) (r : ReadsAs image db) → ListsTable db → listed_from 0 r.wanted ≡ listed_from 0 schema
lists_by image db r lists = sym (ap (λ (t : Trees). t catalog_tree) r.reads ∙ listing_of r.size r.wanted r.pages) ∙ lists

no_rows_listed : (rows : List Row) → IsOwnList rows → rows ≡ [] → ⊥
no_rows_listed rows own none = let h = sym own.1 ∙ none in cc

-- ---- one tree in one pair of files

pub read_is_made : (image : Image) (db : Trees) → ReadsAs image db → ListsTable db → ¬ IsUnmade image
read_is_made image db r lists unmade =
    ∥∥₁_elim r.ours (λ x y. absurd x) (λ ours.
    let sound : HasSound image r.size = record { pages = r.pages; sized = r.sized; found = r.found; sound = ours.file.sound } in
    ∥∥₁_elim unmade (λ x y. absurd x) (elim [
      | inl blank ↦ sound_is_something image r.size sound blank
      | inr empty ↦
          let other : HasSound image page = record { pages = empty.0; sized = page_sized; found = empty.1; sound = empty.2.0.sound } in
          let alike = same_pages image r.size page sound other in
          let size = same_size image r.size page sound other in
          no_rows_listed _ (own_list r.size r.wanted r.pages (lists_by image db r lists) ours)
          (ap (λ n. rows_at n (in_use n r.pages) Table 1) size ∙ ap (λ (p : PageMap). rows_at page (in_use page p) Table 1) alike ∙ empty.2.1)
    ]))

pub held_is_made : (image : Image) (tree : Tree) → HoldsTree image tree → ¬ IsUnmade image
held_is_made image tree held = read_is_made image held.0 held.1 held.2

pub reads_once : (image : Image) (a b : Trees) → ReadsAs image a → ReadsAs image b → ListsTable a → ListsTable b → ∥ a ≡ b ∥₁
reads_once image a b r s first second =
    ∥∥₁_elim r.ours squash₁ (λ ours. ∥∥₁_map s.ours (λ theirs.
    let x : HasSound image r.size = record { pages = r.pages; sized = r.sized; found = r.found; sound = ours.file.sound } in
    let y : HasSound image s.size = record { pages = s.pages; sized = s.sized; found = s.found; sound = theirs.file.sound } in
    let size = same_size image r.size s.size x y in
    let pages = same_pages image r.size s.size x y in
    let listed : listed_from 0 r.wanted ≡ listed_from 0 s.wanted = lists_by image a r first ∙ sym (lists_by image b s second) in
    let both = same_file s.size s.wanted r.wanted s.pages listed theirs in
    r.reads ∙ ap (λ n. file_trees n r.wanted r.pages) size ∙ ap (λ (p : PageMap). file_trees s.size r.wanted p) pages
    ∙ ap (λ (t : Trees). with_version t (version_in s.pages)) both.1 ∙ sym s.reads))

pub found_once : (image : Image) (a b : Tree) → FindsTree image a → FindsTree image b → ∥ a ≡ b ∥₁
found_once image a b (inl held) (inl other) =
    ∥∥₁_map (reads_once image held.0 other.0 held.1 other.1 held.2 other.2) (λ same. one_tree a b (sym held.3 ∙ ap (λ (t : Trees). t 0) same ∙ other.3))
found_once image a b (inl held) (inr none) = absurd (held_is_made image a held none.0)
found_once image a b (inr none) (inl held) = absurd (held_is_made image b held none.0)
found_once image a b (inr none) (inr other) = ∣ none.1 ∙ sym other.1 ∣₁

pub finds_shown : (image : Image) (db : Trees) (tree : Tree) → Shows image db → ListsTable db → Holds db tree → FindsTree image tree
finds_shown image db tree (inl shown) lists holds = inl (db, shown, lists, holds)
finds_shown image db tree (inr none) lists holds = inr (none.0, one_tree tree finmap.empty (sym holds ∙ none.1 ∙ sym no_rows))

-- what a start finds is in the table that it shows
pub held_in_shown : (image : Image) (db : Trees) (tree : Tree) → Shows image db → ListsTable db → FindsTree image tree → ∥ Holds db tree ∥₁
held_in_shown image db tree (inl shown) lists (inl held) =
    ∥∥₁_map (reads_once image db held.0 shown held.1 lists held.2) (λ same. ap (λ (t : Trees). t 0) same ∙ held.3)
held_in_shown image db tree (inl shown) lists (inr none) = absurd (read_is_made image db shown lists none.0)
held_in_shown image db tree (inr unmade) lists (inl held) = absurd (held_is_made image tree held unmade.0)
held_in_shown image db tree (inr unmade) lists (inr none) = ∣ unmade.1 ∙ sym no_rows ∙ ap rows_of (sym none.1) ∣₁

-- ---- a crash on the way

-- what stands for all that the files stood for is found as they were
pub carry : (image left : Image) (n : ℕ) (tree : Tree) → Fits image n → ¬ IsBlankFile page image → RecoversAs n image left → FindsTree image tree → ∥ FindsTree left tree ∥₁
carry image left n tree fits some same (inl held) =
    let r = held.1 in
    ∥∥₁_map r.ours (λ ours.
    let size : r.size ≡ n = fits r.size (record { pages = r.pages; sized = r.sized; found = r.found; sound = ours.file.sound }) in
    let now = carried r.size image left (subst (λ s. RecoversAs s image left) (sym size) same) r.pages r.found in
    let reads : ReadsAs left held.0 = record { size = r.size; pages = r.pages; wanted = r.wanted; sized = r.sized; found = now; ours = ∣ ours ∣₁; reads = r.reads } in
    inl (held.0, reads, held.2, held.3))
carry image left n tree fits some same (inr none) =
    ∥∥₁_map none.0 (elim [
      | inl blank ↦ absurd (some blank)
      | inr empty ↦
          let size : page ≡ n = fits page (record { pages = empty.0; sized = page_sized; found = empty.1; sound = empty.2.0.sound }) in
          inr (∣ inr (empty.0, carried page image left (subst (λ s. RecoversAs s image left) (sym size) same) empty.0 empty.1, empty.2) ∣₁, none.1)
    ])

fresh_holds : (left : Image) (pages : PageMap) → Recovers page left pages → IsFresh page schema pages → FindsTree left finmap.empty
unfolding trees_in
fresh_holds left pages found fresh =
    let db = file_trees page schema pages in
    inl (
      db,
      record { size = page; pages = pages; wanted = schema; sized = page_sized; found = found; ours = ∣ fresh.0 ∣₁; reads = refl },
      listing_of page schema pages,
      past_version 0 (omega arith) (all_trees page schema (in_use page pages)) (version_in pages) ∙ named_tree 0 (omega arith) page schema (in_use page pages) ∙ fresh.1 0 ∙ sym no_rows,
    )

module _ {D : Type 0} {g : Ghosts D} where
  -- opening changes nothing
  pub opens_goes_on : (it : Unopened D g) (new : State) → Opens it new → Fits (image it) (state_of it).page_size → ¬ IsBlankFile page (image it)
      → (tree : Tree) → FindsTree (image it) tree → Leaves (state_of it).may_leave tree → Leaves new.may_leave tree
  opens_goes_on it new kept fits some tree found leaves left may = elim (kept.crash left may).same [
    | inl was ↦ leaves left was
    | inr same ↦ carry (image it) left (state_of it).page_size tree fits some same found
  ]

  on_the_way : (it : Unopened D g) (left : Image) → wanted_by it ≡ schema → (state_of it).page_size ≡ page → IsOnTheWay it left → ∥ FindsTree left finmap.empty ∥₁
  on_the_way it left wanted size (inl blank) = ∣ inr (∣ inl (subst (λ n. IsBlankFile n left) size blank) ∣₁, refl) ∣₁
  on_the_way it left wanted size (inr made) =
      let found : Recovers page left made.0 = subst (λ n. Recovers n left made.0) size made.1 in
      elim made.2 [
        | inl new ↦
            let new' : IsNew page made.0 = subst (λ n. IsNew n made.0) size new in
            let whole = subst (AreWhole page) found.shows (trimmed_whole page found.stored found.whole) in
            ∣ inr (∣ inr (made.0, found, new_is_empty page made.0 whole new') ∣₁, refl) ∣₁
        | inr fresh ↦ ∥∥₁_map fresh (λ it'. fresh_holds left made.0 found (subst₂ (λ n s. IsFresh n s made.0) size wanted it'))
      ]

  pub unmade_of : (it : Unopened D g) → (state_of it).page_size ≡ page → IsUnstarted it
      → IsBlankFile page (image it) ⊎ ((pages : PageMap) × Recovers page (image it) pages × IsEmptyFile page pages)
  unmade_of it size (inl blank) = inl (subst (λ n. IsBlankFile n (image it)) size blank)
  unmade_of it size (inr empty) = inr (empty.0, subst (λ n. Recovers n (image it) empty.0) size empty.1, subst (λ n. IsEmptyFile n empty.0) size empty.2)

  pub started_of : (it : Unopened D g) → (state_of it).page_size ≡ page → IsBlankFile page (image it) ⊎ IsEmpty (image it) → IsUnstarted it
  started_of it size (inl blank) = inl (subst (λ n. IsBlankFile n (image it)) (sym size) blank)
  started_of it size (inr empty) = inr (empty.0, subst (λ n. Recovers n (image it) empty.0) (sym size) empty.1, subst (λ n. IsEmptyFile n empty.0) (sym size) empty.2)

  -- making a store goes on to one without a resource
  pub create_goes_on : (it : Unopened D g) (new : State) → wanted_by it ≡ schema → (state_of it).page_size ≡ page → ∥ IsUnstarted it ∥₁ → Creates it new
      → (tree : Tree) → FindsTree (image it) tree → Leaves (state_of it).may_leave tree → Leaves new.may_leave tree
  create_goes_on it new wanted size started kept tree found leaves left may =
      ∥∥₁_elim started squash₁ (λ unstarted.
      let unmade = unmade_of it size unstarted in
      ∥∥₁_elim (found_once (image it) tree finmap.empty found (inr (∣ unmade ∣₁, refl))) squash₁ (λ none.
      let way = λ (h : IsOnTheWay it left). subst (λ t. ∥ FindsTree left t ∥₁) (sym none) (on_the_way it left wanted size h) in
      elim unstarted [
        | inl blank ↦ elim (kept.blank blank left may) [ inl was ↦ leaves left was | inr h ↦ way h ]
        | inr empty ↦ elim (kept.crash left may) [
          | inl before ↦ elim before.same [
            | inl was ↦ leaves left was
            | inr same ↦
                let found' : Recovers page (image it) empty.0 = subst (λ n. Recovers n (image it) empty.0) size empty.1 in
                let empty' : IsEmptyFile page empty.0 = subst (λ n. IsEmptyFile n empty.0) size empty.2 in
                ∣ inr (∣ inr (empty.0, carried page (image it) left (subst (λ n. RecoversAs n (image it) left) size same) empty.0 found', empty') ∣₁, none) ∣₁
          ]
          | inr h ↦ way h
        ]
      ]))

-- ---- what an open gives

abbrev the_table : Wanted
the_table = record { shape = Index plain; reals = 0; row = Text (codes "table") ∷ Text (codes "resource") ∷ Text (codes "resource") ∷ Text statement ∷ [] }

short_listing : (root : ℕ) → IsStorable 0 (listing the_table root)
unfolding is_nan
short_listing root = record {
  typed = λ c set. absurd (omega (arith, bit_at-zero c));
  columns = omega arith;
  numbers = All-from_recursion (λ v. NotNan (number v)) (listing the_table root) (tt, (tt, (tt, (tt, (tt, tt)))));
  short = simp sum_by-cons (omega arith);
}

pub can_build : CanBuild schema
unfolding fits_kind is_free_name same_name begins may_follow value_cmp is_nan lt
can_build = record {
  distinct = refl;
  shaped = All-from_recursion (λ wanted. is_plain wanted.shape ≡ true) schema (refl, tt);
  short = All-from_recursion (λ wanted. (root : ℕ) → IsStorable 0 (listing wanted root)) schema (short_listing, tt);
}

pub from_file : (a b : ℕ) (Limit P Q : Type 0) (e : FileError) → (Q → ¬ (¬ P)) → FailsToOpen a b Limit P e → Fails (MoreFaults a b) Limit Q ⊥ (of_open e)
from_file a b Limit P Q file.OutOfMemory so h = tt
from_file a b Limit P Q file.Io so h = h
from_file a b Limit P Q file.Full so h = h
from_file a b Limit P Q file.Refused so h = λ w. so w h

pub has_table : (listed : List Wanted) → listed ≡ schema → (all_shapes listed 0 ≡ Index plain) × (all_reals listed 0 ≡ 0)
unfolding all_shapes all_reals
has_table listed is = rw is (refl, refl)

pub shows_found : {D : Type 0} {g : Ghosts D} (it : FileStore D g) (image : Image) → IsPageSize (stored_size (state it).page_size) → IsTrue (state it).is_clean → IsTrue (state it).is_open → IsTrue it.is_numbered
    → it.saved ≡ None → Recovers (state it).page_size image (state it).committed → ReadsAs image (view it).committed
shows_found it image sized clean is_open numbered fresh found = record {
  size = (state it).page_size;
  pages = (state it).committed;
  wanted = kept_schema it.saved it.schema.items;
  sized = sized;
  found = found;
  ours = ∥∥₁_map (it.stored is_open) (λ stored. subst (λ b. IsOurs (state it).page_size b (kept_schema it.saved it.schema.items) (state it).committed) numbered stored.ours);
  reads = rw clean refl;
}

pub lists_shown : {D : Type 0} {g : Ghosts D} (it : FileStore D g) → IsTrue (state it).is_clean → it.schema.items ≡ schema → it.saved ≡ None → ListsTable (view it).committed
lists_shown it clean is fresh =
    rw clean (listing_of (state it).page_size (kept_schema it.saved it.schema.items) (state it).committed)
    ∙ ap (listed_from 0) (ap (λ s. kept_schema s it.schema.items) fresh ∙ is)

-- ---- what a crash leaves of an open store

module _ {D : Type 0} {g : Ghosts D} (it : FileStore D g) where
  -- it reads as one of the outcomes that the store names
  pub outcome_read : IsTrue it.is_numbered → (left : Image) → (state it).may_leave left → ∥ ((db : Trees) × recovers it db × ReadsAs left db) ∥₁
  outcome_read numbered left may = ∥∥₁_elim it.safe squash₁ (λ all. ∥∥₁_map (size_is_allowed it.pool) (λ allowed.
      let some = all left may in
      let db = reading it some.0 in (
        db,
        (left, some.0, may, ∣ some.1 ∣₁, refl),
        record {
          size = (state it).page_size;
          pages = some.0;
          wanted = schema_in it some.0;
          sized = allowed;
          found = some.1;
          ours = ∥∥₁_map some.2 (λ ours. subst (λ b. IsOurs (state it).page_size b (schema_in it some.0) some.0) numbered ours);
          reads = refl;
        },
      )))

  pub keeps_leaves : (tree : Tree) → Keeps view recovers it tree → Leaves (state it).may_leave tree
  keeps_leaves tree keeps left may = ∥∥₁_map (outcome_read keeps.ready.numbered left may) (λ read.
      let kept = keeps.left read.0 read.1 in inl (read.0, read.2, kept.0, kept.1))

  pub may_leave_either : (before after : Tree) → MayHold view recovers it before after → (left : Image) → (state it).may_leave left → ∥ FindsTree left before ⊎ FindsTree left after ∥₁
  may_leave_either before after may_hold left may = ∥∥₁_map (outcome_read may_hold.numbered left may) (λ read.
      let kept = may_hold.left read.0 read.1 in
      elim kept.1 [ inl was ↦ inl (inl (read.0, read.2, kept.0, was)) | inr now ↦ inr (inl (read.0, read.2, kept.0, now)) ])
