-- What a start does to the two files, and why it may fail.
use Rattle.std.specs.Prelude.{◌≡◌, ◌≢◌, ◌⊎◌, ℕ, ◌+◌, ◌≤◌, List, [], ◌∷◌, codes, IsTrue, ⊤}
use Rattle.sqlite_disk.specs.Disk.{MoreFaults}
use Rattle.sqlite_disk.specs.declared.Disk as disk
use Rattle.sqlite_disk.specs.declared.Files.{Files}
use Rattle.sqlite_disk.specs.declared.tally.Tally.{Tally}
use Rattle.sqlite_wal.specs.Files as log_files
use Rattle.sqlite_wal.specs.Files.{seen_image, outcomes}
use Rattle.sqlite_wal.specs.Format.{be32}
use Rattle.sqlite_wal.specs.PageSize.{size_in_file, IsPageSize}
use Rattle.sqlite_wal.specs.Reads.{AreClean, OnlyReads, tally_of_files}
use Rattle.sqlite_wal.specs.Recovery.{Image, IsIgnored}
use Rattle.sqlite_pages.specs.PageMap.{PageMap}
use Rattle.sqlite_pool.specs.File.{in_use, IsSoundFile}
use Rattle.sqlite_pool.specs.Stored.{Recovers, stored_size}
use Rattle.sqlite_value.specs.Order.{Row, column}
use Rattle.sqlite_value.specs.declared.value.Value.TheVariants.{Text}
use Rattle.sqlite_trees.specs.Tree.{Trees}
use Rattle.sqlite_trees.specs.declared.error.StoreError.{StoreError}
use Rattle.sqlite_trees.specs.declared.error.StoreError.TheVariants as call
use Rattle.sqlite_trees.specs.declared.store.Shape.TheVariants.{Table}
use Rattle.sqlite_store.specs.Db.{rows_at}
use Rattle.sqlite_store.specs.FileStore.{faults, files as store_files, state, tally, view}
use Rattle.sqlite_store.specs.Report.{named}
use Rattle.sqlite_store.specs.Unopened.{files_of, image, state_of, StopsCreating}
use Rattle.sqlite_store.specs.declared.store.FileStore.{FileStore}
use Rattle.sqlite_store.specs.declared.store.open.Unopened.{Unopened}
use Rattle.osc_model.specs.Tree.{Tree}
use Rattle.osc_store.specs.declared.error.OpenStoreError.{OpenStoreError}
use Rattle.osc_store.specs.declared.error.OpenStoreError.TheVariants.{OutOfMemory, Full, Failed, Busy, Journal, NoStore, OtherVersion, Damaged, EmptyFile, NoLog, ForeignLog, DamagedLog}
use Rattle.osc_store.specs.declared.listing.Listed.{Listed}
use Rattle.osc_store.specs.declared.listing.Listed.TheVariants as listed
use Rattle.osc_store.specs.declared.left.Left.{Left}
use Rattle.osc_store.specs.declared.left.Left.TheVariants as left
use Rattle.osc_store.specs.Keeping.{IsReady}
use Rattle.osc_store.specs.Starting.{FindsTree, IsStore, IsUnmade, Leaves, ListsTable, ReadsAs, statement}

-- what reads of the two files return, how many of their calls failed, and what a crash may leave of them
abbrev pub image_of : {D : Type 0} → disk.Ghosts D → Files D → Image
image_of g files = seen_image g files.log files.db

abbrev pub faults_of : {D : Type 0} → disk.Ghosts D → Files D → ℕ
faults_of g files = g.faults files.log + g.faults files.db

abbrev pub outcomes_of : {D : Type 0} → disk.Ghosts D → Files D → Image → Type 0
outcomes_of g files = outcomes g files.log files.db

-- the page size is the one in the log's header or, with no log to replay, in the file's
abbrev pub NamesSize : Image → ℕ → Type 0
NamesSize image size = (¬ IsIgnored image.log → size ≡ be32 image.log 8) × (IsIgnored image.log → size ≡ size_in_file image.db)

-- 32 bits don't number the pages or the frames of the log
abbrev pub IsTooLong : Image → Type 0
IsTooLong image = (size : ℕ) × NamesSize image size × log_files.IsHuge size image

-- the files recover to a sound database, in pages of which `size` bytes are used
pub record HasSound (image : Image) (size : ℕ) : Type 0 where
  pub pages : PageMap
  pub sized : IsPageSize (stored_size size)
  pub found : Recovers size image pages
  pub sound : IsSoundFile size pages

-- in which case it is this number
abbrev pub Fits : Image → ℕ → Type 0
Fits image n = (size : ℕ) → HasSound image size → size ≡ n

-- ---- what sqlite_schema lists

-- this table, by its text, and nothing else
abbrev pub IsOwnList : List Row → Type 0
IsOwnList rows = (row : Row) × (rows ≡ row ∷ []) × (column row 2 ≡ Text (codes "resource")) × (column row 5 ≡ Text statement)

-- first a table of this name, and not this list
abbrev pub IsOtherList : List Row → Type 0
IsOtherList rows = ((row : Row) × (more : List Row) × (rows ≡ row ∷ more) × (column row 2 ≡ Text (codes "resource"))) × (¬ IsOwnList rows)

abbrev pub Lists : Listed → List Row → Type 0
Lists listed.Nothing rows = rows ≡ []
Lists listed.Own rows = IsOwnList rows
Lists listed.Other rows = IsOtherList rows
Lists listed.Foreign rows = (rows ≢ []) × (¬ IsOwnList rows)

-- the files are a database that lists first a table of this name, and not this table alone
abbrev pub IsOtherVersion : Image → Type 0
IsOtherVersion image = (size : ℕ) × (pages : PageMap) × Recovers size image pages × IsOtherList (rows_at size (in_use size pages) Table 1)

-- ---- why a start fails

-- before a failure of the disk is named
abbrev pub Fails : Type 0 → Type 0 → Type 0 → Type 0 → OpenStoreError → Type 0
Fails fault limit held other OutOfMemory = ⊤
Fails fault limit held other Full = limit
Fails fault limit held other Failed = fault
Fails fault limit held other Busy = ⊥
Fails fault limit held other Journal = ⊥
Fails fault limit held other NoStore = ¬ held
Fails fault limit held other OtherVersion = other × (¬ held)
Fails fault limit held other Damaged = ¬ held
Fails fault limit held other EmptyFile = ⊥
Fails fault limit held other NoLog = ⊥
Fails fault limit held other ForeignLog = ⊥
Fails fault limit held other DamagedLog = ⊥

-- where `fault` says that the disk failed in this way, `limit` that the file met one of its format, `held` that the files are a store,
-- and `other` that they are one of another version; `Refuses` says of the last four what they tell
abbrev pub WhyNotOpened : (StoreError → Type 0) → Type 0 → Type 0 → Type 0 → OpenStoreError → Type 0
WhyNotOpened fault limit held other OutOfMemory = ⊤
WhyNotOpened fault limit held other Full = fault call.Full ⊎ limit
WhyNotOpened fault limit held other Failed = fault call.Io
WhyNotOpened fault limit held other Busy = ⊥
WhyNotOpened fault limit held other Journal = ⊥
WhyNotOpened fault limit held other NoStore = ¬ held
WhyNotOpened fault limit held other OtherVersion = other × (¬ held)
WhyNotOpened fault limit held other Damaged = fault call.Corrupt ⊎ (¬ held)
WhyNotOpened fault limit held other EmptyFile = ⊤
WhyNotOpened fault limit held other NoLog = ⊤
WhyNotOpened fault limit held other ForeignLog = ⊤
WhyNotOpened fault limit held other DamagedLog = ⊤

-- ---- what is left of the files

-- the tables are those of the files, or there are none yet
abbrev pub Shows : Image → Trees → Type 0
Shows image db = ReadsAs image db ⊎ (IsUnmade image × (db 0 ≡ []))

module _ {D : Type 0} {g : disk.Ghosts D} where
  abbrev pub files_left : Left D g → D × D
  files_left (left.Files files) = (files.log, files.db)
  files_left (left.Unopened files) = files_of files
  files_left (left.Store it) = store_files it

  abbrev pub faults_left : Left D g → ℕ
  faults_left (left.Files files) = faults_of g files
  faults_left (left.Unopened files) = (state_of files).faults
  faults_left (left.Store it) = faults it

  abbrev pub tally_left : Left D g → Tally
  tally_left (left.Files files) = tally_of_files g (files.log, files.db)
  tally_left (left.Unopened files) = tally_of_files g (files_of files)
  tally_left (left.Store it) = tally it

  -- no wrong answer of the disk was taken as true
  abbrev pub IsCleanLeft : Left D g → Type 0
  IsCleanLeft (left.Files files) = AreClean g files.log files.db
  IsCleanLeft (left.Unopened files) = IsTrue (state_of files).is_clean
  IsCleanLeft (left.Store it) = IsTrue (view it).is_clean

  -- the file met a limit of its format
  abbrev pub IsFullLeft : Left D g → Type 0
  IsFullLeft (left.Files files) = IsTooLong (image_of g files)
  IsFullLeft (left.Unopened files) = StopsCreating files
  IsFullLeft (left.Store it) = ⊥

  -- what a crash may leave
  abbrev pub outcomes_left : Left D g → Image → Type 0
  outcomes_left (left.Files files) = outcomes_of g files
  outcomes_left (left.Unopened files) = (state_of files).may_leave
  outcomes_left (left.Store it) = (state it).may_leave

  -- what comes back as files was only read
  abbrev pub IsOnlyRead : Files D → Left D g → Type 0
  IsOnlyRead files (left.Files now) = OnlyReads g files.log now.log × OnlyReads g files.db now.db
  IsOnlyRead files (left.Unopened now) = ⊤
  IsOnlyRead files (left.Store now) = ⊤

  -- the same, and nothing else was done with them
  abbrev pub IsLeftAlone : Files D → Left D g → Type 0
  IsLeftAlone files (left.Files now) = OnlyReads g files.log now.log × OnlyReads g files.db now.db
  IsLeftAlone files (left.Unopened now) = ⊥
  IsLeftAlone files (left.Store now) = ⊥

  -- the disk failed during a start, in this way
  abbrev pub Fault : Files D → Left D g → StoreError → Type 0
  Fault files now kind = MoreFaults (faults_of g files) (faults_left now) × (named (tally_of_files g (files.log, files.db)) (tally_left now) ≡ kind)

  -- a store that was opened over files which read so
  pub record IsOver (image : Image) (it : FileStore D g) : Type 0 where
    pub ready : IsReady (view it)
    pub settled : (view it).trees ≡ (view it).committed
    pub lists : ListsTable (view it).committed
    pub shows : Shows image (view it).committed
    pub sums : IsUnmade image → IsTrue (view it).has_sums

  -- the files recover as before, to a database that lists this
  pub record IsLook (old new : Unopened D g) (found : Listed) : Type 0 where
    pub pages : PageMap
    pub before : Recovers (state_of old).page_size (image old) pages
    pub again : Recovers (state_of old).page_size (image new) pages
    pub lists : Lists found (rows_at (state_of old).page_size (in_use (state_of old).page_size pages) Table 1)

  -- what a start over these files gave: where a crash left files that are found as a tree, so it does from now on
  pub record Gives (files : Files D) (it : FileStore D g) : Type 0 where
    pub honest : AreClean g files.log files.db
    pub over : IsOver (image_of g files) it
    pub counts : faults_of g files ≤ faults it
    pub goes_on : (tree : Tree) → FindsTree (image_of g files) tree → Leaves (outcomes_of g files) tree → Leaves (state it).may_leave tree

  -- what a start over these files left that failed; the same, where this was so of the files
  pub record Spares (files : Files D) (now : Left D g) (given held other : Type 0) (e : OpenStoreError) : Type 0 where
    pub honest : AreClean g files.log files.db
    pub counts : faults_of g files ≤ faults_left now
    pub cause : Fails (MoreFaults (faults_of g files) (faults_left now)) (IsFullLeft now) held other e
    pub goes_on : given → (tree : Tree) → FindsTree (image_of g files) tree → Leaves (outcomes_of g files) tree → Leaves (outcomes_left now) tree

  -- what a start over these files left that failed, which looked first whether they are refused
  pub record Stops (files : Files D) (now : Left D g) (refused : Type 0) (e : OpenStoreError) : Type 0 where
    pub honest : AreClean g files.log files.db
    pub counts : faults_of g files ≤ faults_left now
    pub cause : Fails (MoreFaults (faults_of g files) (faults_left now)) (IsFullLeft now) (IsStore (image_of g files)) (IsOtherVersion (image_of g files)) e ⊎ refused
    pub goes_on : (tree : Tree) → FindsTree (image_of g files) tree → Leaves (outcomes_of g files) tree → Leaves (outcomes_left now) tree
