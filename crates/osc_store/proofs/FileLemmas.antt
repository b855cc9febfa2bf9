-- From what is not opened yet to its files, and back.
use Rattle.std.proofs.Common.{◌≡◌, ◌+◌, IsTrue, refl, sym, subst, ap, ◌∙◌}
use Rattle.sqlite_disk.specs.declared.Disk.{Ghosts}
use Rattle.sqlite_disk.specs.declared.Files.{Files}
use Rattle.sqlite_wal.specs.Files.{outcomes, seen_image}
use Rattle.sqlite_wal.specs.Reads.{are_clean, AreClean, OnlyReads}
use Rattle.sqlite_wal.specs.Recovery.{Image}
use Rattle.sqlite_wal.proofs.CleanLemmas.{both_clean}
use Rattle.sqlite_pool.specs.Pool as pool
use Rattle.sqlite_pool.specs.declared.pool.Pool.{Pool}
use Rattle.sqlite_pool.proofs.StateLemmas.{may_leave_is}
use Rattle.sqlite_store.specs.Unopened.{files_of, image, state_of}
use Rattle.sqlite_store.specs.declared.store.open.Unopened.{Unopened}
use Rattle.osc_model.specs.Tree.{Tree}
use Rattle.osc_store.specs.{Leaves, faults_of, image_of, outcomes_of, IsOnlyRead}
use Rattle.osc_store.specs.Opening.{IsLeftAlone}
use Rattle.osc_store.specs.declared.left.Left.{Left}
use Rattle.osc_store.specs.declared.left.Left.TheVariants as left
use Rattle.osc_store.proofs.FindLemmas.{reads_then}

pool_files : {D : Type 0} {g : Ghosts D} (it : Pool D g)
    → ((pool.state it).faults ≡ g.faults (pool.files it).0 + g.faults (pool.files it).1) × ((pool.state it).is_clean ≡ are_clean g (pool.files it).0 (pool.files it).1)
    × ((left : Image) → (pool.state it).may_leave left → outcomes g (pool.files it).0 (pool.files it).1 left)
unfolding pool.state pool.files
pool_files it = (refl, refl, λ left may. may.1)

module _ {D : Type 0} {g : Ghosts D} (it : Unopened D g) (files : Files D) (same : files_of it ≡ (files.log, files.db)) where
  clean_is : (state_of it).is_clean ≡ are_clean g files.log files.db
  clean_is = (pool_files it.pool).1 ∙ ap (λ f. are_clean g f.0 f.1) same

  pub clean_there : IsTrue (state_of it).is_clean → AreClean g files.log files.db
  clean_there clean = sym clean_is ∙ clean

  pub clean_here : AreClean g files.log files.db → IsTrue (state_of it).is_clean
  clean_here clean = clean_is ∙ clean

  pub faults_same : (state_of it).faults ≡ faults_of g files
  faults_same = (pool_files it.pool).0 ∙ ap (λ f. g.faults f.0 + g.faults f.1) same

  pub image_same : image it ≡ image_of g files
  image_same = ap (λ f. seen_image g f.0 f.1) same

  pub leaves_here : (tree : Tree) → Leaves (outcomes_of g files) tree → Leaves (state_of it).may_leave tree
  leaves_here tree leaves left may = leaves left (subst (λ f. outcomes g f.0 f.1 left) same ((pool_files it.pool).2 left may))

  pub leaves_there : IsTrue (state_of it).is_clean → (tree : Tree) → Leaves (state_of it).may_leave tree → Leaves (outcomes_of g files) tree
  leaves_there clean tree leaves left may =
      let back = subst (λ f. outcomes g f.0 f.1 left) (sym same) may in
      leaves left (may_leave_is it.pool left (subst (λ f. AreClean g f.0 f.1) (sym same) (clean_there clean)) back)

-- what was only read leaves no more
pub leaves_read : {D : Type 0} {g : Ghosts D} (old new : Files D) → OnlyReads g old.log new.log → OnlyReads g old.db new.db
    → (tree : Tree) → Leaves (outcomes_of g old) tree → Leaves (outcomes_of g new) tree
leaves_read old new log db tree leaves left may = leaves left (log.crash left.log may.0, db.crash left.db may.1)

pub both_read : {D : Type 0} {g : Ghosts D} (old new : Files D) → OnlyReads g old.log new.log → OnlyReads g old.db new.db → AreClean g new.log new.db → AreClean g old.log old.db
both_read {D} {g} old new log db clean = both_clean _ _ _ _ log.clean db.clean clean

pub only_read_then : {D : Type 0} {g : Ghosts D} (old new : Files D) → OnlyReads g old.log new.log → OnlyReads g old.db new.db → (now : Left D g) → IsOnlyRead new now → IsOnlyRead old now
only_read_then old new log db (left.Files files) read = (reads_then log read.0, reads_then db read.1)
only_read_then old new log db (left.Unopened files) read = tt
only_read_then old new log db (left.Store it) read = tt

pub alone_then : {D : Type 0} {g : Ghosts D} (old new : Files D) → OnlyReads g old.log new.log → OnlyReads g old.db new.db → (now : Left D g) → IsLeftAlone new now → IsLeftAlone old now
alone_then old new log db (left.Files files) read = (reads_then log read.0, reads_then db read.1)
alone_then old new log db (left.Unopened files) read = absurd read
alone_then old new log db (left.Store it) read = absurd read
