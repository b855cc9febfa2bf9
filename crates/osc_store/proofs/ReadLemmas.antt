-- Copies of files in memory.
use Rattle.std.proofs.Common.{◌≡◌, ◌<◌, ◌+◌, ℕ, List, [], ◌∷◌, length, slice_index, IsTrue, true, refl, ap, ◌∙◌, arith, ext_get_or}
use Rattle.sqlite_disk.specs.Disk.{Holds, Torn}
use Rattle.sqlite_disk.specs.declared.Disk.{Ghosts}
use Rattle.sqlite_wal.specs.Reads.{are_clean}
use Rattle.sqlite_pool.specs.Pool.{files}
use Rattle.sqlite_pool.proofs.StateLemmas.{clean_is}
use Rattle.sqlite_store.specs.FileStore.{view}
use Rattle.sqlite_store.specs.declared.store.FileStore.{FileStore}
use Rattle.osc_store.specs.Opening.{IsCleanLeft}
use Rattle.osc_store.specs.declared.left.Left.{Left}
use Rattle.osc_store.specs.declared.left.Left.TheVariants as left

-- what was written over an empty file is all that it has
pub only_written : (new bytes : List ℕ) → Torn 0 (length bytes) [] new → (0 < length bytes → Holds new 0 bytes) → new ≡ bytes
only_written [] [] torn held = refl
only_written (x ∷ xs) [] torn held = absurd (let h = torn.no_longer in omega (arith, h))
only_written new (b ∷ bs) torn held =
    let h = held (omega arith) in
    let within = h.within in
    let longest = torn.no_longer in
    ext_get_or 0 new (b ∷ bs) (omega (arith, within, longest)) (λ i low. let at : i ≡ 0 + i = omega arith in ap (slice_index new) at ∙ h.each i (omega (arith, low, within)))

-- a disk that tells no lie has told none
module _ {D : Type 0} (g : Ghosts D) (always : (d : D) → IsTrue (g.is_clean d)) where
  all_clean : (a b : D) → are_clean g a b ≡ true
  all_clean a b = rw (always a, always b) refl

  pub store_clean : (it : FileStore D g) → IsTrue (view it).is_clean
  store_clean it = clean_is it.pool ∙ all_clean (files it.pool).0 (files it.pool).1

  pub left_clean : (now : Left D g) → IsCleanLeft now
  left_clean (left.Files pair) = all_clean pair.log pair.db
  left_clean (left.Unopened pair) = clean_is pair.pool ∙ all_clean (files pair.pool).0 (files pair.pool).1
  left_clean (left.Store it) = store_clean it
