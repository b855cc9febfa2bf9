-- What is said of what keeps a server's changes, by what is supposed of its disk.
use Rattle.osc_words.specs.declared.settings.store_file.StoreDisk.{StoreDisk}
use Rattle.osc_words.specs.declared.settings.store_file.StoreDisk.TheVariants as disk
use Rattle.osc_programs.specs.declared.by_disk.ByDisk.{ByDisk}
use Rattle.osc_programs.specs.declared.by_disk.ByDisk.TheVariants.{Any, WholeSectors}

module _ {A W : Type 0} where
  -- It was opened for a disk of which this is supposed, and then the same is said.
  abbrev pub IsOpenedFor : StoreDisk → (A → Type 0) → (W → Type 0) → ByDisk A W → Type 0
  IsOpenedFor disk.Any OfAny OfWhole (Any it) = OfAny it
  IsOpenedFor disk.WholeSectors OfAny OfWhole (WholeSectors it) = OfWhole it
  IsOpenedFor supposed OfAny OfWhole it = ⊥
