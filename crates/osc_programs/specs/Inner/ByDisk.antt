-- What is said of what keeps a server's changes, in each of its two cases.
use Rattle.osc_programs.specs.declared.by_disk.ByDisk.{ByDisk}
use Rattle.osc_programs.specs.declared.by_disk.ByDisk.TheVariants.{Any, WholeSectors}

module _ {A W : Type 0} where
  -- this is said where nothing is supposed of it, and that where it writes each sector whole
  abbrev pub Holds : (A → Type 0) → (W → Type 0) → ByDisk A W → Type 0
  Holds OfAny OfWhole (Any it) = OfAny it
  Holds OfAny OfWhole (WholeSectors it) = OfWhole it

  abbrev pub value : {X : Type 0} → (A → X) → (W → X) → ByDisk A W → X
  value of_any of_whole (Any it) = of_any it
  value of_any of_whole (WholeSectors it) = of_whole it

  -- what holds of each of the two holds of it
  abbrev pub each : (P : ByDisk A W → Type 0) → ((it : A) → P (Any it)) → ((it : W) → P (WholeSectors it)) → (it : ByDisk A W) → P it
  each P any whole (Any it) = any it
  each P any whole (WholeSectors it) = whole it
