-- The paths of the lock's resources.
use Rattle.std.specs.Prelude.{ℕ, List, codes}
use Rattle.osc_example.specs.declared.place.Place.{Place}
use Rattle.osc_example.specs.declared.place.Place.TheVariants.{Wanted, Actual, Log}

abbrev pub text_of : Place → List ℕ
text_of Wanted = codes "/lock/wanted"
text_of Actual = codes "/lock/actual"
text_of Log = codes "/log"
