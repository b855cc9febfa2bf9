-- The bytes of kept associated data.
use Rattle.std.specs.Prelude.{ℕ, List}
use Rattle.osc_model.specs.declared.associated_data.DataBytes.{DataBytes}
use Rattle.osc_model.specs.declared.associated_data.DataBytes.TheVariants.{Short, Long}

abbrev pub data_of : DataBytes → List ℕ
data_of (Short bytes) = bytes.items
data_of (Long bytes) = bytes
