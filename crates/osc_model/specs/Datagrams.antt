-- The datagrams that are kept.
use Rattle.std.specs.Prelude.{List, ◌∷◌, []}
use Rattle.osc_model.specs.declared.step.Datagram.{Datagram}
use Rattle.osc_model.specs.declared.step.OneOrMany.{OneOrMany}
use Rattle.osc_model.specs.declared.step.OneOrMany.TheVariants.{One, Many}

abbrev pub listed : OneOrMany → List Datagram
listed (One _ datagram) = datagram ∷ []
listed (Many items) = items.items
