-- The entry that the server's step of a call made, if there was a step, and it served one.
use Rattle.std.specs.Prelude.{Option, Some, None}
use Rattle.osc_model.specs.declared.step.Entry.{Entry}
use Rattle.osc_model.specs.declared.step.Step.{Step}
use Rattle.osc_device.specs.declared.ruling.Ruled.{Ruled}

abbrev pub entry_in : Option Step → Option Entry
entry_in None = None
entry_in (Some step) = step.notes.served

abbrev pub entry_found : Option Ruled → Option Entry
entry_found None = None
entry_found (Some ruled) = entry_in ruled.round.served
