use Rattle.std.proofs.Common.{take}
use Rattle.toml.specs.View.{items_view}
use Rattle.osc_words.specs.Settings.Inner.Reading.{StandForAll}
use Rattle.osc_words.specs.Settings.{IsAddressText}
use Rattle.osc_words.proofs.settings.addresses.all.Given as goal

-- what the values so far stand for
abbrev pub invariant-loop-value : goal.invariant-loop-value
invariant-loop-value l = StandForAll IsAddressText (items_view (take l.value-index l.values)) l.peers
