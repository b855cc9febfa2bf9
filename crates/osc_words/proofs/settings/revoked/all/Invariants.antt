use Rattle.std.proofs.Common.{take}
use Rattle.toml.specs.View.{items_view}
use Rattle.osc_words.specs.Settings.Inner.Reading.{StandForAll}
use Rattle.osc_words.specs.Settings.{IsRevokedId}
use Rattle.osc_words.proofs.settings.revoked.all.Given as goal

-- what the values so far stand for
abbrev pub invariant-loop-value : goal.invariant-loop-value
invariant-loop-value l = StandForAll (IsRevokedId l.root) (items_view (take l.value-index l.values)) l.ids
