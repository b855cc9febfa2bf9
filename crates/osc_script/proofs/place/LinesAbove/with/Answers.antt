use Rattle.std.proofs.Common.{rules}
use Rattle.osc_script.proofs.Places.{place_more}
use Rattle.osc_script.proofs.place.LinesAbove.with.Goals as goal
use Rattle.osc_script.proofs.place.LinesAbove.with.Goals.{then-self, else-self, then-self-2, else-self-2}

pub returns : goal.returns
returns c = place_more c.args.above.now c.args.line.now c.args.self _ c.requires.is (elim c.if-self.branch [ then-self w ↦ search rules | else-self w ↦ search rules ]) c.moment_behind.ensures c.puts_with.ensures (elim c.if-self-2.branch [ then-self-2 w ↦ search rules | else-self-2 w ↦ search rules ]) c.granted_with.ensures c.made_with.ensures c.routed_with.ensures
