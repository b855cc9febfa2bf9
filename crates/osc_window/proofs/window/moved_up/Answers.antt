use Rattle.osc_window.specs.{width}
use Rattle.osc_window.proofs.Bits.{all_gone}
use Rattle.osc_window.proofs.window.moved_up.Goals as goal

pub returns-else-places-lt-WIDTH : goal.returns-else-places-lt-WIDTH
unfolding width
returns-else-places-lt-WIDTH c = all_gone c.args.bits c.args.places width c.if-places-lt-WIDTH.false
