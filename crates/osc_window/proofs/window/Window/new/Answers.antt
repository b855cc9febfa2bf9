use Rattle.osc_window.proofs.Bitmap.{no_numbers}
use Rattle.osc_window.proofs.window.Window.new.Goals as goal

pub returns : goal.returns
returns c = no_numbers
