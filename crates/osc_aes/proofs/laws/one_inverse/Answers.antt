use Rattle.std.proofs.Common.{subst, sym}
use Rattle.osc_aes.specs.{IsInverse}
use Rattle.osc_aes.proofs.Inverses.{unique, inverse_is}
use Rattle.osc_aes.proofs.laws.one_inverse.Goals as goal

pub returns : goal.returns
returns c = λ b y hb hy. (unique b y hb hy, λ e. subst (IsInverse b) (sym e) (inverse_is b hb))
