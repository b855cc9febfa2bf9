use Rattle.osc_options.proofs.Lengthening.{protected_longer}
use Rattle.osc_options.proofs.laws.protecting_lengthens.Goals as goal

pub returns : goal.returns
returns c = protected_longer c.length_of_spelling.ensures.exact c.length_of_plaintext.ensures
