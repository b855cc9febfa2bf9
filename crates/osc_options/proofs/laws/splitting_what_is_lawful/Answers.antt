use Rattle.osc_options.proofs.SplitLaws.{plaintext_lawful, protected_lawful, unprotected_lawful}
use Rattle.osc_options.proofs.laws.splitting_what_is_lawful.Goals as goal

pub returns-clause-plaintext : goal.returns-clause-plaintext
returns-clause-plaintext c = plaintext_lawful c.fewer_options.ensures.options

pub returns-clause-protected : goal.returns-clause-protected
returns-clause-protected c = protected_lawful c.fewer_options.ensures.options

pub returns-clause-unprotected : goal.returns-clause-unprotected
returns-clause-unprotected c = unprotected_lawful c.fewer_options.ensures.options
