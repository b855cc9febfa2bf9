use Rattle.osc_options.proofs.SplitLengths.{plaintext_most, protected_most, unprotected_most}
use Rattle.osc_options.proofs.laws.length_of_split.Goals as goal

pub returns-clause-plaintext : goal.returns-clause-plaintext
returns-clause-plaintext c = plaintext_most c.length_of_spelling.ensures.exact c.length_of_plaintext.ensures c.fewer_options.ensures.length

pub returns-clause-protected : goal.returns-clause-protected
returns-clause-protected c = protected_most c.length_of_spelling.ensures.exact c.fewer_options.ensures.options c.fewer_options.ensures.length

pub returns-clause-unprotected : goal.returns-clause-unprotected
returns-clause-unprotected c = unprotected_most c.length_of_spelling.ensures.exact c.length_of_plaintext.ensures c.fewer_options.ensures.options c.fewer_options.ensures.length
