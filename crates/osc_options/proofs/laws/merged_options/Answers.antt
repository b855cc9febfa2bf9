use Rattle.osc_options.proofs.MergeLaws.{AreInOrder-merge, of_number-merge, one_merge, AreOptions-merge, options_length-merge}
use Rattle.osc_options.proofs.laws.merged_options.Goals as goal

pub returns-clause-options : goal.returns-clause-options
returns-clause-options c = AreOptions-merge

pub returns-clause-length : goal.returns-clause-length
returns-clause-length c = options_length-merge

pub returns-clause-order : goal.returns-clause-order
returns-clause-order c = AreInOrder-merge

pub returns-clause-each : goal.returns-clause-each
returns-clause-each c = λ before number. of_number-merge number before

pub returns-clause-only : goal.returns-clause-only
returns-clause-only c = one_merge
