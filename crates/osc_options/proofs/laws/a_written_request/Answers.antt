use Rattle.osc_options.proofs.AroundLaws.{alone, inside_again, outside_again, request_order, request_whole}
use Rattle.osc_options.proofs.laws.a_written_request.Goals as goal

pub returns-clause-plaintext : goal.returns-clause-plaintext
returns-clause-plaintext c = request_whole

pub returns-clause-order : goal.returns-clause-order
returns-clause-order c = request_order

pub returns-clause-inside : goal.returns-clause-inside
returns-clause-inside c = inside_again

pub returns-clause-outside : goal.returns-clause-outside
returns-clause-outside c = outside_again

pub returns-clause-alone : goal.returns-clause-alone
returns-clause-alone c = alone
