use Rattle.osc_options.proofs.RequestAgainLaws.{request_understood, request_again, request_inside, plaintext_again}
use Rattle.osc_options.proofs.laws.a_request_is_read_again.Goals as goal

pub returns-clause-understood : goal.returns-clause-understood
returns-clause-understood c = request_understood c.paths_are_cut_at_slashes.ensures

pub returns-clause-message : goal.returns-clause-message
returns-clause-message c = request_again c.paths_are_cut_at_slashes.ensures

pub returns-clause-inside : goal.returns-clause-inside
returns-clause-inside c = request_inside c.paths_are_cut_at_slashes.ensures

pub returns-clause-plaintext : goal.returns-clause-plaintext
returns-clause-plaintext c = plaintext_again c.paths_are_cut_at_slashes.ensures
