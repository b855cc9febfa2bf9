use Rattle.osc_authz.proofs.LifeLemmas.{marked_accepted, none_marked}
use Rattle.osc_authz.proofs.laws.marks_stay.Goals as goal

pub returns-clause-accepted : goal.returns-clause-accepted
returns-clause-accepted c = λ tree id number table marks. marked_accepted id number tree table marks

pub returns-clause-empty : goal.returns-clause-empty
returns-clause-empty c = λ tree marks held none. absurd none

pub returns-clause-none : goal.returns-clause-none
returns-clause-none c = none_marked
