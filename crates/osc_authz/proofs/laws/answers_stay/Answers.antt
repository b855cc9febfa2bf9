use Rattle.osc_authz.proofs.LastAnswers.{answered_contexts, answered_is_table, answered_marked, answered_places, answered_tokens}
use Rattle.osc_authz.proofs.laws.answers_stay.Goals as goal

pub returns-clause-tokens : goal.returns-clause-tokens
returns-clause-tokens c = λ answers id last table. answered_tokens id last answers table

pub returns-clause-contexts : goal.returns-clause-contexts
returns-clause-contexts c = λ answers id last table. answered_contexts id last answers table

pub returns-clause-table : goal.returns-clause-table
returns-clause-table c = λ answers id last table. answered_is_table id last answers table

pub returns-clause-places : goal.returns-clause-places
returns-clause-places c = λ answers id last reserved table. answered_places id last answers reserved table

pub returns-clause-marked : goal.returns-clause-marked
returns-clause-marked c = λ answers id last tree table marks. answered_marked id last answers tree table marks
