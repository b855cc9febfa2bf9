use Rattle.osc_authz.proofs.ContextLaws.{one_held, one_of_token}
use Rattle.osc_authz.proofs.laws.one_context.Goals as goal

pub returns-clause-held : goal.returns-clause-held
returns-clause-held c = λ table context other is_table. one_held table context other is_table

pub returns-clause-of_token : goal.returns-clause-of_token
returns-clause-of_token c = λ table context other is_table. one_of_token table context other is_table
