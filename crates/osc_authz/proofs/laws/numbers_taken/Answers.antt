use Rattle.osc_authz.proofs.ContextLaws.{table_taken}
use Rattle.osc_authz.proofs.laws.numbers_taken.Goals as goal

pub returns : goal.returns
returns c = λ now number context table is_table held. table_taken number context table is_table held now
