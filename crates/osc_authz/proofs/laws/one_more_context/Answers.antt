use Rattle.osc_authz.proofs.ContextLaws.{table_added}
use Rattle.osc_authz.proofs.laws.one_more_context.Goals as goal

pub returns : goal.returns
returns c = λ now token held remember table is_table. table_added token held remember now table is_table
