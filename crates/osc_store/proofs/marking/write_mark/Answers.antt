use Rattle.osc_store.proofs.WholeLemmas.{either_schema}
use Rattle.osc_store.proofs.marking.write_mark.Goals as goal

pub returns-clause-schema : goal.returns-clause-schema
returns-clause-schema g c = either_schema c.set_version.result _ _ _ _ c.set_version.ensures.ok c.set_version.ensures.err
