use Rattle.osc_authz.proofs.AgreementLemmas.{few_in_none}
use Rattle.osc_authz.proofs.KeptPlaces.{kept_in_none}
use Rattle.osc_authz.proofs.PlaceLemmas.{empty_index}
use Rattle.osc_authz.proofs.TableLaws.{empty_table}
use Rattle.osc_authz.proofs.desk.ServerDesk.clear.Goals as goal

pub invariant_of-self : goal.invariant_of-self
invariant_of-self c = rw c.clear.ensures.items (empty_table, empty_index, few_in_none c.self.inside.rules.remembered, kept_in_none c.self.inside.rules.reserved)
