use Rattle.osc_authz.proofs.AgreementLemmas.{few_in_none}
use Rattle.osc_authz.proofs.KeptPlaces.{kept_in_none}
use Rattle.osc_authz.proofs.PlaceLemmas.{empty_index}
use Rattle.osc_authz.proofs.TableLaws.{empty_table}
use Rattle.osc_authz.proofs.desk.ServerDesk.of.Goals as goal

pub invariant_of-result : goal.invariant_of-result
invariant_of-result c = rw c.new.ensures.items (empty_table, empty_index, few_in_none c.args.parts.rules.remembered, kept_in_none c.args.parts.rules.reserved)
