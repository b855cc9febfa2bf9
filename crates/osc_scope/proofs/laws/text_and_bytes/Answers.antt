use Rattle.osc_scope.proofs.SameScope.{same_scope}
use Rattle.osc_scope.proofs.Spelled.{spelled}
use Rattle.osc_scope.proofs.laws.text_and_bytes.Goals as goal

pub returns-clause-bytes : goal.returns-clause-bytes
returns-clause-bytes c = λ text entries s short. spelled text entries c.what_is_written.ensures.spells s short

pub returns-clause-scope : goal.returns-clause-scope
returns-clause-scope c = λ text entries s.
    let order = c.permissions_are_ordered.ensures in
    same_scope order.total order.exact order.same entries s.lawful
