use Rattle.osc_cbor.specs.{array}
use Rattle.osc_scope.specs.{entry_items}
use Rattle.osc_scope.proofs.EntryLemmas.{only_one}
use Rattle.osc_scope.proofs.scope.Scope.from_cbor.Goals as goal

pub returns-in-Some-clause-only : goal.returns-in-Some-clause-only
returns-in-Some-clause-only c =
    let found = rw c.in-Some.is at c.whole.ensures in
    λ entries s. only_one c.in-Some.item c.scope_in.result c.scope_in.ensures.found c.scope_in.ensures.bad entries s.lawful
    (found.1 (array (entry_items entries)) s.whole)

pub returns-in-None-clause-only : goal.returns-in-None-clause-only
returns-in-None-clause-only c =
    let none = rw c.in-None.is at c.whole.ensures in
    λ entries s. absurd (none (array (entry_items entries)) s.whole)

pub returns-in-Some-clause-needs_memory : goal.returns-in-Some-clause-needs_memory
returns-in-Some-clause-needs_memory c =
    let found = rw c.in-Some.is at c.whole.ensures in
    λ wanting. (c.in-Some.item, found.0)
