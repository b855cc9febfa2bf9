use Rattle.std.proofs.Common.{subst, ◌∙◌}
use Rattle.osc_store.specs.{Lists}
use Rattle.osc_store.proofs.FindLemmas.{surely}
use Rattle.osc_store.proofs.StartLemmas.{from_file}
use Rattle.osc_store.proofs.opening.look.Goals as goal

pub returns-in-Ok-clause-ok : goal.returns-in-Ok-clause-ok
returns-in-Ok-clause-ok g c clean =
    let is = c.in-Ok.ensures.ok clean in
    record { pages = is.pages; before = is.found; again = is.again; lists = subst (Lists c.read_list.result) (c.as_slice.ensures.value ∙ is.lists) c.read_list.ensures }

pub returns-in-Err-clause-cause : goal.returns-in-Err-clause-cause
returns-in-Err-clause-cause g c clean = rw c.of_open.ensures.value (from_file _ _ _ _ _ c.in-Err.error surely (c.in-Err.ensures.cause clean))
