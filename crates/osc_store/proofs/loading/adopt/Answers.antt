use Rattle.std.proofs.Common.{ap, ◌∙◌}
use Rattle.sqlite_trees.specs.Tree.{Trees}
use Rattle.osc_store.specs.Inner.Loading.{IsForeign}
use Rattle.osc_store.proofs.ViewLemmas.{clean_before}
use Rattle.osc_store.proofs.loading.adopt.Goals as goal

pub returns-in-Ok-None-clause-cause : goal.returns-in-Ok-None-clause-cause
returns-in-Ok-None-clause-cause g c clean held =
    let v = g.S.Store.view in
    let early = clean_before (v c.args.store) (v c.load.new.store) c.load.ensures.quiet.clean clean in
    let foreign : IsForeign (v c.args.store).trees = rw c.in-Ok-None.field-0-is at (c.in-Ok-None.ensures.none clean (c.requires.ready early).table) in
    foreign held.0 held.1 (ap (λ (t : Trees). t 0) (c.requires.settled early) ∙ held.2)
