use Rattle.std.proofs.Common.{◌≡◌, rules, subst}
use Rattle.std.proofs.lemmas.Result.{IfErr-weaker}
use Rattle.osc_model.specs.Tree.{Tree}
use Rattle.osc_programs.specs.{HasCause, IsTooLongIn, with_place, with_revoked_id}
use Rattle.osc_programs.proofs.revoking.revoke.Goals as goal

pub returns-in-Ok-Some-clause-cause : goal.returns-in-Ok-Some-clause-cause
returns-in-Ok-Some-clause-cause g c =
    let old = c.args.tree.now in
    let same : with_place old c.in-Ok-Some.path ≡ with_revoked_id c.args.root.now old c.args.id.now = search rules in
    IfErr-weaker c.place.result _ _
    (λ ended why keeps. subst
    (λ (tree : Tree). HasCause g.K.KeepsSteps.trusted g.K.KeepsSteps.faults (IsTooLongIn g.K.KeepsSteps.too_long tree) c.args.keeper.now c.place.new.keeper ended) same (why keeps))
    c.place.ensures.cause
