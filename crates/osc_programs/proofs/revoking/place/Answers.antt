use Rattle.std.proofs.Common.{◌≡◌, ◌∙◌, ap, refl, rules, subst, sym}
use Rattle.std.specs.FinMap as map
use Rattle.osc_model.specs.Tree.{Tree}
use Rattle.osc_programs.specs.{HasCause, IsTooLongIn, KeepsTree, with_place}
use Rattle.osc_programs.proofs.FirstTree.{put_there}
use Rattle.osc_programs.proofs.Inputs.{always_ok}
use Rattle.osc_programs.proofs.Lasting.{of_error, placed_left}
use Rattle.osc_programs.proofs.Placed.{empty, still_put, there_put}
use Rattle.osc_programs.proofs.revoking.place.Goals as goal

pub returns-in-Ok-clause-there : goal.returns-in-Ok-clause-there
returns-in-Ok-clause-there g c =
    let path = c.args.path.now in
    always_ok c.keep_place.result (ap (λ (t : Tree). map.contains_key t path) c.in-Ok.ensures ∙ there_put c.paths_are_ordered.ensures.total c.args.tree.now path empty)

pub returns-in-Ok-clause-stay : goal.returns-in-Ok-clause-stay
returns-in-Ok-clause-stay g c = λ other there.
    always_ok c.keep_place.result
    (ap (λ (t : Tree). map.contains_key t other) c.in-Ok.ensures ∙ still_put c.paths_are_ordered.ensures.total c.args.tree.now c.args.path.now empty other there)

pub returns-in-Ok-clause-kept : goal.returns-in-Ok-clause-kept
returns-in-Ok-clause-kept g c = λ keeps.
    let path = c.args.path.now in
    let new = c.put_empty.new.tree in
    c.keep_place.ensures.kept c.args.tree.now
    (sym (put_there c.paths_are_ordered.ensures.total c.args.tree.now new path empty (map.get new path) c.in-Ok.ensures refl)) keeps

pub returns-in-Ok-clause-left : goal.returns-in-Ok-clause-left
returns-in-Ok-clause-left g c =
    let path = c.args.path.now in
    let old = c.args.tree.now in
    let new = c.put_empty.new.tree in
    let same : new ≡ with_place old path = search rules in
    placed_left g.K.KeepsSteps.keeps g.K.KeepsSteps.may_hold c.keep_place.result (KeepsTree g.K.KeepsSteps.keeps c.args.keeper.now old) old new (with_place old path)
    c.keep_place.new.keeper same c.keep_place.ensures.not_kept
    (c.keep_place.ensures.left old (sym (put_there c.paths_are_ordered.ensures.total old new path empty (map.get new path) c.in-Ok.ensures refl)))

pub returns-in-Ok-clause-cause : goal.returns-in-Ok-clause-cause
returns-in-Ok-clause-cause g c =
    let path = c.args.path.now in
    let old = c.args.tree.now in
    let new = c.put_empty.new.tree in
    let same : new ≡ with_place old path = search rules in
    of_error c.keep_place.result (KeepsTree g.K.KeepsSteps.keeps c.args.keeper.now old) _ _
    (λ ended why. subst
    (λ (tree : Tree). HasCause g.K.KeepsSteps.trusted g.K.KeepsSteps.faults (IsTooLongIn g.K.KeepsSteps.too_long tree) c.args.keeper.now c.keep_place.new.keeper ended) same why)
    (c.keep_place.ensures.cause old (sym (put_there c.paths_are_ordered.ensures.total old new path empty (map.get new path) c.in-Ok.ensures refl)))
