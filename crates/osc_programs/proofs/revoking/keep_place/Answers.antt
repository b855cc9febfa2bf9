use Rattle.std.proofs.Common.{◌∙◌, ap, arith, refl, sym}
use Rattle.std.specs.FinMap as map
use Rattle.osc_model.specs.Tree.{Tree}
use Rattle.osc_store.specs.{changed}
use Rattle.osc_programs.proofs.Lasting.{why_since}
use Rattle.osc_programs.proofs.Placed.{bare}
use Rattle.osc_programs.proofs.revoking.keep_place.Goals as goal

pub returns-in-Ok-clause-kept : goal.returns-in-Ok-clause-kept
returns-in-Ok-clause-kept g c = λ before is all server same.
    let at_first = record server { tree = before } in
    c.in-Ok.ensures.kept at_first server (same ∙ (is ∙ ap (changed before c.args.path.now) (sym c.get.ensures.found))) (all at_first refl)

pub returns-in-Err-clause-left : goal.returns-in-Err-clause-left
returns-in-Err-clause-left g c = λ before is all first last same too.
    c.keep_start.ensures.crash first last (too ∙ (is ∙ (ap (λ (tree : Tree). changed tree c.args.path.now (map.get c.args.tree.now c.args.path.now)) (sym same) ∙ ap (changed first.tree c.args.path.now) (sym c.get.ensures.found)))) (all first same)

pub returns-in-Err-clause-cause : goal.returns-in-Err-clause-cause
returns-in-Err-clause-cause g c = λ before is all trust.
    let server = bare c.args.tree.now in
    why_since _ _ _ _ _ c.in-Err.error (omega arith) (λ long. (server, refl, long))
    (c.in-Err.ensures.cause (bare before) server (is ∙ ap (changed before c.args.path.now) (sym c.get.ensures.found)) (all (bare before) refl) trust)
