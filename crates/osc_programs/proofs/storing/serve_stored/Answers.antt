use Rattle.std.proofs.Common.{◌∙◌, [], None, ap, arith, length, refl, subst, sym}
use Rattle.std.proofs.lemmas.List.{take_all}
use Rattle.osc_programs.specs.{KeepsTree, revoking, serving, with_revoked}
use Rattle.osc_programs.proofs.Lasting.{cause_since, keeps_all, leaves_all, opened_so}
use Rattle.osc_programs.proofs.Placed.{of_same, revoked_in}
use Rattle.osc_programs.proofs.Stored.{unkept_kept}
use Rattle.osc_programs.proofs.storing.serve_stored.Goals as goal

pub returns-in-Ok-server_with : goal.returns-in-Ok-server_with
returns-in-Ok-server_with g c =
    let settings = c.args.settings in
    let one = c.in-Ok.ensures in
    let made = c.in-Ok-server_with in
    let node = made.node in
    let told = c.serve_kept.ensures.ran in
    let ended = c.serve_kept.result.0 in
    let at = c.deref.ensures.value ∙ ap (λ bind. bind.items) made.ensures.bind in
    let server = of_same settings _ _ node one.tree made.ensures.server in
    record {
      lives = (
        told.0,
        told.1.tree,
        told.2.tree,
        serving ended told.0 node told.1 told.2 server (revoked_in settings.revoked settings.revoked_ids.items _ node.tree made.ensures.server.tree one.revoked)
            (opened_so _ _ _ _ _ _ _ _ _ _ _ _ _ _ (λ port opened. subst (λ at. g.R.Sockets.opened c.args.runtime.now at None port) at opened) told.3),
        told.4,
        λ keeps.
            let left = told.5 (one.kept keeps node made.ensures.server.tree) in (
              leaves_all g.K.KeepsSteps.keeps g.K.KeepsSteps.may_hold g.met.K.KeepsServer.keeps_tree g.met.K.KeepsServer.holds_trees ended told.1 told.2 c.serve_kept.result.1 left.0,
              cause_since g.K.KeepsSteps.trusted g.K.KeepsSteps.faults _ _ _ _ _ ended c.revoke_at_start.ensures.counts (λ long. (told.2, refl, long)) left.1,
            ),
      );
      file = c.serve_kept.ensures.file ∙ c.revoke_at_start.ensures.file;
      ends = c.serve_kept.ensures.ends;
    }

pub returns-in-Err-server_with : goal.returns-in-Err-server_with
returns-in-Err-server_with g c =
    let settings = c.args.settings in
    let ids = settings.revoked_ids.items in
    let one = c.in-Ok.ensures in
    record {
      lives = (
        [],
        _,
        _,
        revoking _ _ _ (record { not_done = λ done. absurd cc; revoked = length ids; few = omega arith; is_before = refl; is_after = refl }),
        c.telling_goes_on.ensures.none _,
        λ keeps. (
          subst (KeepsTree g.K.KeepsSteps.keeps c.revoke_at_start.new.keeper) (one.tree ∙ ap (λ some. with_revoked settings.revoked some c.args.stored.1) (sym (take_all (length ids) ids (omega arith)))) (one.kept keeps),
          tt,
        ),
      );
      file = c.revoke_at_start.ensures.file;
      ends = tt;
    }

pub returns-in-Err : goal.returns-in-Err
returns-in-Err g c =
    let stops = c.in-Err.ensures.stops in
    record {
      lives = ([], stops.0, stops.1, revoking _ _ _ stops.2, c.telling_goes_on.ensures.none _, stops.3);
      file = c.revoke_at_start.ensures.file;
      ends = unkept_kept c.in-Err.ended c.in-Err.ensures.ends;
    }
