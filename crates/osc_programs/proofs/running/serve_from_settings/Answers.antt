use Rattle.std.proofs.Common.{◌∙◌, ap, inl, inr, subst}
use Rattle.osc_model.specs.Tree.{Tree}
use Rattle.osc_programs.specs.{Lives, tree_of}
use Rattle.osc_programs.proofs.Stored.{fault_kept, fault_no_server}
use Rattle.osc_programs.proofs.running.serve_from_settings.Goals as goal

pub returns-in-Ok : goal.returns-in-Ok
returns-in-Ok g c =
    let same = c.in-Ok.ensures.tree ∙ ap tree_of c.deref.ensures.value in
    let told = c.serve_stored-ended.ensures.lives in
    record {
      served = inr (
        told.0,
        told.1,
        told.2,
        subst
            (λ (tree : Tree). Lives (g.R.Seeds.gave c.args.runtime.now) (g.R.Sockets.opened c.args.runtime.now) g.R.Socket.Port.received g.R.Socket.Port.sent c.args.settings tree c.args.turns
            c.serve_stored-ended.result.0 told.0 told.1 told.2) same told.3,
        told.4,
      );
      ends = c.serve_stored-ended.ensures.ends;
    }

pub returns-in-Err : goal.returns-in-Err
returns-in-Err g c = record {
  served = inl (fault_no_server c.in-Err.ended c.in-Err.ensures.fault);
  ends = fault_kept c.in-Err.ended c.in-Err.ensures.fault;
}
