use Rattle.std.proofs.Common.{◌∙◌, None, ap, inl, inr, subst}
use Rattle.osc_programs.proofs.Lasting.{opened_so}
use Rattle.osc_programs.proofs.Stored.{kept_turns}
use Rattle.osc_programs.proofs.running.forward_by.Goals as goal

pub returns-in-Ok-clause-forwarded : goal.returns-in-Ok-clause-forwarded
returns-in-Ok-clause-forwarded g c =
    let told = c.run.ensures.ran in
    let at = c.deref.ensures.value ∙ ap (λ bind. bind.items) c.in-Ok.ensures.bind in
    inr (
      told.0,
      record {
        first = c.in-Ok.node;
        is_proxy = c.in-Ok.ensures.proxy;
        before = told.1;
        last = c.run.new.kept.node;
        ran = opened_so _ _ _ _ _ _ _ _ _ _ _ _ _ _ (λ port opened. subst (λ at. g.R.Sockets.opened c.args.runtime.now at None port) at opened) told.2;
      },
      told.3,
    )

-- where nothing is kept, keeping never fails
pub returns-in-Ok-clause-ends : goal.returns-in-Ok-clause-ends
returns-in-Ok-clause-ends g c = kept_turns c.run.result c.run.ensures.ends c.run.ensures.fails
