use Rattle.std.proofs.Common.{sym, subst, [], ◌∷◌}
use Rattle.osc_client.specs.State.{State as Client}
use Rattle.osc_run.specs.{by_server}
use Rattle.osc_device.specs.{GoesOn}
use Rattle.osc_device.proofs.Going.{device, of_client_step, of_server_step, then}
use Rattle.osc_device.proofs.laws.runs_go_on_alone.Goals as goal

pub returns-clause-heard : goal.returns-clause-heard
returns-clause-heard c = λ old new now notes kind same number v reached is_in.
    subst (λ (own : Client). GoesOn number (by_server notes ∷ []) v (device new.server own)) (sym same) (of_server_step number v old.server new.server old.own now notes reached is_in kind)

pub returns-clause-restarted : goal.returns-clause-restarted
returns-clause-restarted c = λ old new now server own number v reached is_in.
    let first = of_server_step number v old.server new.server old.own now _ reached is_in server in
    then number _ _ v (device new.server old.own) new first (of_client_step number first.w new.server old.own new.own _ first.reached first.is_in own)
