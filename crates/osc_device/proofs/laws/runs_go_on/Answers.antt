use Rattle.std.proofs.Common.{◌≡◌, sym, subst}
use Rattle.osc_run.specs.{ServerState}
use Rattle.osc_device.proofs.Going.{of_round}
use Rattle.osc_device.proofs.laws.runs_go_on.Goals as goal

pub returns : goal.returns
returns g c = λ old between new now draw round kind same carries number v reached is_in.
    of_round g.A.Ciphers.is_sealing number v old.own between now draw round new reached
    (record { server = subst (λ (s : ServerState). v.server ≡ s) (sym same) is_in.server; own = is_in.own }) kind carries
