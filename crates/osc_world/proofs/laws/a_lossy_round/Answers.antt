use Rattle.osc_world.proofs.LossAsked.{goes_over_loss}
use Rattle.osc_world.proofs.laws.a_lossy_round.Goals as goal

pub returns : goal.returns
returns g c = λ begun last events lawful clients apart happen.
    goes_over_loss g.A.Ciphers.is_sealing g.A.Ciphers.TAG c.one_peer.ensures.itself c.a_request_is_served_over_loss.ensures begun last events lawful clients apart happen
