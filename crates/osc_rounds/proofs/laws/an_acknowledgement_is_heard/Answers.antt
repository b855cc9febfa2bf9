use Rattle.osc_rounds.proofs.Acknowledged.{acknowledgement_heard}
use Rattle.osc_rounds.proofs.laws.an_acknowledgement_is_heard.Goals as goal

pub returns : goal.returns
returns g c =
    acknowledgement_heard g.A.Ciphers.is_sealing c.one_reception.ensures c.what_nodes_send.ensures.acknowledgement (λ id. (c.what_nodes_send.ensures.short id).1)
