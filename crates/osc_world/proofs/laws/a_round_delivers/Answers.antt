use Rattle.osc_world.proofs.Deliveries.{at_rest, client_hears, over, proxy_hears, sent_behind, server_hears, still}
use Rattle.osc_world.proofs.laws.a_round_delivers.Goals as goal

pub returns-clause-at_rest : goal.returns-clause-at_rest
returns-clause-at_rest g c = at_rest

pub returns-clause-still : goal.returns-clause-still
returns-clause-still g c = still

pub returns-clause-sent : goal.returns-clause-sent
returns-clause-sent g c = sent_behind g.A.Ciphers.is_sealing g.A.Ciphers.TAG

pub returns-clause-over : goal.returns-clause-over
returns-clause-over g c = λ deliveries limit old new quiet none rounds. over g.A.Ciphers.is_sealing g.A.Ciphers.TAG deliveries limit old quiet new none rounds

pub returns-clause-server : goal.returns-clause-server
returns-clause-server g c = λ deliveries left first later old new quiet apart waits to rounds.
    server_hears g.A.Ciphers.is_sealing g.A.Ciphers.TAG deliveries c.one_peer.ensures.itself left old first later quiet new apart waits rounds to

pub returns-clause-client : goal.returns-clause-client
returns-clause-client g c = λ deliveries left first later old new quiet number placed apart waits there to rounds.
    client_hears g.A.Ciphers.is_sealing g.A.Ciphers.TAG deliveries c.one_peer.ensures.itself left old first later quiet new apart waits rounds number placed there to

pub returns-clause-proxy : goal.returns-clause-proxy
returns-clause-proxy g c = λ deliveries left first later old new quiet number placed apart waits there to rounds.
    proxy_hears g.A.Ciphers.is_sealing g.A.Ciphers.TAG deliveries c.one_peer.ensures.itself left old first later quiet new apart waits rounds number placed there to
