use Rattle.osc_world.proofs.Apart.{proxy_stands_there, server_stands_there, stands_there}
use Rattle.osc_world.proofs.laws.who_stands_there.Goals as goal

pub returns-clause-server : goal.returns-clause-server
returns-clause-server c = server_stands_there c.one_peer.ensures.itself

pub returns-clause-client : goal.returns-clause-client
returns-clause-client c = stands_there c.one_peer.ensures.itself

pub returns-clause-proxy : goal.returns-clause-proxy
returns-clause-proxy c = proxy_stands_there c.one_peer.ensures.itself
