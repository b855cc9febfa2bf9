use Rattle.osc_server.proofs.Refusals.{opened_once, opened_or_refused, refused_once}
use Rattle.osc_server.proofs.laws.one_refusal.Goals as goal

pub returns-clause-refused : goal.returns-clause-refused
returns-clause-refused g c = refused_once g.A.Ciphers.is_sealing g.met.A.Ciphers.one_text c.one_request.ensures

pub returns-clause-opened : goal.returns-clause-opened
returns-clause-opened g c = opened_or_refused g.A.Ciphers.is_sealing g.met.A.Ciphers.one_text c.one_request.ensures

pub returns-clause-once : goal.returns-clause-once
returns-clause-once g c = opened_once g.A.Ciphers.is_sealing g.met.A.Ciphers.one_text c.one_request.ensures
