use Rattle.osc_device.proofs.RunBegins.{begins}
use Rattle.osc_device.proofs.laws.a_run_begins.Goals as goal

pub returns : goal.returns
returns g c = λ parts own device is others clients lawful are. begins g.A.Ciphers.is_sealing c.minted_texts.ensures parts own device is lawful others clients are
