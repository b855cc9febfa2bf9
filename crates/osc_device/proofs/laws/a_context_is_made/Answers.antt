use Rattle.osc_device.proofs.Answering.{is_open}
use Rattle.osc_device.proofs.laws.a_context_is_made.Goals as goal

pub returns : goal.returns
returns g c = λ old new now draw server_draw claims entries begun round straight lawful_own may whole size begins carries.
    is_open g.A.Ciphers.is_sealing c.an_exchange_is_made.ensures
    old new now draw server_draw claims entries begun round straight lawful_own may whole size begins carries
