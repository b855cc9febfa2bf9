use Rattle.osc_device.proofs.Answering.{is_answered}
use Rattle.osc_device.proofs.laws.a_request_is_answered.Goals as goal

pub returns : goal.returns
returns g c = λ old new asks server_draw context held asked round straight lawful lawful_own ready whole requests carries.
    is_answered g.A.Ciphers.is_sealing g.A.Ciphers.TAG c.a_request_is_answered.ensures
    old new asks server_draw context held asked round straight lawful lawful_own ready whole requests carries
