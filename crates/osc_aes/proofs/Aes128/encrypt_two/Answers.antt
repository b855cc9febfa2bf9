use Rattle.osc_aes.proofs.KeyLaws.{encrypted}
use Rattle.osc_aes.proofs.Aes128.encrypt_two.Goals as goal

pub returns-clause-one : goal.returns-clause-one
returns-clause-one c = encrypted c.args.self.now c.args.one c.self.inside.keys.key c.cipher_two.result.0 c.self.view_is c.cipher_two.ensures.one

pub returns-clause-other : goal.returns-clause-other
returns-clause-other c = encrypted c.args.self.now c.args.other c.self.inside.keys.key c.cipher_two.result.1 c.self.view_is c.cipher_two.ensures.other
