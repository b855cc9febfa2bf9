use Rattle.osc_aes.proofs.KeyLaws.{encrypted}
use Rattle.osc_aes.proofs.Aes128.encrypt.Goals as goal

pub returns : goal.returns
returns c = encrypted c.args.self.now c.args.block c.self.inside.keys.key c.cipher.result c.self.view_is c.cipher.ensures
