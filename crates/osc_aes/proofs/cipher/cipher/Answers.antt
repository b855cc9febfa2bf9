use Rattle.osc_aes.specs.{key_expansion}
use Rattle.osc_aes.proofs.KeyLaws.{last_of}
use Rattle.osc_aes.proofs.cipher.cipher.Goals as goal

pub returns : goal.returns
returns c =
    last_of c.args.block (key_expansion c.args.keys.now.key) _ c.args.keys.now.last c.last_round.result c.last_round.ensures c.requires.last
    c.nine_rounds-state.ensures
