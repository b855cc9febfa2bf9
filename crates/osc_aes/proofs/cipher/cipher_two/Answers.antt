use Rattle.osc_aes.specs.{key_expansion}
use Rattle.osc_aes.proofs.KeyLaws.{last_of}
use Rattle.osc_aes.proofs.cipher.cipher_two.Goals as goal

pub returns-clause-one : goal.returns-clause-one
returns-clause-one c =
    last_of c.args.one (key_expansion c.args.keys.now.key) _ c.args.keys.now.last c.last_round-a.result c.last_round-a.ensures c.requires.last
    c.nine_rounds_of_two.ensures.one

pub returns-clause-other : goal.returns-clause-other
returns-clause-other c =
    last_of c.args.other (key_expansion c.args.keys.now.key) _ c.args.keys.now.last c.last_round-b.result c.last_round-b.ensures c.requires.last
    c.nine_rounds_of_two.ensures.other
