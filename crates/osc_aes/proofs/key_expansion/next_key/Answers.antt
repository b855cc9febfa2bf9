use Rattle.osc_aes.proofs.KeyLaws.{next_key_is}
use Rattle.osc_aes.proofs.key_expansion.next_key.Goals as goal

pub returns : goal.returns
returns c =
    next_key_is c.args.key c.word_later.result c.two_words_later.result c.substitutes.result c.args.constant c.fits-key c.ranges.constant.fits
    c.word_later.ensures c.two_words_later.ensures c.substitutes.ensures
