use Rattle.std.proofs.Common.{arith}
use Rattle.osc_client.proofs.Reading.{reads_as}
use Rattle.osc_client.proofs.answering.reply_in.Goals as goal

pub returns-in-Ok-clause-some : goal.returns-in-Ok-clause-some
returns-in-Ok-clause-some c =
    reads_as c.args.plaintext.now c.reply_of.result c.in-Ok.reply
    (λ p. c.reading.ensures.plaintext c.args.plaintext.now p (λ i. omega (arith, c.type_inv.plaintext i)))
    (c.reading.ensures.plaintext_again c.args.plaintext.now)
    c.reply_of.ensures.plain c.reply_of.ensures.none c.in-Ok.is
