use Rattle.std.proofs.Common.{Err, ap, arith, sym, ◌∙◌}
use Rattle.osc_options.specs.{or_code}
use Rattle.osc_options.proofs.Plaintexts.{read_as}
use Rattle.osc_options.proofs.reading.request_in.Goals as goal

pub returns-in-Ok-clause-read : goal.returns-in-Ok-clause-read
returns-in-Ok-clause-read c =
    sym (ap or_code c.in-Ok.is)
    ∙ read_as c.args.text.now c.request_of.result
    (λ p. c.reading.ensures.plaintext c.args.text.now p (λ i. omega (arith, c.type_inv.text i)))
    (c.reading.ensures.plaintext_again c.args.text.now)
    c.request_of.ensures.plain c.request_of.ensures.none
    (λ memory. cc)

pub returns-in-Err-Format-clause-read : goal.returns-in-Err-Format-clause-read
returns-in-Err-Format-clause-read c =
    sym (ap or_code (c.in-Err-Format.is ∙ ap Err c.in-Err-Format.field-0-is))
    ∙ read_as c.args.text.now c.request_of.result
    (λ p. c.reading.ensures.plaintext c.args.text.now p (λ i. omega (arith, c.type_inv.text i)))
    (c.reading.ensures.plaintext_again c.args.text.now)
    c.request_of.ensures.plain c.request_of.ensures.none
    (λ memory. cc)

pub returns-in-Err-BadOption-clause-read : goal.returns-in-Err-BadOption-clause-read
returns-in-Err-BadOption-clause-read c =
    sym (ap or_code (c.in-Err-BadOption.is ∙ ap Err c.in-Err-BadOption.field-0-is))
    ∙ read_as c.args.text.now c.request_of.result
    (λ p. c.reading.ensures.plaintext c.args.text.now p (λ i. omega (arith, c.type_inv.text i)))
    (c.reading.ensures.plaintext_again c.args.text.now)
    c.request_of.ensures.plain c.request_of.ensures.none
    (λ memory. cc)
