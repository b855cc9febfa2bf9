use Rattle.std.proofs.Common.{IsTrue, ◌<◌, subst}
use Rattle.osc_words.proofs.settings.OneAddress.{no_port, not_printed}
use Rattle.osc_words.proofs.settings.values.plain_address.Goals as goal

pub returns-then-port-least : goal.returns-then-port-least
returns-then-port-least c = no_port c.args.least c.args.text.now c.args.address c.requires (subst (λ port. port < c.args.least) c.port.ensures c.if-port-least.true)

pub returns-else-branch : goal.returns-else-branch
returns-else-branch c =
    not_printed c.args.least c.args.text.now c.args.address c.requires (λ same.
    let yes : IsTrue c.in_ok-is_printed.field-0 = c.in_ok-is_printed.ensures.1 same in
    let no = c.if-branch.false in
    absurd cc)
