use Rattle.std.proofs.Common.{sym, arith}
use Rattle.osc_client.proofs.Posting.{head_of_one, head_of_two, head_of_three}
use Rattle.osc_client.proofs.exchanging.head_size.Goals as goal

pub returns-then-size-lt24-clause-size : goal.returns-then-size-lt24-clause-size
returns-then-size-lt24-clause-size c = sym (head_of_one 2 c.args.size c.if-size-lt24.true)

pub returns-then-size-lt256-clause-size : goal.returns-then-size-lt256-clause-size
returns-then-size-lt256-clause-size c = sym (head_of_two c.args.size c.if-size-lt24.false c.if-size-lt256.true)

pub returns-else-size-lt256-clause-size : goal.returns-else-size-lt256-clause-size
returns-else-size-lt256-clause-size c = sym (head_of_three c.args.size c.if-size-lt256.false (omega (arith, c.requires)))
