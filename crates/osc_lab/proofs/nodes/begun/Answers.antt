use Rattle.std.proofs.Common.{None, rules}
use Rattle.osc_lab.specs.{task_of}
use Rattle.osc_lab.specs.Inner.Telling.{Begins}
use Rattle.osc_lab.proofs.Labs.{does_ask, does_exchange}
use Rattle.osc_lab.proofs.nodes.begun.Goals as goal

pub returns-in-Ok-clause-begins : goal.returns-in-Ok-clause-begins
returns-in-Ok-clause-begins g c = (
  c.in_ok-now.now,
  c.in_ok-now.draw,
  c.in_ok-now.ensures.gives,
  does_exchange c.args.asked.line.now c.in-Exchange.client c.args.client.now c.exchange.new.self c.in_ok-now.now c.in_ok-now.draw c.in-Ok.step c.in-Exchange.is
      c.in-Ok.ensures.begun c.in-Ok.ensures.kind,
)

pub returns-in-Ok-ask-clause-begins : goal.returns-in-Ok-ask-clause-begins
returns-in-Ok-ask-clause-begins g c = (
  c.in_ok-now.now,
  c.in_ok-now.draw,
  c.in_ok-now.ensures.gives,
  does_ask c.args.asked.line.now c.in-Ask.client c.in-Ask.request c.args.client.now c.ask.new.self c.in_ok-now.now c.in_ok-now.draw c.in-Ok-ask.step c.in-Ask.is (search rules)
      c.in-Ok-ask.ensures.asked c.in-Ok-ask.ensures.kind,
)

pub returns-in_default-clause-begins : goal.returns-in_default-clause-begins
returns-in_default-clause-begins g c =
    let nothing : Begins (task_of c.args.asked.line.now c.in_ok-now.now c.in_ok-now.draw) c.args.client.now None c.args.client.now = search rules in
    (c.in_ok-now.now, c.in_ok-now.draw, c.in_ok-now.ensures.gives, nothing)
