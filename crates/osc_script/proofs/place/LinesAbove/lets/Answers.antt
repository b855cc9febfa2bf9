use Rattle.osc_script.specs.declared.line.Line.TheVariants.{Put, Grant, Via, Skip, Ask, Lie}
use Rattle.osc_script.proofs.Lets.{lets_as, lets_is, lets_grant}
use Rattle.osc_script.proofs.place.LinesAbove.lets.Goals as goal

pub returns-in-Put : goal.returns-in-Put
returns-in-Put c = lets_as c.args.above.now c.args.line.now (Put c.in-Put.path c.in-Put.resource) _ c.in-Put.is c.may_put.ensures

pub returns-then-not-self : goal.returns-then-not-self
returns-then-not-self c =
    lets_as c.args.above.now c.args.line.now (Grant c.in-Grant.client c.in-Grant.scope c.in-Grant.not_before c.in-Grant.expires c.in-Grant.alg) _ c.in-Grant.is
    (lets_grant c.args.self.has_event c.has_granted.result _ _ c.if-not-self.true c.requires.event c.has_granted.ensures)

pub returns-in-Via : goal.returns-in-Via
returns-in-Via c = lets_as c.args.above.now c.args.line.now (Via c.in-Via.client c.in-Via.proxy) _ c.in-Via.is c.may_route.ensures

pub returns-in-Skip : goal.returns-in-Skip
returns-in-Skip c = lets_as c.args.above.now c.args.line.now (Skip c.in-Skip.client c.in-Skip.number) _ c.in-Skip.is (lets_is _ _ c.has_granted-in-Skip.ensures)

pub returns-in-Ask : goal.returns-in-Ask
returns-in-Ask c = lets_as c.args.above.now c.args.line.now (Ask c.in-Ask.client c.in-Ask.request) _ c.in-Ask.is (lets_is _ _ c.has_granted-in-Ask.ensures)

pub returns-in-Lie : goal.returns-in-Lie
returns-in-Lie c = lets_as c.args.above.now c.args.line.now (Lie c.in-Lie.client c.in-Lie.number c.in-Lie.request) _ c.in-Lie.is (lets_is _ _ c.has_granted-in-Lie.ensures)
