use Rattle.std.proofs.Common.{arith, refl, rules}
use Rattle.osc_lab.specs.Inner.Telling.{network}
use Rattle.osc_lab.specs.{no_whole_turn}
use Rattle.osc_lab.proofs.Appended.{appends_none}
use Rattle.osc_lab.proofs.LabRuns.{whole_turns_lead}
use Rattle.osc_lab.proofs.Labs.{all_turns_taken, always_err, at_exit, halts_later, one_more_whole, quiet_at_last, stops_more, tells_more, tells_none}
use Rattle.osc_lab.proofs.run.take_whole_turns.Goals as goal

pub loop-init : goal.loop-init
loop-init g c = record { most = omega arith; take = no_whole_turn; told = tells_none _ _ _ _ _ refl (appends_none _) }

pub returns-in_err-busy-clause-leads : goal.returns-in_err-busy-clause-leads
returns-in_err-busy-clause-leads g c =
    let net = network g.P.Port.received g.P.Port.sent c.args.who.cast.addresses.now in
    always_err c.from_residual.result _ (halts_later net _ _ _ (whole_turns_lead net c.args.who.number _ c.loop.counter _ c.loop.invariant.take) c.in_err-busy.ensures.leads)

pub returns-in_err-busy-clause-stopped : goal.returns-in_err-busy-clause-stopped
returns-in_err-busy-clause-stopped g c =
    at_exit c.from_residual.result c.in_err-busy.field-0.0 _ c.from_residual.ensures.1
    (stops_more _ _ _ _ _ _ _ _ c.loop.invariant.told c.in_err-busy.ensures.stopped)

pub returns-then-not-either-clause-takes : goal.returns-then-not-either-clause-takes
returns-then-not-either-clause-takes g c =
    quiet_at_last (network g.P.Port.received g.P.Port.sent c.args.who.cast.addresses.now) c.args.who.number c.args.turns _ _ _ c.loop.counter c.in_ok-busy.busy c.loop-test.true
    c.loop.invariant.take c.in_ok-busy.ensures.takes (search rules)

pub loop-preserved : goal.loop-preserved
loop-preserved g c = record {
  most = omega (arith, c.loop-test.true);
  take = one_more_whole (network g.P.Port.received g.P.Port.sent c.args.who.cast.addresses.now) c.args.who.number _ _ _ c.loop.counter c.in_ok-busy.busy c.loop.invariant.take
      c.in_ok-busy.ensures.takes (search rules);
  told = tells_more _ _ _ _ _ _ _ c.loop.invariant.told c.in_ok-busy.ensures.told;
}

pub returns-clause-takes : goal.returns-clause-takes
returns-clause-takes g c =
    all_turns_taken (network g.P.Port.received g.P.Port.sent c.args.who.cast.addresses.now) c.args.who.number c.args.turns c.loop.counter _ _ c.loop.invariant.most c.loop-test.false
    c.loop.invariant.take
