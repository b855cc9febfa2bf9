use Rattle.std.proofs.Common.{◌∙◌, [], IfSome, Option, arith, refl, subst, sym}
use Rattle.osc_log.specs.{Tells}
use Rattle.osc_programs.specs.{IsFault, and_then, as_it_was}
use Rattle.osc_programs.specs.Turning as spec
use Rattle.osc_programs.specs.declared.ended.Ended.{Ended}
use Rattle.osc_programs.proofs.Lasting.{cause_since, left_alone, no_cause}
use Rattle.osc_programs.proofs.Passing.{passes_done, passes_more, passes_none}
use Rattle.osc_programs.proofs.Stored.{fault_keeps, fault_kept, unkept_kept, unkept_no_end}
use Rattle.osc_programs.proofs.Taken.{no_end, one_more}
use Rattle.osc_programs.proofs.turns.turns_in.Goals as goal

pub loop-init : goal.loop-init
loop-init g c = (
  omega arith,
  spec.nothing_shown,
  spec.none _,
  passes_none g.P.Port.received g.P.Port.sent _,
  c.telling_goes_on.ensures.none _,
  λ keeps. keeps,
  omega arith,
  λ trust. trust,
  refl,
)

pub loop-preserved : goal.loop-preserved
loop-preserved g c =
    let so_far = c.loop.invariant in
    let turn = c.in-Ok-None.ensures.ok in (
      omega (arith, c.loop-test.true),
      and_then so_far.1 turn.0,
      one_more g.N.Node.acts g.N.Node.is_step g.N.Holding.held c.loop.counter _ _ _ _ _ so_far.2 turn.1,
      passes_more g.P.Port.received g.P.Port.sent _ _ _ so_far.1.passed turn.0.passed so_far.3 turn.2,
      c.telling_goes_on.ensures.more _ _ _ so_far.1.events turn.0.events so_far.4 turn.3,
      λ keeps. c.in-Ok-None.ensures.kept (so_far.5 keeps),
      omega (arith, so_far.6, c.one_turn.ensures.counts),
      λ trust. so_far.7 (c.one_turn.ensures.trust trust),
      c.one_turn.ensures.file ∙ so_far.8,
    )

-- the turn was taken, and then the node ended
pub returns-in-Ok-Some : goal.returns-in-Ok-Some
returns-in-Ok-Some g c =
    let so_far = c.loop.invariant in
    let turn = c.in-Ok-Some.ensures.ok in
    let ended = c.in-Ok-Some.ended in
    let fault = subst (λ (o : Option Ended). IfSome o IsFault) c.in-Ok-Some.field-0-is c.in-Ok-Some.ensures.over in
    record {
      turns = (
        _,
        and_then so_far.1 turn.0,
        _,
        [],
        one_more g.N.Node.acts g.N.Node.is_step g.N.Holding.held c.loop.counter _ _ _ _ _ so_far.2 turn.1,
        as_it_was ended,
        omega (arith, c.loop-test.true),
        λ done. absurd (no_end ended fault done),
        passes_done g.P.Port.received g.P.Port.sent _ _ _
            (passes_more g.P.Port.received g.P.Port.sent _ _ _ so_far.1.passed turn.0.passed so_far.3 turn.2),
        c.telling_goes_on.ensures.more _ _ _ so_far.1.events turn.0.events so_far.4 turn.3,
        λ keeps. left_alone g.K.KeepsSteps.keeps g.K.KeepsSteps.may_hold ended _ _ _ fault (c.in-Ok-Some.ensures.kept (so_far.5 keeps)),
      );
      cause = λ keeps. no_cause g.K.KeepsSteps.trusted g.K.KeepsSteps.faults _ _ _ ended fault;
      fails = λ error is. absurd (fault_keeps ended error fault is);
      counts = omega (arith, so_far.6, c.one_turn.ensures.counts);
      trust = λ trust. so_far.7 (c.one_turn.ensures.trust trust);
      file = c.one_turn.ensures.file ∙ so_far.8;
      ends = fault_kept ended fault;
    }

-- nothing of the last turn was sent
pub returns-in-Err : goal.returns-in-Err
returns-in-Err g c =
    let so_far = c.loop.invariant in
    let left = c.in-Err.ensures.err in
    let ended = c.in-Err.ended in
    record {
      turns = (
        c.loop.counter,
        so_far.1,
        _,
        left.0,
        so_far.2,
        left.1,
        so_far.0,
        λ done. absurd (unkept_no_end ended c.in-Err.ensures.fault done),
        passes_more g.P.Port.received g.P.Port.sent _ _ _ so_far.1.passed (record { received = left.0; sent = [] }) so_far.3 left.2,
        subst (λ log. Tells (g.L.Log.told c.args.log.now) (g.L.Log.told log) so_far.1.events) (sym left.3) so_far.4,
        λ keeps. c.in-Err.ensures.held (so_far.5 keeps),
      );
      cause = λ keeps.
          cause_since g.K.KeepsSteps.trusted g.K.KeepsSteps.faults _ _ _ _ _ ended so_far.6 (λ long. long) (c.in-Err.ensures.cause (so_far.5 keeps));
      fails = c.in-Err.ensures.fails;
      counts = omega (arith, so_far.6, c.one_turn.ensures.counts);
      trust = λ trust. so_far.7 (c.one_turn.ensures.trust trust);
      file = c.one_turn.ensures.file ∙ so_far.8;
      ends = unkept_kept ended c.in-Err.ensures.fault;
    }

pub returns : goal.returns
returns g c =
    let so_far = c.loop.invariant in
    record {
      turns = (
        c.loop.counter,
        so_far.1,
        _,
        [],
        so_far.2,
        as_it_was _,
        so_far.0,
        λ done. omega (arith, so_far.0, c.loop-test.false),
        passes_done g.P.Port.received g.P.Port.sent _ _ _ so_far.3,
        so_far.4,
        so_far.5,
      );
      cause = λ keeps. tt;
      fails = λ error is. absurd cc;
      counts = so_far.6;
      trust = so_far.7;
      file = so_far.8;
      ends = tt;
    }
