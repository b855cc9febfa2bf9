use Rattle.std.proofs.Common.{◌∙◌, ◌+◌, arith, subst, sym}
use Rattle.osc_script.specs.Inner.Place.{IsPlace}
use Rattle.osc_script.proofs.Scripts.{bad_at, bad_is, next_at}
use Rattle.osc_script.proofs.read.read_lines.Goals as goal

pub returns-in_default-clause-bad : goal.returns-in_default-clause-bad
returns-in_default-clause-bad c = λ n e.
    let nothing = rw (c.in_default.is, c.deref.ensures.value) at c.in_ok-line.ensures.found in
    bad_at c.args.texts.now c.loop-text.text-index _ c.loop-text.lines.items n c.loop-text-test.true nothing (bad_is (c.len.result + 1) n e ∙ omega (arith, c.len.ensures, c.loop-text.lines.ok.0)) c.loop-text.invariant.lines

pub loop-text-preserved : goal.loop-text-preserved
loop-text-preserved c =
    let stands = rw (c.in-Some.is, c.deref.ensures.value) at c.in_ok-line.ensures.found in
    let place = rw (c.in-Some.is, c.deref.ensures.value) at c.in_ok-line.ensures.place in
    record {
      lines = next_at c.args.texts.now c.loop-text.text-index _ c.loop-text.lines.items c.push.new.self.items c.in-Some.line c.loop-text-test.true stands c.in_ok-push.ensures.items c.loop-text.invariant.lines;
      place = subst (λ lines. IsPlace lines c.next_line.new.place) (sym c.in_ok-push.ensures.items) place;
    }
