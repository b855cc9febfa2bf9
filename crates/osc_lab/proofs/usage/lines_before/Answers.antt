use Rattle.std.proofs.Common.{◌≡◌, ◌∙◌, ◌+◌, ◌-◌, ◌==◌, ℕ, ap, arith, subst, sym, take}
use Rattle.std.proofs.lemmas.List.{take_rest}
use Rattle.std.specs.List.{position}
use Rattle.osc_script.specs.{lines_of}
use Rattle.osc_lab.proofs.Used.{CutAt, all_cut, cut_more, cut_none, lines_cut}
use Rattle.osc_lab.proofs.usage.lines_before.Goals as goal

pub loop-init : goal.loop-init
loop-init c = record { some = omega arith; most = c.requires; cut = cut_none c.args.bytes.now }

pub loop-preserved : goal.loop-preserved
loop-preserved c =
    let so_far = c.loop.invariant in
    let next : c.loop.counter - 1 + 1 ≡ c.loop.counter + 1 - 1 = omega (arith, so_far.some) in
    record {
      some = omega (arith, so_far.some);
      most = omega (arith, c.loop-test.true);
      cut = subst (CutAt c.args.bytes.now (c.loop.at + (c.in-Some.end + 1))) next
          (cut_more c.args.bytes.now c.loop.at (c.loop.counter - 1) c.in-Some.end so_far.cut (ap (position (λ b. b == 10)) (sym (take_rest c.args.bytes.now c.loop.at)) ∙ sym c.line_end.ensures ∙ c.in-Some.is));
    }

pub returns-in-None : goal.returns-in-None
returns-in-None c =
    all_cut c.args.bytes.now c.loop.at (c.loop.counter - 1) (c.args.number - 1) c.loop.invariant.cut (ap (position (λ b. b == 10)) (sym (take_rest c.args.bytes.now c.loop.at)) ∙ sym c.line_end.ensures ∙ c.in-None.is)
    (omega (arith, c.loop.invariant.some, c.loop-test.true))

pub returns : goal.returns
returns c =
    let done : c.loop.counter - 1 ≡ c.args.number - 1 = omega (arith, c.loop.invariant.most, c.loop-test.false) in
    lines_cut c.args.bytes.now c.loop.at (c.loop.counter - 1) c.loop.invariant.cut ∙ ap (λ (k : ℕ). take k (lines_of c.args.bytes.now)) done
