use Rattle.std.proofs.Common.{◌≡◌, ◌∙◌, ◌+◌, Some, ap, subst, sym}
use Rattle.std.specs.List.{position}
use Rattle.std.specs.Prelude.{not}
use Rattle.osc_lab.specs.{IsFirstUnused, is_used}
use Rattle.osc_lab.proofs.Used.{all_used, other_is_first, same_number}
use Rattle.osc_lab.proofs.usage.lab_script.Goals as goal

pub returns-in-None-clause-puts : goal.returns-in-None-clause-puts
returns-in-None-clause-puts c = c.a_script_fits.ensures c.args.bytes.now c.in-Ok.script c.in-Ok.ensures.read

pub returns-in-None-clause-used : goal.returns-in-None-clause-used
returns-in-None-clause-used c =
    all_used c.in-Ok.script (ap (position (λ line. not (is_used line))) (sym c.lines.ensures) ∙ sym c.first_other.ensures ∙ c.in-None.is)

pub returns-in-Some-clause-bad : goal.returns-in-Some-clause-bad
returns-in-Some-clause-bad c =
    let some : position (λ line. not (is_used line)) c.in-Ok.script ≡ Some c.in-Some.place =
    ap (position (λ line. not (is_used line))) (sym c.lines.ensures) ∙ sym c.first_other.ensures ∙ c.in-Some.is in
    λ n e. subst (IsFirstUnused c.args.bytes.now) (same_number (c.in-Some.place + 1) n e)
    (other_is_first c.args.bytes.now c.in-Ok.script c.in-Some.place c.in-Ok.ensures.read some)
