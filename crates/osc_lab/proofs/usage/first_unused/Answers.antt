use Rattle.std.proofs.Common.{◌≡◌, ◌∙◌, ◌+◌, ◌-◌, None, Some, ap, subst, sym}
use Rattle.std.specs.List.{position}
use Rattle.std.specs.Prelude.{not}
use Rattle.osc_lab.specs.{IsFirstUnused, is_used}
use Rattle.osc_lab.proofs.Used.{bad_is_first, of_first_lines, other_is_first, same_number}
use Rattle.osc_lab.proofs.usage.first_unused.Goals as goal

pub returns-in-None-clause-bad : goal.returns-in-None-clause-bad
returns-in-None-clause-bad c =
    let none : position (λ line. not (is_used line)) c.in-Ok.script ≡ None = ap (position (λ line. not (is_used line))) (sym c.lines.ensures) ∙ sym c.first_other.ensures ∙ c.in-None.is in
    λ n e. subst (IsFirstUnused c.args.bytes.now) (same_number c.args.number n e)
    (bad_is_first c.one_script.ensures c.args.bytes.now c.lines_before.result.now c.args.number c.in-Ok.script c.requires c.lines_before.ensures c.in-Ok.ensures.read none)

pub returns-in-Ok-clause-bad : goal.returns-in-Ok-clause-bad
returns-in-Ok-clause-bad c =
    let some : position (λ line. not (is_used line)) c.in-Ok.script ≡ Some c.in-Some.place =
    ap (position (λ line. not (is_used line))) (sym c.lines.ensures) ∙ sym c.first_other.ensures ∙ c.in-Some.is in
    λ n e. subst (IsFirstUnused c.args.bytes.now) (same_number (c.in-Some.place + 1) n e)
    (of_first_lines c.args.bytes.now c.lines_before.result.now (c.args.number - 1) (c.in-Some.place + 1) c.lines_before.ensures
    (other_is_first c.lines_before.result.now c.in-Ok.script c.in-Some.place c.in-Ok.ensures.read some))
