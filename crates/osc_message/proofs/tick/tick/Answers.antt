use Rattle.std.proofs.Common.{◌≡◌, false, length, ap, sym, ◌∙◌}
use Rattle.osc_message.specs.{messages, acts, slowed}
use Rattle.osc_message.proofs.Idle.{idle_repeats, idle_sends, idle_gives_up, idle_ticked}
use Rattle.osc_message.proofs.tick.tick.Goals as goal

idle : (c : goal.After-nothing) → acts c.args.pace.now c.args.now (messages c.args.sending.now.items) ≡ false
idle c = ap (λ xs. acts c.args.pace.now c.args.now (messages xs)) (sym c.deref.ensures.value) ∙ sym c.is_due.ensures ∙ c.if-is_due.false

pub returns-else-is_due-clause-out : goal.returns-else-is_due-clause-out
returns-else-is_due-clause-out c =
    rw c.nothing.ensures.lost (c.nothing.ensures.out ∙ sym (idle_sends c.args.pace.now c.args.now (messages c.args.sending.now.items) (idle c)))

pub returns-else-is_due-clause-given_up : goal.returns-else-is_due-clause-given_up
returns-else-is_due-clause-given_up c = c.nothing.ensures.given_up ∙ sym (ap length (idle_gives_up c.args.pace.now c.args.now (messages c.args.sending.now.items) (idle c)))

pub returns-else-is_due-clause-items : goal.returns-else-is_due-clause-items
returns-else-is_due-clause-items c = sym (idle_ticked c.args.pace.now c.args.now (messages c.args.sending.now.items) (idle c))

pub returns-else-is_due-clause-pace : goal.returns-else-is_due-clause-pace
returns-else-is_due-clause-pace c =
    sym (ap (λ peers. slowed peers c.args.pace.now) (idle_repeats c.args.pace.now c.args.now (messages c.args.sending.now.items) (idle c)))
