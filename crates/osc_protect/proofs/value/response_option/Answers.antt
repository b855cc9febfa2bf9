use Rattle.std.proofs.Common.{sym, ap, ◌∙◌}
use Rattle.osc_protect.specs.{response_value}
use Rattle.osc_protect.proofs.ValueWriting.{response_value-some, response_value-none}
use Rattle.osc_protect.proofs.value.response_option.Goals as goal

pub returns-in-Some : goal.returns-in-Some
returns-in-Some c =
    rw (c.append.ensures, c.push.ensures.items, c.new-out.ensures, c.deref.ensures.0, c.len.ensures.value, c.partial_iv_of-partial_iv.ensures.value, c.in-Some.is) (sym (response_value-some c.in-Some.number))

pub returns-in_default : goal.returns-in_default
returns-in_default c = c.new-out.ensures ∙ sym (ap response_value c.in_default.is ∙ response_value-none)
