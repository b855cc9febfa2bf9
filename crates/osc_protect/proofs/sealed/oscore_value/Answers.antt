use Rattle.std.proofs.Common.{List, sym, ap, subst, ◌∙◌}
use Rattle.osc_coap.specs.{NumberAndValue, AreOptions}
use Rattle.osc_options.specs.{value}
use Rattle.osc_protect.proofs.OrderLaws.{no_value_from}
use Rattle.osc_protect.proofs.sealed.oscore_value.Goals as goal

pub returns-then-number-gt-OSCORE : goal.returns-then-number-gt-OSCORE
returns-then-number-gt-OSCORE c =
    let left = c.loop-number.invariant.order in
    let order = subst (λ (options : List NumberAndValue). AreOptions left.0 options) c.in-Some.ensures.steps left.1 in
    sym (no_value_from 9 c.in-Some.number c.in-Some.value.now c.next.new.self order.1 c.if-number-gt-OSCORE.true)
    ∙ ap (value 9) (sym c.in-Some.ensures.steps)
    ∙ c.loop-number.invariant.found
