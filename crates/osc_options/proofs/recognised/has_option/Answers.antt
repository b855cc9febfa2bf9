use Rattle.std.proofs.Common.{◌==◌, List, sym, ap, subst, ◌∙◌}
use Rattle.std.specs.List.{list_any}
use Rattle.osc_coap.specs.{NumberAndValue, AreOptions}
use Rattle.osc_options.proofs.OnePassLaws.{first_tells}
use Rattle.osc_options.proofs.recognised.has_option.Goals as goal

pub returns-then-other-number : goal.returns-then-other-number
returns-then-other-number c =
    let left = c.loop-other.invariant.order in
    let order = subst (λ (options : List NumberAndValue). AreOptions left.0 options) c.in-Some.ensures.steps left.1 in
    first_tells c.args.number c.in-Some.other c.in-Some.field-0-1.now c.next.new.self order.1 c.if-other-number.true
    ∙ ap (list_any (λ (option : NumberAndValue). option.0 == c.args.number)) (sym c.in-Some.ensures.steps)
    ∙ c.loop-other.invariant.there
