use Rattle.std.proofs.Common.{length, refl, ap, arith}
use Rattle.std.proofs.lemmas.List.{length-append}
use Rattle.osc_coap.specs.{option_spelling}
use Rattle.osc_coap.proofs.BuildLaws.{short_spelling, short_appended}
use Rattle.osc_coap.proofs.body.push_short.Goals as goal

pub returns-then-remaining_capacity-size-clause-variant : goal.returns-then-remaining_capacity-size-clause-variant
returns-then-remaining_capacity-size-clause-variant c =
    let whole = length-append c.args.out.now.items (option_spelling c.args.before (c.args.number, c.args.value.now)) in
    let size = ap length (short_spelling c.args.before c.args.number c.args.value.now c.requires.delta c.requires.size) in
    (λ e. absurd cc, λ fits. absurd (omega (arith, whole, size)))

pub returns-clause-variant : goal.returns-clause-variant
returns-clause-variant c =
    let whole = length-append c.args.out.now.items (option_spelling c.args.before (c.args.number, c.args.value.now)) in
    let size = ap length (short_spelling c.args.before c.args.number c.args.value.now c.requires.delta c.requires.size) in
    (λ e. omega (arith, whole, size), λ fits. refl)

pub returns-clause-ok : goal.returns-clause-ok
returns-clause-ok c =
    rw (c.append.ensures, c.push.ensures.items) (short_appended c.args.out.now.items c.args.before c.args.number c.args.value.now c.requires.delta c.requires.size)
