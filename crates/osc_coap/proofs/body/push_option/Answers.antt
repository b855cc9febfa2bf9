use Rattle.std.proofs.Common.{◌≡◌, ◌-◌, length, refl, ap, ◌∙◌, arith}
use Rattle.std.proofs.lemmas.List.{length-append}
use Rattle.osc_coap.specs.{extension, option_spelling}
use Rattle.osc_coap.proofs.LengthLaws.{length-extension, length-option_spelling}
use Rattle.osc_coap.proofs.BuildLaws.{option_appended}
use Rattle.osc_coap.proofs.body.push_option.Goals as goal

pub returns-then-room-value-clause-variant : goal.returns-then-room-value-clause-variant
returns-then-room-value-clause-variant c =
    let whole = length-append c.args.out.now.items (option_spelling c.args.before (c.args.number, c.args.value.now)) in
    let size = length-option_spelling c.args.before (c.args.number, c.args.value.now) in
    (λ e. absurd cc, λ fits. absurd (omega (arith, whole, size)))

pub returns-then-room-len-clause-variant : goal.returns-then-room-len-clause-variant
returns-then-room-len-clause-variant c =
    let whole = length-append c.args.out.now.items (option_spelling c.args.before (c.args.number, c.args.value.now)) in
    let size = length-option_spelling c.args.before (c.args.number, c.args.value.now) in
    let delta = ap length c.extension_of-delta_extension.ensures.value ∙ length-extension (c.args.number - c.args.before) in
    let value = ap length c.extension_of-size_extension.ensures.value ∙ length-extension (length c.args.value.now) in
    (λ e. absurd cc, λ fits. absurd (omega (arith, whole, size, delta, value)))

pub returns-clause-variant : goal.returns-clause-variant
returns-clause-variant c =
    let whole = length-append c.args.out.now.items (option_spelling c.args.before (c.args.number, c.args.value.now)) in
    let size = length-option_spelling c.args.before (c.args.number, c.args.value.now) in
    let delta = ap length c.extension_of-delta_extension.ensures.value ∙ length-extension (c.args.number - c.args.before) in
    let value = ap length c.extension_of-size_extension.ensures.value ∙ length-extension (length c.args.value.now) in
    (λ e. omega (arith, whole, size, delta, value), λ fits. refl)

pub returns-clause-ok : goal.returns-clause-ok
returns-clause-ok c =
    let start = option_appended c.args.out.now.items c.args.before c.args.number c.args.value.now in
    let delta : c.deref.result.now ≡ extension (c.args.number - c.args.before) = c.deref.ensures.0 ∙ c.extension_of-delta_extension.ensures.value in
    let value : c.deref-2.result.now ≡ extension (length c.args.value.now) = c.deref-2.ensures.0 ∙ c.extension_of-size_extension.ensures.value in
    rw (c.append-3.ensures, c.append-2.ensures, value, c.append.ensures, delta, c.push.ensures.items, c.nibble_of.ensures.value, c.nibble_of-2.ensures.value) start
