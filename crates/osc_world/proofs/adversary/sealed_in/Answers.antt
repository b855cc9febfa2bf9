use Rattle.std.proofs.Common.{◌≡◌, ◌+◌, ◌≤◌, ◌∙◌, ℕ, List, length, refl, arith, ap, subst, take}
use Rattle.std.proofs.lemmas.List.{length-take-le}
use Rattle.osc_model.specs.declared.algorithm.Algorithm.{Algorithm}
use Rattle.osc_coap.specs.{spelling}
use Rattle.osc_context.specs.{algorithm_of}
use Rattle.osc_options.specs.{protected}
use Rattle.osc_protect.specs.{longest_message, request_value}
use Rattle.osc_world.proofs.Lies.{least_sealed, no_seal, sealed_length_is}
use Rattle.osc_world.proofs.adversary.sealed_in.Goals as goal

pub returns-in_default-clause-fits : goal.returns-in_default-clause-fits
returns-in_default-clause-fits g c =
    let name = c.args.name.now in
    let tag = g.A.Ciphers.TAG (algorithm_of name) in
    let least = least_sealed c.length_of_growing.ensures.payload c.args.message.now 2 (request_value name c.args.number) (length c.args.text.now + tag) in
    let same = ap (λ (a : Algorithm). length c.args.text.now + g.A.Ciphers.TAG a) c.algorithm_of.ensures in (
      λ no. cc,
      λ fits. absurd (no_seal c.in_default.field-0 (length c.args.text.now) (length c.as_slice.result.now) (g.A.Ciphers.TAG c.algorithm_of.result) 1152
          c.in_default.ensures.too_long c.in_default.ensures.out_too_small (omega (arith, c.associated_data-aad.ensures.short, ap length c.as_slice.ensures)) refl (omega (arith, least, fits, same))),
    )

pub returns-in-Ok-write_protected-clause-fits : goal.returns-in-Ok-write_protected-clause-fits
returns-in-Ok-write_protected-clause-fits g c =
    let name = c.args.name.now in
    let tag = g.A.Ciphers.TAG (algorithm_of name) in
    let sealed = take c.in-Ok.size c.seal.new.out in
    let value : c.as_slice-2.result.now ≡ request_value name c.args.number = c.as_slice-2.ensures.value ∙ c.request_option-value.ensures in
    let size : length sealed ≡ length c.args.text.now + tag = length-take-le c.in-Ok.size c.seal.new.out c.in-Ok.ensures.count.1 ∙ (c.in-Ok.ensures.count.0 ∙ ap (λ (a : Algorithm). length c.args.text.now + g.A.Ciphers.TAG a) c.algorithm_of.ensures) in
    let same = sealed_length_is c.length_of_growing.ensures.payload c.args.message.now 2 (request_value name c.args.number) sealed (length c.args.text.now + tag) size in
    let written : length (spelling (protected c.args.message.now 2 (request_value name c.args.number) sealed)) ≤ longest_message =
    subst (λ (v : List ℕ). length (spelling (protected c.args.message.now 2 v sealed)) ≤ longest_message) value (c.in-Ok-write_protected.ensures.fits.0 refl) in
    (λ yes. omega (arith, written, same), λ fits. refl)

pub returns-clause-fits : goal.returns-clause-fits
returns-clause-fits g c =
    let name = c.args.name.now in
    let tag = g.A.Ciphers.TAG (algorithm_of name) in
    let sealed = take c.in-Ok.size c.seal.new.out in
    let value : c.as_slice-2.result.now ≡ request_value name c.args.number = c.as_slice-2.ensures.value ∙ c.request_option-value.ensures in
    let size : length sealed ≡ length c.args.text.now + tag = length-take-le c.in-Ok.size c.seal.new.out c.in-Ok.ensures.count.1 ∙ (c.in-Ok.ensures.count.0 ∙ ap (λ (a : Algorithm). length c.args.text.now + g.A.Ciphers.TAG a) c.algorithm_of.ensures) in
    let same = sealed_length_is c.length_of_growing.ensures.payload c.args.message.now 2 (request_value name c.args.number) sealed (length c.args.text.now + tag) size in (
      λ no. cc,
      λ fits.
          let short : length (spelling (protected c.args.message.now 2 (request_value name c.args.number) sealed)) ≤ longest_message = omega (arith, same, fits) in
          cc (c.in-Err.ensures.fits.1 (rw value short)),
    )
