use Rattle.std.proofs.Common.{◌++◌, ◌≤◌, List, ℕ, length, take, map, sym, ap, ◌∙◌, arith}
use Rattle.std.proofs.lemmas.Bool.Decides.{nat_tests}
use Rattle.std.proofs.lemmas.List.{length-map}
use Rattle.osc_options.specs.{values}
use Rattle.osc_options.proofs.OnePassLaws.{nine, values_same}
use Rattle.osc_options.proofs.fields.add_segment.Goals as goal

pub returns-then-is_full : goal.returns-then-is_full
returns-then-is_full c =
    let items = c.args.segments.now.items in
    let full : 9 ≤ length items = grind (arith, nat_tests) in
    λ rest.
    nine (map (λ s. s.now) items) (values 11 rest) c.args.value.now (omega (arith, full, length-map items (λ s. s.now)))
    ∙ ap (λ (more : List (List ℕ)). take 9 (map (λ s. s.now) items ++ more)) (sym (values_same 11 c.args.number c.args.value.now rest c.if-number-ne-URI_PATH.false))
