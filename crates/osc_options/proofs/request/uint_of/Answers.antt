use Rattle.std.proofs.Common.{◌≡◌, ◌≤◌, ℕ, List, length, Option, ap, sym, subst, ◌∙◌}
use Rattle.std.specs.Prelude.{IfSome}
use Rattle.std.specs.Option.{option_map}
use Rattle.osc_options.specs.{recognised, value}
use Rattle.osc_options.proofs.RecognisedLaws.{value_within}
use Rattle.osc_options.proofs.request.uint_of.Goals as goal

pub uint-requires : goal.uint-requires
uint-requires c =
    let short = value_within c.args.number 2 0 c.args.options.now c.requires in
    let known : c.recognised_options.result ≡ recognised 0 c.args.options.now = c.recognised_options.ensures ∙ ap (recognised 0) c.rest.ensures in
    subst (λ (found : Option (List ℕ)). IfSome found (λ bytes. length bytes ≤ 2)) (sym (c.first_value.ensures ∙ ap (value c.args.number) known) ∙ ap (option_map (λ value. value.now)) c.in_ok-value.was) short
