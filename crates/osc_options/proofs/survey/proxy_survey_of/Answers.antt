use Rattle.std.proofs.Common.{◌≡◌, ◌≤◌, ℕ, List, length, Option, rules, sym, subst, arith}
use Rattle.std.specs.Prelude.{IfSome}
use Rattle.std.specs.Option.{option_map}
use Rattle.osc_options.specs.{recognised, value}
use Rattle.osc_options.proofs.OnePassLaws.{shown_within}
use Rattle.osc_options.proofs.RecognisedLaws.{value_within}
use Rattle.osc_options.proofs.survey.proxy_survey_of.Goals as goal

pub returns-clause-port_length : goal.returns-clause-port_length
returns-clause-port_length c =
    let found : option_map (λ v. v.now) c.loop-number.named.uri_port ≡ value 7 (recognised 0 c.args.message.now.options) = search rules in
    shown_within (λ v. v.now) c.loop-number.named.uri_port
    (subst (λ (found : Option (List ℕ)). IfSome found (λ bytes. length bytes ≤ 2)) (sym found) (value_within 7 2 0 c.args.message.now.options (omega arith)))
