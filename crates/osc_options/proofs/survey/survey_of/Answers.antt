use Rattle.std.proofs.Common.{◌==◌, ◌||◌, List, ap, sym, ◌∙◌}
use Rattle.std.specs.List.{list_any}
use Rattle.std.specs.Option.{option_map, option_or}
use Rattle.osc_coap.specs.{NumberAndValue}
use Rattle.osc_options.specs.{unrecognised_critical, value}
use Rattle.osc_options.proofs.survey.survey_of.Goals as goal

pub loop-number-preserved : goal.loop-number-preserved
loop-number-preserved c =
    let before = c.loop-number in
    let steps = c.in-Some.ensures.steps in
    record {
      critical = c.first_critical-critical.ensures c.next.new.self
          ∙ ap (λ (options : List NumberAndValue). option_or before.critical (unrecognised_critical before.behind options)) (sym steps) ∙ before.invariant.critical;
      oscore = c.first_of-oscore.ensures c.next.new.self
          ∙ ap (λ (options : List NumberAndValue). option_or (option_map (λ v. v.now) before.oscore) (value 9 options)) (sym steps) ∙ before.invariant.oscore;
      has_uri = c.any_of-has_uri.ensures c.in-Some.value.now c.next.new.self
          ∙ ap (λ (options : List NumberAndValue). before.has_uri || list_any (λ option. option.0 == 35) options) (sym steps) ∙ before.invariant.has_uri;
      has_scheme = c.any_of-has_scheme.ensures c.in-Some.value.now c.next.new.self
          ∙ ap (λ (options : List NumberAndValue). before.has_scheme || list_any (λ option. option.0 == 39) options) (sym steps) ∙ before.invariant.has_scheme;
    }
