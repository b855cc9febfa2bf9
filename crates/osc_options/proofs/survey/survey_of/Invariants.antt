use Rattle.std.proofs.Common.{◌≡◌, ◌==◌, ◌||◌}
use Rattle.std.specs.List.{list_any}
use Rattle.std.specs.Option.{option_map, option_or}
use Rattle.osc_options.specs.{unrecognised_critical, value}
use Rattle.osc_options.proofs.survey.survey_of.Given as goal

-- with those that are left, what is known is what all say
abbrev pub invariant-loop-number : goal.invariant-loop-number
invariant-loop-number l = record {
  critical : option_or l.critical (unrecognised_critical l.behind l.number-iterator) ≡ unrecognised_critical 0 l.message.options;
  oscore : option_or (option_map (λ v. v.now) l.oscore) (value 9 l.number-iterator) ≡ value 9 l.message.options;
  has_uri : (l.has_uri || list_any (λ option. option.0 == 35) l.number-iterator) ≡ list_any (λ option. option.0 == 35) l.message.options;
  has_scheme : (l.has_scheme || list_any (λ option. option.0 == 39) l.number-iterator) ≡ list_any (λ option. option.0 == 39) l.message.options;
}
