use Rattle.std.proofs.Common.{◌≡◌, ◌||◌}
use Rattle.std.specs.Option.{option_map, option_or}
use Rattle.osc_options.specs.{has_unrecognised_unsafe, recognised, value}
use Rattle.osc_options.proofs.survey.proxy_survey_of.Given as goal

-- with those that are left, what is known is what all say
abbrev pub invariant-loop-number : goal.invariant-loop-number
invariant-loop-number l = record {
  cannot_go : (l.cannot_go || has_unrecognised_unsafe l.before l.number-iterator) ≡ has_unrecognised_unsafe 0 l.message.options;
  host : option_or (option_map (λ v. v.now) l.named.uri_host) (value 3 (recognised l.before l.number-iterator)) ≡ value 3 (recognised 0 l.message.options);
  port : option_or (option_map (λ v. v.now) l.named.uri_port) (value 7 (recognised l.before l.number-iterator)) ≡ value 7 (recognised 0 l.message.options);
  uri : option_or (option_map (λ v. v.now) l.named.proxy_uri) (value 35 (recognised l.before l.number-iterator)) ≡ value 35 (recognised 0 l.message.options);
  scheme : option_or (option_map (λ v. v.now) l.named.proxy_scheme) (value 39 (recognised l.before l.number-iterator)) ≡ value 39 (recognised 0 l.message.options);
}
