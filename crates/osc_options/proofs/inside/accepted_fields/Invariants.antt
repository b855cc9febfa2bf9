use Rattle.std.proofs.Common.{◌≡◌, ◌++◌, map, take}
use Rattle.std.specs.Option.{option_map, option_or}
use Rattle.osc_options.specs.{refused_option, recognised, value, values}
use Rattle.osc_options.proofs.inside.accepted_fields.Given as goal

-- with those that are left, the values are those of all
abbrev pub invariant-loop-number : goal.invariant-loop-number
invariant-loop-number l = record {
  refused_option : refused_option l.before l.number-iterator ≡ refused_option 0 l.plaintext.options;
  segments : take 9 (map (λ s. s.now) l.fields.segments.items ++ values 11 (recognised l.before l.number-iterator)) ≡ take 9 (values 11 (recognised 0 l.plaintext.options));
  tags : l.fields.if_match ++ values 1 (recognised l.before l.number-iterator) ≡ values 1 (recognised 0 l.plaintext.options);
  format : option_or (option_map (λ v. v.now) l.fields.format) (value 12 (recognised l.before l.number-iterator)) ≡ value 12 (recognised 0 l.plaintext.options);
  accept : option_or (option_map (λ v. v.now) l.fields.accept) (value 17 (recognised l.before l.number-iterator)) ≡ value 17 (recognised 0 l.plaintext.options);
  none_match : option_or (option_map (λ v. v.now) l.fields.if_none_match) (value 5 (recognised l.before l.number-iterator)) ≡ value 5 (recognised 0 l.plaintext.options);
}
