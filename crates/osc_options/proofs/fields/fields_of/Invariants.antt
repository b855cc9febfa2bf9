use Rattle.std.proofs.Common.{◌≡◌, ◌++◌, map, take}
use Rattle.std.specs.Option.{option_map, option_or}
use Rattle.osc_options.specs.{value, values}
use Rattle.osc_options.proofs.fields.fields_of.Given as goal

-- with those that are left, the values are those of all
abbrev pub invariant-loop-number : goal.invariant-loop-number
invariant-loop-number l = record {
  segments : take 9 (map (λ s. s.now) l.fields.segments.items ++ values 11 l.number-iterator) ≡ take 9 (values 11 l.fn.options);
  tags : l.fields.if_match ++ values 1 l.number-iterator ≡ values 1 l.fn.options;
  format : option_or (option_map (λ v. v.now) l.fields.format) (value 12 l.number-iterator) ≡ value 12 l.fn.options;
  accept : option_or (option_map (λ v. v.now) l.fields.accept) (value 17 l.number-iterator) ≡ value 17 l.fn.options;
  none_match : option_or (option_map (λ v. v.now) l.fields.if_none_match) (value 5 l.number-iterator) ≡ value 5 l.fn.options;
}
