use Rattle.std.proofs.Common.{◌≡◌, ℕ, ◌==◌}
use Rattle.std.specs.List.{list_any}
use Rattle.osc_coap.specs.{AreOptions}
use Rattle.osc_options.proofs.recognised.has_option.Given as goal

abbrev pub invariant-loop-other : goal.invariant-loop-other
invariant-loop-other l = record {
  there : list_any (λ option. option.0 == l.number) l.other-iterator ≡ list_any (λ option. option.0 == l.number) l.message.options;
  order : (before : ℕ) × AreOptions before l.other-iterator;
}
