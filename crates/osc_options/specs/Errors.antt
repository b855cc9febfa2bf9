-- The numbers of the errors.
use Rattle.std.specs.Prelude.{ℕ}
use Rattle.osc_model.specs.Refusals as refusal
use Rattle.osc_options.specs.declared.error.PlaintextError.{PlaintextError}
use Rattle.osc_options.specs.declared.error.PlaintextError.TheVariants.{Format, BadOption, Memory}

abbrev pub number_of : PlaintextError → ℕ
number_of Format = refusal.format
number_of (BadOption number) = refusal.bad_option
number_of Memory = refusal.memory
