-- The numbers of the refusals.
use Rattle.std.specs.Prelude.{ℕ}
use Rattle.osc_model.specs.Refusals as refusal
use Rattle.osc_context.specs.declared.error.DeriveError.{DeriveError}
use Rattle.osc_context.specs.declared.error.DeriveError.TheVariants.{IdTooLong, EqualIds, Memory}

abbrev pub number_of : DeriveError → ℕ
number_of IdTooLong = refusal.id_too_long
number_of EqualIds = refusal.equal_ids
number_of Memory = refusal.memory
