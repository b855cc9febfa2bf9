-- The numbers of the errors.
use Rattle.std.specs.Prelude.{ℕ}
use Rattle.osc_model.specs.Refusals as refusal
use Rattle.osc_coap.specs.declared.error.ParseError.{ParseError}
use Rattle.osc_coap.specs.declared.error.ParseError.TheVariants.{Version, Format}

abbrev pub number_of : ParseError → ℕ
number_of Version = refusal.version
number_of Format = refusal.format
