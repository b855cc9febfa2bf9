-- AEAD algorithms by their numbers (RFC 9053 section 4.2).
use Rattle.std.specs.Prelude.{ℕ}
use Rattle.osc_model.specs.declared.algorithm.Algorithm.{Algorithm}
use Rattle.osc_model.specs.declared.algorithm.Algorithm.TheVariants.{EightByteTag, SixteenByteTag}

abbrev pub algorithm_number : Algorithm → ℕ
algorithm_number EightByteTag = 10
algorithm_number SixteenByteTag = 30
