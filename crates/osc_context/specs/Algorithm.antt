-- The AEAD algorithm of a security context (RFC 8613 section 3.2).
use Rattle.osc_model.specs.declared.algorithm.Algorithm.{Algorithm}
use Rattle.osc_model.specs.declared.context.ContextName.{ContextName}

-- the name tells it
abbrev pub algorithm_of : ContextName → Algorithm
algorithm_of name = name.alg
