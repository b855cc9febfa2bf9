-- What a device rules of the tokens of an id.
use Rattle.std.specs.Prelude.{Option, Some, None, Result, Ok, Err}
use Rattle.osc_model.specs.declared.code.Method.{Method}
use Rattle.osc_model.specs.declared.code.Method.TheVariants.{Delete, Put}
use Rattle.osc_device.specs.declared.round.Round.{Round}
use Rattle.osc_device.specs.declared.ruling.Ruled.{Ruled}
use Rattle.osc_device.specs.declared.ruling.Ruling.{Ruling}
use Rattle.osc_device.specs.declared.ruling.Ruling.TheVariants.{Allow, Revoke}

-- by which method: a resource at the path of the id revokes its tokens
abbrev pub method_of : Ruling → Method
method_of Revoke = Put
method_of Allow = Delete

-- the round of what came of a ruling
abbrev pub round_of : {E : Type 0} → Result (Option Ruled) E → Result (Option Round) E
round_of (Ok (Some ruled)) = Ok (Some ruled.round)
round_of (Ok None) = Ok None
round_of (Err error) = Err error
