-- When a request that was served is a wish that the lock tries.
use Rattle.std.specs.Prelude.{◌≡◌, ◌⊎◌, ℕ, List, [], Option, Some, None}
use Rattle.osc_model.specs.declared.code.Code.{Code}
use Rattle.osc_model.specs.declared.code.Method.TheVariants.{Put}
use Rattle.osc_device.specs.{Holder, ServedRequest}
use Rattle.osc_example.specs.Inner.Bolt.{wanted_word}
use Rattle.osc_example.specs.Inner.Place.{text_of}
use Rattle.osc_example.specs.declared.bolt.Wanted.{Wanted as AnyWanted}
use Rattle.osc_example.specs.declared.place.Place.TheVariants.{Wanted}

-- 2.01 or 2.04: a request may be served and answered that it couldn't
abbrev pub IsDone : Code → Type 0
IsDone code = (code.0 ≡ 65) ⊎ (code.0 ≡ 68)

-- a PUT of a word that the lock knows to `/lock/wanted`, which was done
pub record IsWish (served : ServedRequest) (wanted : AnyWanted) : Type 0 where
  pub method : served.method ≡ Some Put
  pub path : served.path ≡ Some (text_of Wanted)
  pub payload : served.payload ≡ wanted_word wanted
  pub done : IsDone served.reply.code

-- the kid context of a request, or no bytes where it has none
abbrev pub name_in : Option (List ℕ) → List ℕ
name_in (Some name) = name
name_in None = []
