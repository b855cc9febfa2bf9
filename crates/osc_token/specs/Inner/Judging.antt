-- How far claims pass the checks, by their item. No public contract rests on this.
use Rattle.std.specs.Prelude.{◌≡◌, ℕ, List, Some, option_and_then}
use Rattle.osc_model.specs.{HasBegun, IsNotOver}
use Rattle.osc_model.specs.declared.node.Moment.{Moment}
use Rattle.osc_cbor.specs.{DataItem, text_string, as_bytes, value}
use Rattle.osc_token.specs.Inner.Reading.{dates_in, material_in}
use Rattle.osc_token.specs.declared.claims.InputMaterial.{InputMaterial}
use Rattle.osc_token.specs.declared.judging.Dates.{Dates}

-- in their time, for this audience, and with this input material
pub record AreBound (d : DataItem) (audience : List ℕ) (now : Moment) (dates : Dates) (material : InputMaterial) : Type 0 where
  pub dates_are : dates_in d ≡ Some dates
  pub begun : HasBegun dates.not_before now
  pub not_over : IsNotOver dates.expires now
  pub addressed : value 3 d ≡ Some (text_string audience)
  pub material_is : material_in d ≡ Some material

-- and with a byte string for a scope
pub record IsGranting (d : DataItem) (audience : List ℕ) (now : Moment) : Type 0 where
  pub dates : Dates
  pub material : InputMaterial
  pub bytes : List ℕ
  pub bound : AreBound d audience now dates material
  pub scope : option_and_then as_bytes (value 9 d) ≡ Some bytes
