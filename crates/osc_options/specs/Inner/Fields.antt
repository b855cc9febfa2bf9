-- The values that a request is made of, as they are found in one pass over options. No public contract rests on this.
use Rattle.std.specs.Prelude.{◌≡◌, ℕ, List, Option, Some, None, take, map}
use Rattle.std.specs.Option.{option_map}
use Rattle.osc_coap.specs.{NumberAndValue}
use Rattle.osc_options.specs.declared.error.PlaintextError.{PlaintextError}
use Rattle.osc_options.specs.declared.error.PlaintextError.TheVariants.{BadOption, Memory}
use Rattle.osc_options.specs.declared.fields.Fields.{Fields}
use Rattle.osc_options.specs.Requests.{value, values}

-- they are the values of these options; of the segments, the first nine
pub record AreFieldsOf (options : List NumberAndValue) (fields : Fields) : Type 0 where
  pub segments : take 9 (map (λ s. s.now) fields.segments.items) ≡ take 9 (values 11 options)
  pub format : option_map (λ v. v.now) fields.format ≡ value 12 options
  pub accept : option_map (λ v. v.now) fields.accept ≡ value 17 options
  pub tags : fields.if_match ≡ values 1 options
  pub none_match : option_map (λ v. v.now) fields.if_none_match ≡ value 5 options

-- why a plaintext of which no more can be read without memory is no request: an option, or memory
abbrev pub without_memory : Option ℕ → PlaintextError
without_memory None = Memory
without_memory (Some number) = BadOption number
