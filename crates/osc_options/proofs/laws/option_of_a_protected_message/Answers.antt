use Rattle.std.proofs.Common.{◌≡◌, ℕ, false, List, [], ◌∷◌, Some, refl, inl, inr}
use Rattle.std.specs.Prelude.{filter, not, nat_lt, ◌==◌}
use Rattle.std.proofs.lemmas.Bool.{cases_Bool}
use Rattle.osc_coap.specs.{NumberAndValue}
use Rattle.osc_options.specs.{value, outer_options, of_class, merge}
use Rattle.osc_options.specs.declared.table.Class.TheVariants.{U}
use Rattle.osc_options.proofs.laws.option_of_a_protected_message.Goals as goal

-- none of these is OSCORE's own
abbrev NoneIsOwn : List NumberAndValue → Type 0
NoneIsOwn [] = Unit {0}
NoneIsOwn (option ∷ options) = ((option.0 == 9) ≡ false) × NoneIsOwn options

none_is_own : (options : List NumberAndValue) → NoneIsOwn (filter (λ option. not (option.0 == 9)) options)
none_is_own [] = tt
none_is_own (option ∷ options) =
    elim (cases_Bool (option.0 == 9)) [
      | inl own ↦ rw own (none_is_own options)
      | inr other ↦ rw other (other, none_is_own options)
    ]

value_among : (outer : List NumberAndValue) (bytes : List ℕ) → NoneIsOwn outer → value 9 (merge outer ((9, bytes) ∷ [])) ≡ Some bytes
value_among [] bytes others = refl
value_among (option ∷ outer) bytes others =
    elim (cases_Bool (nat_lt 9 option.0)) [
      | inl larger ↦ rw larger refl
      | inr other ↦ rw (other, others.0) (value_among outer bytes others.1)
    ]

pub returns : goal.returns
returns c = λ m code bytes payload. value_among (outer_options m.options) bytes (none_is_own (of_class U m.options))
