-- How options that are being merged are seen, and what they keep.
use Rattle.std.specs.Prelude.{List, [], ◌∷◌, Option, Some, None, option_map}
use Rattle.osc_coap.specs.{NumberAndValue}
use Rattle.osc_options.specs.declared.merging.Merged.TheInside.{Inside}
use Rattle.osc_options.specs.Split.{merge, AreInOrder}

-- the options of which the first was taken off; where there is no first, there are none
abbrev pub behind_front : Option NumberAndValue → List NumberAndValue → List NumberAndValue
behind_front None rest = []
behind_front (Some option) rest = option ∷ rest

-- the options that are left to go through, if any
abbrev pub left_of : Option (List NumberAndValue) → List NumberAndValue
left_of None = []
left_of (Some options) = options

abbrev pub outer_in : Inside → List NumberAndValue
outer_in m = behind_front (option_map (λ option. (option.0, option.1.now)) m.outer) m.outer_left

abbrev pub inner_in : Inside → List NumberAndValue
inner_in m = behind_front (option_map (λ option. (option.0, option.1.now)) m.inner) (left_of m.inner_left)

abbrev pub view : Inside → List NumberAndValue
view m = merge (outer_in m) (inner_in m)

pub record IsKept (m : Inside) : Type 0 where
  pub outer : AreInOrder 0 (outer_in m)
  pub inner : AreInOrder 0 (inner_in m)
