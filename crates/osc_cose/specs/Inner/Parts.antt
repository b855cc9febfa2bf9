-- The parts of an object, taken out of its item. No public contract rests on this.
use Rattle.std.specs.Prelude.{ℕ, List, Option, Some, None, option_and_then}
use Rattle.osc_cbor.specs.{DataItem, Items, no_items, item, as_bytes, as_array, as_map}
use Rattle.osc_cose.specs.declared.encrypt0.Encrypt0.{Encrypt0}

-- the items of an array of three
abbrev pub three_of : Items → Option (DataItem × (DataItem × DataItem))
three_of (item a (item b (item c no_items))) = Some (a, (b, c))
three_of _ = None

-- a byte string, a map and a byte string
abbrev pub typed : DataItem × (DataItem × DataItem) → Option (List ℕ × (DataItem × List ℕ))
typed (a, (b, c)) =
    option_and_then (λ protected. option_and_then (λ pairs. option_and_then (λ ciphertext. Some (protected, (b, ciphertext))) (as_bytes c)) (as_map b)) (as_bytes a)

abbrev pub parts_of : DataItem → Option (List ℕ × (DataItem × List ℕ))
parts_of d = option_and_then typed (option_and_then three_of (as_array d))

-- the object of these parts
abbrev pub object_of_parts : List ℕ → Option (List ℕ) → Option (List ℕ) → List ℕ → Encrypt0
object_of_parts protected kid iv ciphertext = record { protected = protected; kid = kid; iv = iv; ciphertext = ciphertext }
