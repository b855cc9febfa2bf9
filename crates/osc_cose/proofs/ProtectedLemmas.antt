-- Protected headers, and what they name.
use Rattle.std.proofs.Common.{◌≡◌, ◌≢◌, ℕ, false, List, [], length, Some, sym, ap, ◌∙◌, nat_eq}
use Rattle.std.proofs.lemmas.Bool.{false≢true}
use Rattle.osc_cbor.specs.{Pairs, DataItem, unsigned, negative, byte_string, text_string, array, map, tag, bool, null, value, IsWhole}
use Rattle.osc_cose.specs.{IsProtected, NamesAlgorithm}

pub names_from_value : (bytes : List ℕ) (d : DataItem) → IsWhole bytes d → value 1 d ≡ Some (unsigned 10) → NamesAlgorithm bytes
names_from_value bytes (map ps) w e = NamesAlgorithm.named ps w e
names_from_value bytes (unsigned n) w e = cc
names_from_value bytes (negative n) w e = cc
names_from_value bytes (byte_string b) w e = cc
names_from_value bytes (text_string b) w e = cc
names_from_value bytes (array ds) w e = cc
names_from_value bytes (tag n d) w e = cc
names_from_value bytes (bool b) w e = cc
names_from_value bytes null w e = cc

pub value_from_names : (bytes : List ℕ) (d : DataItem) → ((e : DataItem) → IsWhole bytes e → d ≡ e) → bytes ≢ [] → NamesAlgorithm bytes → value 1 d ≡ Some (unsigned 10)
value_from_names bytes d only some (NamesAlgorithm.no_name none) = absurd (some none)
value_from_names bytes d only some (NamesAlgorithm.named ps w e) = ap (value 1) (only (map ps) w) ∙ e

pub none_names : (bytes : List ℕ) → ((e : DataItem) → ¬ IsWhole bytes e) → bytes ≢ [] → ¬ NamesAlgorithm bytes
none_names bytes none some (NamesAlgorithm.no_name e) = some e
none_names bytes none some (NamesAlgorithm.named ps w e) = none (map ps) w

pub some_bytes : (bytes : List ℕ) → nat_eq (length bytes) 0 ≡ false → bytes ≢ []
some_bytes bytes e none = false≢true (sym e ∙ ap (λ x. nat_eq (length x) 0) none)

pub protected_in_map : (bytes : List ℕ) → bytes ≢ [] → IsProtected bytes → (ps : Pairs) × IsWhole bytes (map ps)
protected_in_map bytes some (IsProtected.empty none) = absurd (some none)
protected_in_map bytes some (IsProtected.holds ps w) = (ps, w)

pub protected_from_names : (bytes : List ℕ) → NamesAlgorithm bytes → IsProtected bytes
protected_from_names bytes (NamesAlgorithm.no_name none) = IsProtected.empty none
protected_from_names bytes (NamesAlgorithm.named ps w e) = IsProtected.holds ps w
