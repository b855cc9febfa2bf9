-- The item of an object, read again.
use Rattle.std.proofs.Common.{◌≡◌, ℕ, List, Option, Some, None, refl}
use Rattle.std.specs.Option.{option_map}
use Rattle.osc_cbor.specs.{byte_string, no_pairs, Pairs, value_under}
use Rattle.osc_cose.specs.{parameter}

abbrev pub header : Option (List ℕ) → Option (List ℕ) → Pairs
header kid iv = parameter 4 kid (parameter 5 iv no_pairs)

pub kid_under : (kid iv : Option (List ℕ)) → value_under 4 (header kid iv) ≡ option_map byte_string kid
kid_under None None = refl
kid_under None (Some iv) = refl
kid_under (Some kid) iv = refl

pub iv_under : (kid iv : Option (List ℕ)) → value_under 5 (header kid iv) ≡ option_map byte_string iv
iv_under None None = refl
iv_under None (Some iv) = refl
iv_under (Some kid) None = refl
iv_under (Some kid) (Some iv) = refl
