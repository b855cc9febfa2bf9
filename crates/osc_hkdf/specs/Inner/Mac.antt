-- What a code on its way holds.
use Rattle.std.specs.Prelude.{ℕ, List, ◌++◌}
use Rattle.sha2.specs.Hashers.{Holds256}
use Rattle.osc_hkdf.specs.Hmac.{block_key, pad}
use Rattle.osc_hkdf.specs.declared.mac.Mac.{Mac}

-- it is under this key, and this much of the text has come
abbrev pub Holds : Mac → List ℕ → List ℕ → Type 0
Holds mac key text = Holds256 mac.inner (pad 0x36 (block_key key) ++ text) × Holds256 mac.outer (pad 0x5c (block_key key))
