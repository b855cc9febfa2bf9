-- HMAC on SHA-256 (RFC 2104, section 2), over lists of bytes. H is SHA-256, which hashes blocks of 64 bytes.
use Rattle.std.specs.Prelude.{ℕ, List, ◌++◌, ◌-◌, length, map, nat_le, replicate, bit_xor, if◌then◌else◌}
use Rattle.sha2.specs.Sha256.{sha256}

-- the key, or its digest where it is longer than a block
abbrev pub short_key : List ℕ → List ℕ
short_key key = if nat_le (length key) 64 then key else sha256 key

-- K: that, filled up with zeros to a block
abbrev pub block_key : List ℕ → List ℕ
block_key key = short_key key ++ replicate (64 - length (short_key key)) 0

-- each byte of a block xored with a constant
abbrev pub pad : ℕ → List ℕ → List ℕ
pad constant block = map (λ byte. bit_xor byte constant) block

-- H(K xor opad, H(K xor ipad, text)), where ipad repeats the byte 36 and opad the byte 5c
unfoldable pub hmac_of : List ℕ → List ℕ → List ℕ
hmac_of key text = sha256 (pad 0x5c (block_key key) ++ sha256 (pad 0x36 (block_key key) ++ text))
