-- AES-CCM of RFC 3610, over lists of blocks of 16 bytes. The nonce has 13 bytes, so that a length
-- and a counter have 2 (there L = 2); `size` is the number of bytes of the tag (there M). Section
-- numbers are the RFC's.
use Rattle.std.specs.Prelude.{◌≡◌, ℕ, ◌+◌, ◌-◌, ◌*◌, ◌/◌, ◌%◌, List, [], ◌∷◌, ◌++◌, length, map, fold, take, drop, replicate, bit_xor}
use Rattle.std.specs.List.{range_with_len, flat_map}
use Rattle.std.specs.Simd.Lanes.{zip2}
use Rattle.osc_aes.specs.{encrypt_block}
use Rattle.osc_ccm.specs.Limits.{IsInRange}

-- two lists xored byte by byte, as far as the shorter goes
abbrev pub xor : List ℕ → List ℕ → List ℕ
xor = zip2 bit_xor

-- a number in 2 bytes, the most significant first (2.1)
abbrev pub two_bytes : ℕ → List ℕ
two_bytes n = n / 256 ∷ n % 256 ∷ []

-- the layout that B_0 and the A_i share: a byte of flags, the nonce, a number (2.2, 2.3)
abbrev pub flagged : ℕ → List ℕ → ℕ → List ℕ
flagged flags nonce n = flags ∷ nonce ++ two_bytes n

-- ---- blocks

-- at most 16 bytes, filled up with zeros
unfoldable pub filled : List ℕ → List ℕ
filled bytes = bytes ++ replicate (16 - length bytes) 0

-- how many blocks hold `n` bytes
abbrev pub block_count : ℕ → ℕ
block_count n = (n + 15) / 16

-- bytes 16 i to 16 i + 15, or as many of them as there are
abbrev pub piece : List ℕ → ℕ → List ℕ
piece bytes i = take 16 (drop (16 * i) bytes)

-- the bytes cut into blocks, the last one filled up with zeros (2.2)
unfoldable pub blocks : List ℕ → List (List ℕ)
blocks bytes = map (λ i. filled (piece bytes i)) (range_with_len 0 (block_count (length bytes)))

-- ---- authentication (2.2)

-- the flags of B_0: 64 where there is associated data, 8 times (M - 2) / 2, and L - 1
abbrev pub first_flags : ℕ → List ℕ → ℕ
first_flags size [] = 8 * ((size - 2) / 2) + 1
first_flags size (_ ∷ _) = 64 + 8 * ((size - 2) / 2) + 1

-- B_0, which tells the lengths
abbrev pub first_block : ℕ → List ℕ → List ℕ → List ℕ → List ℕ
first_block size nonce aad text = flagged (first_flags size aad) nonce (length text)

-- the blocks of the associated data, which is after its length; none where there is none
abbrev pub aad_blocks : List ℕ → List (List ℕ)
aad_blocks [] = []
aad_blocks (byte ∷ rest) = blocks (two_bytes (length (byte ∷ rest)) ++ (byte ∷ rest))

-- B_0, B_1, .., B_n
abbrev pub mac_blocks : ℕ → List ℕ → List ℕ → List ℕ → List (List ℕ)
mac_blocks size nonce aad text = first_block size nonce aad text ∷ aad_blocks aad ++ blocks text

-- one step of the CBC-MAC: X_i+1 = E(K, X_i xor B_i)
abbrev pub mac_step : List ℕ → List ℕ → List ℕ → List ℕ
mac_step key state block = encrypt_block key (xor state block)

-- the CBC-MAC over blocks, from the block of zeros
abbrev pub cbc_mac : List ℕ → List (List ℕ) → List ℕ
cbc_mac key bs = fold (mac_step key) (replicate 16 0) bs

-- ---- encryption (2.3)

-- S_i = E(K, A_i)
unfoldable pub stream_block : List ℕ → List ℕ → ℕ → List ℕ
stream_block key nonce i = encrypt_block key (flagged 1 nonce i)

-- S_1, S_2, .., S_n end to end
unfoldable pub key_stream : List ℕ → List ℕ → ℕ → List ℕ
key_stream key nonce n = flat_map (stream_block key nonce) (range_with_len 1 n)

-- the text xored with the beginning of the key stream; the same turns a ciphertext back
unfoldable pub ciphered : List ℕ → List ℕ → List ℕ → List ℕ
ciphered key nonce text = xor text (key_stream key nonce (block_count (length text)))

-- the tag: the first bytes of the CBC-MAC xored with S_0
unfoldable pub tag_of : List ℕ → ℕ → List ℕ → List ℕ → List ℕ → List ℕ
tag_of key size nonce aad text =
    take size (xor (cbc_mac key (mac_blocks size nonce aad text)) (stream_block key nonce 0))

-- ---- the sealing

-- the ciphertext, then the tag (2.4)
abbrev pub sealing : List ℕ → ℕ → List ℕ → List ℕ → List ℕ → List ℕ
sealing key size nonce aad text = ciphered key nonce text ++ tag_of key size nonce aad text

-- the bytes are the sealing of a text whose length, and that of its associated data, is in range
pub record IsSealing (key : List ℕ) (size : ℕ) (nonce aad text sealed : List ℕ) : Type 0 where
  pub in_range : IsInRange (length text) (length aad)
  pub is_sealing : sealed ≡ sealing key size nonce aad text
  pub is_whole : length sealed ≡ length text + size
