-- The head of an item: its major type and its argument (RFC 8949 section 3).
use Rattle.std.specs.Prelude.{◌≡◌, ℕ, ◌+◌, ◌*◌, ◌^◌, ◌<◌, nat_lt, if◌then◌else◌, List, [], ◌∷◌}
use Rattle.std.specs.Int.{Width, w8, w16, w32, w64, to_be_bytes}

-- the major type in three bits, and the argument in the other five
abbrev pub inline_head : ℕ → ℕ → List ℕ
inline_head major n = (32 * major + n) ∷ []

-- the five bits say in how many bytes the argument follows
abbrev pub wide_head : ℕ → ℕ → Width → ℕ → List ℕ
wide_head major bits width n = (32 * major + bits) ∷ to_be_bytes width n

-- these bytes are a head, in any width that holds the argument
pub data IsHead (major n : ℕ) (bytes : List ℕ) : Type 0 where
  inline : n < 24 → bytes ≡ inline_head major n → IsHead major n bytes
  in_one_byte : n < 2 ^ 8 → bytes ≡ wide_head major 24 w8 n → IsHead major n bytes
  in_two_bytes : n < 2 ^ 16 → bytes ≡ wide_head major 25 w16 n → IsHead major n bytes
  in_four_bytes : n < 2 ^ 32 → bytes ≡ wide_head major 26 w32 n → IsHead major n bytes
  in_eight_bytes : n < 2 ^ 64 → bytes ≡ wide_head major 27 w64 n → IsHead major n bytes

-- the shortest one (section 4.1)
unfoldable pub head : ℕ → ℕ → List ℕ
head major n =
    if nat_lt n 24 then inline_head major n
    else if nat_lt n (2 ^ 8) then wide_head major 24 w8 n
    else if nat_lt n (2 ^ 16) then wide_head major 25 w16 n
    else if nat_lt n (2 ^ 32) then wide_head major 26 w32 n
    else wide_head major 27 w64 n
