-- Bytes as pairs of elements of the field of 16 elements. The byte whose halves such a pair is, is the byte's form; the
-- form of a sum is the sum of the forms. Tables have 16 entries.
use Rattle.std.specs.Prelude.{ℕ, ◌/◌, nat_lt, if◌then◌else◌, List, Bool, T, ◌||◌, bit_and, bit_xor, slice_index}
use Rattle.osc_aes.specs.declared.tower.TheConstants.{INVERSES, QUOTIENTS, FORM_LOWER, FORM_UPPER, BYTE_LOWER, BYTE_UPPER, SUBSTITUTE_FIRST, SUBSTITUTE_SECOND, DOUBLED_FIRST, DOUBLED_SECOND, PLAIN_FIRST, PLAIN_SECOND}

-- a place in a table, or above all tables, where a look-up gives 0
abbrev pub is_place : ℕ → Bool
is_place j = nat_lt 127 j || nat_lt j 16

abbrev pub IsPlace : ℕ → Type 0
IsPlace j = T (is_place j)

-- the entry at a place
abbrev pub looked : List ℕ → ℕ → ℕ
looked table j = if nat_lt 127 j then 0 else slice_index table j

-- the halves of a form
abbrev pub upper : ℕ → ℕ
upper x = x / 16

abbrev pub lower : ℕ → ℕ
lower x = bit_and x 15

-- what a pair of tables have at two places, added
abbrev pub sum_of : List ℕ → List ℕ → ℕ → ℕ → ℕ
sum_of t u i j = bit_xor (looked t i) (looked u j)

-- the form of a byte, and the byte of a form
unfoldable pub form_of : ℕ → ℕ
form_of b = sum_of FORM_LOWER FORM_UPPER (lower b) (upper b)

unfoldable pub byte_of : ℕ → ℕ
byte_of x = sum_of BYTE_LOWER BYTE_UPPER (lower x) (upper x)

-- the sum of the halves
abbrev pub both : ℕ → ℕ
both x = bit_xor (upper x) (lower x)

-- where the two inverses are that the places are made of
abbrev pub one : ℕ → ℕ
one x = sum_of INVERSES QUOTIENTS (upper x) (lower x)

abbrev pub other : ℕ → ℕ
other x = sum_of INVERSES QUOTIENTS (both x) (lower x)

-- the places that the inverse of a form is read from
unfoldable pub first_place : ℕ → ℕ
first_place x = bit_xor (looked INVERSES (one x)) (both x)

unfoldable pub second_place : ℕ → ℕ
second_place x = bit_xor (looked INVERSES (other x)) (upper x)

-- the form of the substitute, that of x times it, and the substitute itself, each without the 0x63 of the affine map
unfoldable pub substitute : ℕ → ℕ
substitute x = sum_of SUBSTITUTE_FIRST SUBSTITUTE_SECOND (first_place x) (second_place x)

unfoldable pub doubled : ℕ → ℕ
doubled x = sum_of DOUBLED_FIRST DOUBLED_SECOND (first_place x) (second_place x)

unfoldable pub plain_substitute : ℕ → ℕ
plain_substitute x = sum_of PLAIN_FIRST PLAIN_SECOND (first_place x) (second_place x)
