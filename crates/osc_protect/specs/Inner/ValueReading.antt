-- Reading the option's value from left to right: the way from the code to its spelling. No public contract rests on this.
use Rattle.std.specs.Prelude.{ℕ, ◌+◌, ◌*◌, ◌/◌, ◌%◌, ◌==◌, nat_lt, if◌then◌else◌, Bool, true, false, List, [], ◌∷◌, length, take, drop, fold, Option, Some, None}
use Rattle.osc_protect.specs.Value.{Compressed}

infixl 10 ◌>>=◌
abbrev pub ◌>>=◌ : {A B : Type 0} → Option A → (A → Option B) → Option B
None >>= f = None
(Some x) >>= f = f x

-- the number that bytes are, the most significant first
abbrev pub number_in : List ℕ → ℕ
number_in bytes = fold (λ n byte. 256 * n + byte) 0 bytes

-- a zero byte, and others after it
abbrev pub has_leading_zero : List ℕ → Bool
has_leading_zero [] = false
has_leading_zero (b ∷ []) = false
has_leading_zero (b ∷ c ∷ bytes) = b == 0

-- the Partial IV in the first `size` bytes, and the bytes after it
unfoldable pub partial_iv_at : ℕ → List ℕ → Option (Option ℕ × List ℕ)
partial_iv_at size bytes =
    if size == 0 then Some (None, bytes)
    else if nat_lt 5 size then None
    else if nat_lt (length bytes) size then None
    else if has_leading_zero (take size bytes) then None
    else Some (Some (number_in (take size bytes)), drop size bytes)

-- the kid context, where there is one, and the bytes after it
unfoldable pub kid_context_at : Bool → List ℕ → Option (Option (List ℕ) × List ℕ)
kid_context_at false bytes = Some (None, bytes)
kid_context_at true [] = None
kid_context_at true (size ∷ bytes) = if nat_lt (length bytes) size then None else Some (Some (take size bytes), drop size bytes)

-- the kid, where there is one; else nothing may be left
unfoldable pub kid_at : Bool → List ℕ → Option (Option (List ℕ))
kid_at true bytes = Some (Some bytes)
kid_at false [] = Some None
kid_at false (b ∷ bytes) = None

-- what the flag bits say of the bytes after them
unfoldable pub parts_at : ℕ → List ℕ → Option Compressed
parts_at flags bytes = do
  number ← partial_iv_at (flags % 8) bytes
  context ← kid_context_at (flags / 16 == 1) number.1
  kid ← kid_at (flags / 8 % 2 == 1) context.1
  Some (record { partial_iv = number.0; kid_context = context.0; kid = kid })

unfoldable pub value_at : List ℕ → Option Compressed
value_at [] = Some (record { partial_iv = None; kid_context = None; kid = None })
value_at (flags ∷ bytes) = if flags == 0 then None else if nat_lt 31 flags then None else parts_at flags bytes
