-- Datagrams that a script makes of those that were sent.
use Rattle.std.specs.Prelude.{ℕ, ◌+◌, ◌%◌, List, [], ◌∷◌, ◌++◌, Option, Some, None, option_and_then, take, drop, bit_xor, slice_get, slice_set}
use Rattle.osc_script.specs.declared.line.Change.{Change}

-- the byte at the offset is xored with the mask, if there is one
abbrev pub changed_at : Change → List ℕ → Option ℕ → Option (List ℕ)
changed_at change bytes None = None
changed_at change bytes (Some byte) = Some (slice_set bytes change.offset (bit_xor byte change.mask))

abbrev pub changed_by : Change → List ℕ → Option (List ℕ)
changed_by change bytes = changed_at change bytes (slice_get bytes change.offset)

-- a copy with these changes, one after another; none where an offset is past the last byte
abbrev pub altered : List Change → List ℕ → Option (List ℕ)
altered [] bytes = Some bytes
altered (change ∷ changes) bytes = option_and_then (λ copy. altered changes copy) (changed_by change bytes)

-- how long the header and the token of a message are (RFC 7252 section 3): the low half of the first byte is the token's length
abbrev pub head_length : List ℕ → ℕ
head_length [] = 4
head_length (first ∷ rest) = 4 + first % 16

-- the header and the token of one, the options and the payload of the other
abbrev pub grafted : List ℕ → List ℕ → List ℕ
grafted header body = take (head_length header) header ++ drop (head_length body) body
