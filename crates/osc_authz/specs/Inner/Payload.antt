-- The fields of a payload, taken out of its item. No public contract rests on this.
use Rattle.std.specs.Prelude.{ℕ, nat_le, ◌&&◌, if◌then◌else◌, List, length, Option, Some, None, option_and_then}
use Rattle.osc_cbor.specs.{DataItem, as_bytes, value}

abbrev pub bytes_under : ℕ → DataItem → Option (List ℕ)
bytes_under label d = option_and_then as_bytes (value label d)

abbrev pub if_nonce : List ℕ → Option (List ℕ)
if_nonce bytes = if nat_le 1 (length bytes) && nat_le (length bytes) 64 then Some bytes else None

abbrev pub nonce_under : ℕ → DataItem → Option (List ℕ)
nonce_under label d = option_and_then if_nonce (bytes_under label d)

abbrev pub if_id : List ℕ → Option (List ℕ)
if_id bytes = if nat_le (length bytes) 7 then Some bytes else None

abbrev pub id_under : ℕ → DataItem → Option (List ℕ)
id_under label d = option_and_then if_id (bytes_under label d)

-- token, nonce and recipient ID
abbrev pub post_fields : DataItem → Option (List ℕ × List ℕ × List ℕ)
post_fields d =
    option_and_then (λ token. option_and_then (λ nonce1. option_and_then (λ client_id. Some (token, nonce1, client_id)) (id_under 43 d)) (nonce_under 40 d)) (bytes_under 1 d)

-- nonce and recipient ID
abbrev pub answer_fields : DataItem → Option (List ℕ × List ℕ)
answer_fields d =
    option_and_then (λ nonce2. option_and_then (λ server_id. Some (nonce2, server_id)) (id_under 44 d)) (nonce_under 42 d)
