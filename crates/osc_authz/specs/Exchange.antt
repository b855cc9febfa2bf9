-- The payloads of an exchange at authz-info (RFC 9203 sections 4.1 and 4.2): maps, whose other keys are ignored.
use Rattle.std.specs.Prelude.{◌≡◌, ℕ, ◌≤◌, List, length, Some}
use Rattle.osc_cbor.specs.{DataItem, unsigned, byte_string, map, Pairs, no_pairs, pair, value_under, IsWhole}

-- what a client posts: access_token 1, nonce1 40, ace_client_recipientid 43
pub record IsPost (body token nonce1 client_id : List ℕ) : Type 0 where
  pub fields : Pairs
  pub whole : IsWhole body (map fields)
  pub token_field : value_under 1 fields ≡ Some (byte_string token)
  pub nonce1_field : value_under 40 fields ≡ Some (byte_string nonce1)
  pub nonce1_size : (1 ≤ length nonce1) × (length nonce1 ≤ 64)
  pub id_field : value_under 43 fields ≡ Some (byte_string client_id)
  pub id_size : length client_id ≤ 7

abbrev pub post_item : List ℕ → List ℕ → List ℕ → DataItem
post_item token nonce1 client_id =
    map (pair (unsigned 1) (byte_string token) (pair (unsigned 40) (byte_string nonce1) (pair (unsigned 43) (byte_string client_id) no_pairs)))

-- what a server answers: nonce2 42, ace_server_recipientid 44
pub record IsAnswer (payload nonce2 server_id : List ℕ) : Type 0 where
  pub fields : Pairs
  pub whole : IsWhole payload (map fields)
  pub nonce2_field : value_under 42 fields ≡ Some (byte_string nonce2)
  pub nonce2_size : (1 ≤ length nonce2) × (length nonce2 ≤ 64)
  pub id_field : value_under 44 fields ≡ Some (byte_string server_id)
  pub id_size : length server_id ≤ 7

abbrev pub answer_item : List ℕ → List ℕ → DataItem
answer_item nonce2 server_id =
    map (pair (unsigned 42) (byte_string nonce2) (pair (unsigned 44) (byte_string server_id) no_pairs))
