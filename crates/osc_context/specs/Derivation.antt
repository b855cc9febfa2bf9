-- The security context of a name (RFC 8613 section 3.2.1).
use Rattle.std.specs.Prelude.{ℕ, List, [], Option, Some, None, codes}
use Rattle.osc_model.specs.{algorithm_number}
use Rattle.osc_model.specs.declared.algorithm.Algorithm.{Algorithm}
use Rattle.osc_model.specs.declared.context.ContextName.{ContextName}
use Rattle.osc_model.specs.declared.context.Side.{Side}
use Rattle.osc_model.specs.declared.context.Side.TheVariants.{Client, Server}
use Rattle.osc_hkdf.specs.{extract_of, expand_of}
use Rattle.osc_cbor.specs.{DataItem, unsigned, byte_string, text_string, array, null, no_items, item, spelling}
use Rattle.osc_context.specs.Algorithm.{algorithm_of}

-- ---- the two ends

abbrev pub other_side : Side → Side
other_side Client = Server
other_side Server = Client

-- the sender ID of an end
abbrev pub id_of : ContextName → Side → List ℕ
id_of name Client = name.client_id
id_of name Server = name.server_id

-- ---- what is derived

-- the id context, or null where there is none
abbrev pub id_context_item : Option (List ℕ) → DataItem
id_context_item None = null
id_context_item (Some id_context) = byte_string id_context

-- info = [id, id_context, alg_aead, type, L]
abbrev pub info : ContextName → List ℕ → List ℕ → ℕ → DataItem
info name id type size =
    array (item (byte_string id) (item (id_context_item name.id_context) (item (unsigned (algorithm_number (algorithm_of name))) (item (text_string type) (item (unsigned size) no_items)))))

-- output = HKDF(salt, IKM, info, L), where the master salt is the salt and the master secret the IKM
unfoldable pub derived : ContextName → List ℕ → List ℕ → ℕ → List ℕ
derived name id type size = expand_of (extract_of name.salt name.secret) (spelling (info name id type size)) size

-- the key under which an end seals: 16 bytes
abbrev pub key_of : ContextName → Side → List ℕ
key_of name side = derived name (id_of name side) (codes "Key") 16

-- the common IV: 13 bytes
abbrev pub common_iv_of : ContextName → List ℕ
common_iv_of name = derived name [] (codes "IV") 13

-- what fixes the key of an end: secret, master salt, id context, algorithm, and the ID under which it seals
pub record KeyName : Type 0 where
  pub secret : List ℕ
  pub salt : List ℕ
  pub id_context : Option (List ℕ)
  pub alg : Algorithm
  pub id : List ℕ

abbrev pub key_name_of : ContextName → Side → KeyName
key_name_of name side = record { secret = name.secret; salt = name.salt; id_context = name.id_context; alg = algorithm_of name; id = id_of name side }

-- ---- contexts of one end

-- what an end seals with: `next` is the sender sequence number that it takes next
pub record Sender : Type 0 where
  pub id : List ℕ
  pub key : List ℕ
  pub common_iv : List ℕ
  pub next : ℕ

-- a sender sequence number that was taken, and what seals under it
pub record Taken : Type 0 where
  pub id : List ℕ
  pub key : List ℕ
  pub common_iv : List ℕ
  pub number : ℕ

-- what it opens with: the other end's ID and key, and the window of the numbers that it accepted of the other end
pub record Recipient : Type 0 where
  pub id : List ℕ
  pub key : List ℕ
  pub common_iv : List ℕ
  pub window : List ℕ

-- a number of the other end that was accepted, and what the nonce of that end's request is made of beside it
pub record Accepted : Type 0 where
  pub id : List ℕ
  pub common_iv : List ℕ
  pub number : ℕ

abbrev pub sender_of : ContextName → Side → ℕ → Sender
sender_of name side next = record { id = id_of name side; key = key_of name side; common_iv = common_iv_of name; next = next }

-- the number that a sender takes next
abbrev pub next_taken : Sender → Taken
next_taken sender = record { id = sender.id; key = sender.key; common_iv = sender.common_iv; number = sender.next }

-- a number of an end under a name
abbrev pub taken_of : ContextName → Side → ℕ → Taken
taken_of name side number = record { id = id_of name side; key = key_of name side; common_iv = common_iv_of name; number = number }

abbrev pub recipient_of : ContextName → Side → List ℕ → Recipient
recipient_of name side window =
    record { id = id_of name (other_side side); key = key_of name (other_side side); common_iv = common_iv_of name; window = window }

-- a number that a recipient accepts
abbrev pub next_accepted : Recipient → ℕ → Accepted
next_accepted recipient number = record { id = recipient.id; common_iv = recipient.common_iv; number = number }

-- a number that an end under a name accepted of the other end
abbrev pub accepted_of : ContextName → Side → ℕ → Accepted
accepted_of name side number = record { id = id_of name (other_side side); common_iv = common_iv_of name; number = number }
