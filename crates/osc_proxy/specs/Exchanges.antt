-- The exchanges that a proxy has open: requests that were forwarded and whose answer hasn't gone back yet (RFC 7252 section 5.7.2).
use Rattle.std.specs.Prelude.{◌≡◌, ◌≢◌, ℕ, ◌+◌, Bool, true, ◌&&◌, ◌||◌, ◌==◌, nat_le, bytes_eq, if◌then◌else◌, List, [], ◌∷◌, slice_index_or, find, count_by, Option, Some, None, is_some, option_map}
use Rattle.slab.specs.Slab.{entries_from}
use Rattle.osc_model.specs.declared.node.Moment.{Moment}
use Rattle.osc_model.specs.declared.node.Peer.{Peer}
use Rattle.osc_coap.specs.Message.{Message as CoapMessage}
use Rattle.osc_model.specs.{exchange_lifetime, same_peer}
use Rattle.osc_message.specs.{is_acknowledgement}
use Rattle.osc_proxy.specs.declared.exchanges.Exchange.{Exchange}

-- what is under each key, from 0 on, and the key of the next exchange that is opened
pub record Table : Type 0 where
  pub slots : List (Option Exchange)
  pub next : ℕ

abbrev pub none_open : Table
none_open = record { slots = []; next = 0 }

-- the exchange of a key, if one is open
abbrev pub get : Table → ℕ → Option Exchange
get table key = slice_index_or table.slots key None

-- how many are open
abbrev pub count : Table → ℕ
count table = count_by is_some table.slots

-- the open exchanges with their keys, by rising key
abbrev pub entries : Table → List (ℕ × Exchange)
entries table = entries_from 0 table.slots

-- the key of the next exchange, where there is room for one: at most 64 are open, and a key is one byte of a token
abbrev pub free_key : Table → Option ℕ
free_key table = if nat_le 64 (count table) || nat_le 256 table.next then None else Some table.next

-- one key has this now, and each other what it had
pub record Changes (old new : Table) (key : ℕ) (now : Option Exchange) : Type 0 where
  pub changed : get new key ≡ now
  pub others : (other : ℕ) → other ≢ key → get new other ≡ get old other

-- each open exchange's token begins with its key, so that no two have one token
abbrev pub HasOwnTokens : Table → Type 0
HasOwnTokens table =
    (key : ℕ) (exchange : Exchange) → get table key ≡ Some exchange → (rest : List ℕ) × (exchange.token ≡ key ∷ rest)

-- ---- which exchange something is for

-- the lowest key whose exchange passes a test
abbrev pub first_key : (Exchange → Bool) → Table → Option ℕ
first_key test table = option_map (λ entry. entry.0) (find (λ entry. test entry.1) (entries table))

-- a response answers the request of an exchange by its sender and its token, in an acknowledgement by the message ID as well
-- (section 5.3.2)
abbrev pub is_in_place : CoapMessage → Exchange → Bool
is_in_place message exchange = if is_acknowledgement message.kind then exchange.id == message.id else true

abbrev pub answers : Peer → CoapMessage → Exchange → Bool
answers from message exchange =
    same_peer exchange.target from && (bytes_eq exchange.token message.token && is_in_place message exchange)

-- an empty acknowledgement or a Reset names a confirmable message by its sender and its message ID (section 4.2)
abbrev pub is_named : Peer → ℕ → Exchange → Bool
is_named from id exchange = exchange.confirmable && (same_peer exchange.target from && exchange.id == id)

-- ---- how long it stays open

-- it was opened EXCHANGE_LIFETIME ago (section 4.8.2), whether its forwarded message waits, is outstanding or was acknowledged
abbrev pub is_overdue : Moment → Exchange → Bool
is_overdue now exchange = nat_le (exchange.opened.ms + exchange_lifetime) now.ms
