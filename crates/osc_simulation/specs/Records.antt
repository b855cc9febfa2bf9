-- What an event of a world prints.
use Rattle.std.specs.Prelude.{◌≡◌, ℕ, ◌+◌, ◌-◌, Bool, if◌then◌else◌, List, [], ◌∷◌, ◌++◌, Option, Some, None, codes, decimal, drop, take, reverse, slice_get}
use Rattle.std.specs.Str.{bytes_eq}
use Rattle.osc_coap.specs.{Spells}
use Rattle.osc_coap.specs.Message.{Message}
use Rattle.osc_model.specs.declared.node.Peer.{Peer}
use Rattle.osc_model.specs.declared.step.ClientResult.{ClientResult}
use Rattle.osc_model.specs.declared.step.ClientResult.TheVariants.{Made, Answer, Unverified, TimedOut, Refused}
use Rattle.osc_model.specs.declared.step.Entry.{Entry}
use Rattle.osc_run.specs.{Noted, Minted}
use Rattle.osc_run.specs.declared.noted.Actor.{Actor}
use Rattle.osc_run.specs.declared.noted.Actor.TheVariants.{Client}
use Rattle.osc_script.specs.{name_of, address_of}
use Rattle.osc_script.specs.declared.client_name.ClientName.{ClientName}
use Rattle.osc_script.specs.declared.node.NodeName.{NodeName}
use Rattle.osc_world.specs.{State}
use Rattle.osc_world.specs.declared.log.Record.{Record}
use Rattle.osc_world.specs.declared.log.SentDatagram.{SentDatagram}
use Rattle.osc_simulation.specs.Names.{name_of_number}
use Rattle.osc_simulation.specs.Text.{line, format_text, short_text}
use Rattle.osc_model.specs.{code_text}
use Rattle.osc_simulation.specs.Trace.{message_text, or_nothing, wanted_bytes_text}

-- ---- what was served

-- the holder of the first grant with this secret, by name, or `?` where no grant has it
abbrev pub holder_text : List ClientName → List Minted → List ℕ → List ℕ
holder_text clients [] secret = codes "?"
holder_text clients (minted ∷ rest) secret =
    if bytes_eq minted.grant.secret secret then name_of_number clients minted.grant.holder else holder_text clients rest secret

-- served CLIENT NUMBER CODE
abbrev pub served_words : List ClientName → List Minted → Entry → List ℕ
served_words clients minted entry =
    codes "served " ++ holder_text clients minted entry.context.secret ++ codes " " ++ decimal entry.number ++ codes " " ++ code_text entry.reply.code.0

abbrev pub served_text : List ClientName → List Minted → Option Entry → List ℕ
served_text clients minted None = []
served_text clients minted (Some entry) = line (served_words clients minted entry)

-- ---- what a client learnt

-- context, answer CODE FORMAT BYTES, unverified CODE, timeout, refused N
abbrev pub learnt_text : ClientResult → List ℕ
learnt_text Made = codes "context"
learnt_text (Answer reply) = codes "answer " ++ code_text reply.code.0 ++ codes " " ++ format_text reply.format ++ codes " " ++ short_text reply.payload
learnt_text (Unverified code) = codes "unverified " ++ code_text code.0
learnt_text TimedOut = codes "timeout"
learnt_text (Refused number) = codes "refused " ++ decimal number

-- whose step it was: a client's, by name; no other node learns
abbrev pub actor_text : List ClientName → Actor → List ℕ
actor_text clients (Client number) = name_of_number clients number
actor_text clients actor = codes "?"

abbrev pub result_text : List ClientName → Actor → Option ClientResult → List ℕ
result_text clients actor None = []
result_text clients actor (Some result) = line (actor_text clients actor ++ codes " " ++ learnt_text result)

-- what the step noted, if one was taken
abbrev pub step_text : List ClientName → List Minted → Option Noted → List ℕ
step_text clients minted None = []
step_text clients minted (Some step) = served_text clients minted step.notes.served ++ result_text clients step.actor step.notes.result

-- ---- what was sent

-- the name of the node that is there, or `?`
pub data NamesPeer (peer : Peer) (text : List ℕ) : Type 0 where
  of_node : (node : NodeName) → peer ≡ address_of node → text ≡ name_of node → NamesPeer peer text
  of_none : ((node : NodeName) → ¬ (peer ≡ address_of node)) → text ≡ codes "?" → NamesPeer peer text

-- TYPE CODE of a message, or `?` of bytes that are none
pub data TellsMessage (bytes text : List ℕ) : Type 0 where
  of_message : (message : Message) → Spells bytes message → text ≡ message_text message → TellsMessage bytes text
  of_none : ((message : Message) → ¬ Spells bytes message) → text ≡ codes "?" → TellsMessage bytes text

-- sent K FROM>TO TYPE CODE [BYTES]
pub record PrintsSent (with_bytes : Bool) (number : ℕ) (sent : SentDatagram) (text : List ℕ) : Type 0 where
  pub from : List ℕ
  pub to : List ℕ
  pub message : List ℕ
  pub from_is : NamesPeer sent.from from
  pub to_is : NamesPeer sent.to to
  pub message_is : TellsMessage sent.bytes message
  pub whole : text ≡ line (codes "sent " ++ decimal number ++ codes " " ++ from ++ codes ">" ++ to ++ codes " " ++ message ++ wanted_bytes_text with_bytes sent.bytes)

-- datagrams are numbered as they are sent
abbrev pub PrintAllSent : Bool → ℕ → List SentDatagram → List ℕ → Type 0
PrintAllSent with_bytes number [] text = text ≡ []
PrintAllSent with_bytes number (datagram ∷ datagrams) text =
    (first rest : List ℕ) × PrintsSent with_bytes number datagram first × PrintAllSent with_bytes (number + 1) datagrams rest × (text ≡ first ++ rest)

-- ---- an event

-- the step of this number, from 0; `steps` has the newest first
abbrev pub step_at : Option ℕ → List Noted → Option Noted
step_at None steps = None
step_at (Some number) steps = slice_get (reverse steps) number

-- the datagrams that an event sent
abbrev pub sent_at : Record → List SentDatagram → List SentDatagram
sent_at event sent = take (event.end - event.first) (drop event.first sent)

-- The outcome of an event of the world, in this order: what was served, what a client learnt, what was sent; `nothing` where there is none of it.
pub record PrintsRecord (with_bytes : Bool) (clients : List ClientName) (world : State) (event : Record) (text : List ℕ) : Type 0 where
  pub lines : List ℕ
  pub sent : PrintAllSent with_bytes (event.first + 1) (sent_at event world.sent) lines
  pub whole : text ≡ or_nothing (step_text clients world.minted (step_at event.step world.steps) ++ lines)

-- events one after another
abbrev pub PrintAllRecords : Bool → List ClientName → State → List Record → List ℕ → Type 0
PrintAllRecords with_bytes clients world [] text = text ≡ []
PrintAllRecords with_bytes clients world (event ∷ events) text =
    (first rest : List ℕ) × PrintsRecord with_bytes clients world event first × PrintAllRecords with_bytes clients world events rest × (text ≡ first ++ rest)
