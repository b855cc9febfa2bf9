-- What is served of a protected request, how long replies are, and what the message layer keeps.
use Rattle.std.specs.Prelude.{◌≡◌, ℕ, ◌+◌, ◌<◌, ◌≤◌, ◌==◌, if◌then◌else◌, Bool, List, [], ◌∷◌, length, Option, Some, None, option_map, Result, Ok, Err, IfErr}
use Rattle.std.specs.FinMap as map
use Rattle.std.specs.List.{All}
use Rattle.std.specs.Option.{ForSome, IfSome}
use Rattle.osc_coap.specs.{Spells, spelling}
use Rattle.osc_coap.specs.Message.{Message}
use Rattle.osc_dedup.specs.{Entry as Noted}
use Rattle.osc_model.specs.{apply_read, method_number, longest_payload, payload_length}
use Rattle.osc_model.specs.Arrival.{Arrival}
use Rattle.osc_model.specs.Tree.{Tree}
use Rattle.osc_model.specs.declared.code.Method.TheVariants.{Get}
use Rattle.osc_model.specs.declared.bytes.Bytes.{Bytes}
use Rattle.osc_model.specs.declared.code.Code.{Code}
use Rattle.osc_model.specs.declared.node.Peer.{Peer}
use Rattle.osc_model.specs.declared.reply.Reply.{Reply}
use Rattle.osc_model.specs.declared.request.Request.{Request}
use Rattle.osc_model.specs.declared.step.Datagram.{Datagram}
use Rattle.osc_model.specs.declared.step.Entry.{Entry}
use Rattle.osc_context.specs.{algorithm_of}
use Rattle.osc_authz.specs.{DeskState, IsSameBut, LastAnswerState, holder_at, last_at, with_last}
use Rattle.osc_authz.specs.SecurityContext.{SecurityContext}
use Rattle.osc_authz.specs.declared.token_entry.TokenEntry.{TokenEntry}
use Rattle.osc_window.specs.{IsFresh}
use Rattle.osc_message.specs.{EndpointState, settled, AreSendable, FitsDatagram, datagram, replied}
use Rattle.osc_message.specs.declared.handling.Handling.TheVariants.{Answered}
use Rattle.osc_message.specs.declared.heard.Heard.{Heard}
use Rattle.osc_message.specs.declared.heard.Heard.TheVariants as heard
use Rattle.osc_ccm.specs.{Sealings, Tags}
use Rattle.osc_protect.specs.{SealedRequest, IsProtectedResponse}
use Rattle.osc_run.specs.{opening_note, Replies as AppliesTo}
use Rattle.osc_options.specs.{oscore, read_request, value, IsWithinRanges}
use Rattle.osc_server.specs.State.{State}
use Rattle.osc_server.specs.Table.{IsAnswerTo, IsMeant, IsOpened, IsRefused, Met, again_to, answer_to, answered, notes_of_request, reply_to, served_desk}
use Rattle.osc_server.specs.declared.refusal.Refusal.{Refusal}
use Rattle.osc_server.specs.declared.refusal.Refusal.TheVariants.{Replayed}
use Rattle.osc_server.specs.declared.case.RequestCase.{RequestCase}
use Rattle.osc_server.specs.declared.case.RequestCase.TheVariants.{OpenGet, Protected}
use Rattle.osc_server.specs.declared.serving.SealedAnswer.{SealedAnswer}
use Rattle.osc_server.specs.declared.serving.KeptRoom.{KeptRoom}
use Rattle.osc_server.specs.declared.serving.ReservedAnswer.{ReservedAnswer}

-- a reply with a payload of at most `most` bytes
pub record IsReplyOf (most : ℕ) (reply : Reply) : Type 0 where
  pub code : 0 < reply.code.0
  pub etag : ForSome reply.etag (λ tag. length tag ≤ 8)
  pub payload : length reply.payload ≤ most

-- a reply with no more payload than a resource may have: it fits a datagram, whatever the token
abbrev pub FitsAResource : Reply → Type 0
FitsAResource reply = IsReplyOf longest_payload reply

-- the most bytes of payload that the reply to a request has: those of the resource, where it is a GET
abbrev pub read_length : Tree → Option (List ℕ) → ℕ
read_length tree None = 0
read_length tree (Some path) = payload_length (map.get tree path)

abbrev pub request_reply_length : Tree → Request → ℕ
request_reply_length tree request = if request.code.0 == method_number Get then read_length tree request.path else 0

abbrev pub reply_length : Tree → Result Request Code → ℕ
reply_length tree (Err code) = 0
reply_length tree (Ok request) = request_reply_length tree request

-- the most bytes of a reply's plaintext beside its payload: a code, an ETag, a Content-Format, and the payload marker
abbrev pub text_beside_payload : ℕ
text_beside_payload = 14

-- the most bytes of a protected reply beside what is sealed in it: header, token, an empty OSCORE option, and the payload marker
abbrev pub message_beside_sealed : ℕ
message_beside_sealed = 14

-- What was taken once a request had opened, beside the note of its opening: what it asks, what its entry says, and, with these
-- tags, room for the longest reply that it may get of this tree.
pub record IsTakenFor (tag : Tags) (tree : Tree) (taken : ReservedAnswer) : Type 0 where
  pub read : taken.read ≡ read_request taken.note.plaintext
  pub error : IfErr taken.read (λ code. 0 < code.0)
  pub context : taken.context ≡ taken.note.context
  pub plaintext : taken.plaintext ≡ taken.note.plaintext
  pub seal : taken.room.seal ≡ record { name = taken.note.context; number = taken.note.number; most = text_beside_payload + reply_length tree taken.read }
  pub datagram : taken.room.datagram ≡ message_beside_sealed + text_beside_payload + reply_length tree taken.read + tag (algorithm_of taken.note.context)
  pub kept : IfSome taken.room.kept (λ kept. kept.reply ≡ text_beside_payload + reply_length tree taken.read + tag (algorithm_of taken.note.context))
  pub limit : reply_length tree taken.read ≤ longest_payload

-- what the request carried sealed is kept of it, where answers are kept
abbrev pub kept_sealed : Option KeptRoom → Option (List ℕ)
kept_sealed room = option_map (λ kept. kept.sealed) room

abbrev pub if_kept : {T : Type 0} → Bool → T → Option T
if_kept answers value = if answers then Some value else None

-- the answer that is kept of it, once what its reply carries sealed is known
abbrev pub kept_answer : Peer → ℕ → List ℕ → Option (List ℕ) → Option LastAnswerState
kept_answer from number reply sealed = option_map (λ bytes. record { from = from; number = number; sealed = bytes; reply = reply }) sealed

-- the table with this last answer of a context, where one is kept
abbrev pub with_kept : List ℕ → Option LastAnswerState → List TokenEntry → List TokenEntry
with_kept id None table = table
with_kept id (Some last) table = with_last id last table

-- a protected request that opened, with what was taken of it: under a context that it means, at a fresh number
pub record IsReady (is_sealing : Sealings) (tag : Tags) (answers : Bool) (server : Met) (came : Arrival Message) (request : SealedRequest) (taken : ReservedAnswer) : Type 0 where
  pub held : SecurityContext
  pub opened : IsOpened is_sealing server came request held taken.note.plaintext
  pub noted : taken.note ≡ opening_note held.name request.number taken.note.plaintext
  pub room : IsTakenFor tag server.tree taken
  pub holder : taken.holder ≡ holder_at request.kid server.table
  pub kept : kept_sealed taken.room.kept ≡ if_kept answers request.sealed

-- Why a protected request isn't served: of one that isn't fresh, whether or not it comes again.
abbrev pub IsUnserved : Sealings → Met → Arrival Message → Refusal → Type 0
IsUnserved is_sealing server came Replayed =
    (request : SealedRequest) × (held : SecurityContext) × IsMeant server came request held × (¬ IsFresh held.window request.number)
IsUnserved is_sealing server came refusal = IsRefused is_sealing server came refusal

-- the table keeps this answer to it
abbrev pub HasAnswer : List TokenEntry → Arrival Message → SealedRequest → LastAnswerState → Type 0
HasAnswer table came request last = (last_at request.kid table ≡ Some last) × IsAnswerTo came request last

-- the path whose resource a request may change
abbrev pub may_change : Result Request Code → Option (List ℕ)
may_change (Err code) = None
may_change (Ok request) = if request.code.0 == method_number Get then None else request.path

-- the path whose resource the entry's request may change, where one was served
abbrev pub may_change_by : Option Entry → Option (List ℕ)
may_change_by None = None
may_change_by (Some entry) = may_change entry.request

-- two trees differ at this path at most, where there is one
abbrev pub DifferAt : Option (List ℕ) → Tree → Tree → Type 0
DifferAt None before after = after ≡ before
DifferAt (Some path) before after = IsSameBut before after path

-- these bytes are a message
abbrev pub IsMessage : Bytes → Type 0
IsMessage bytes = (message : Message) × Spells bytes message

-- what answered each message that is noted was a message
pub record KeepsMessages (seen : List Noted) : Type 0 where
  pub noted : All (λ entry. ForSome entry.noted.reply IsMessage) seen

-- nothing that the server sends waits for an acknowledgement
pub record IsQuiet (endpoint : EndpointState) : Type 0 where
  pub messages : KeepsMessages endpoint.seen
  pub nothing_open : endpoint.sending ≡ []

-- what goes to the tree is a GET
abbrev pub AsksGet : RequestCase → Type 0
AsksGet (OpenGet granted) = granted.request.code.0 ≡ method_number Get
AsksGet case = Unit {0}

-- what goes to a context has this value of OSCORE's option
abbrev pub HasValue : Message → RequestCase → Type 0
HasValue message (Protected bytes) = value oscore message.options ≡ Some bytes
HasValue message case = Unit {0}

-- at most one datagram, a message for this peer
pub record SendsTo (peer : Peer) (out : List Datagram) : Type 0 where
  pub one : length out ≤ 1
  pub messages : All (λ sent. (message : Message) × Spells sent.bytes message) out
  pub fits : AreSendable out
  pub addressed : All (λ sent. sent.to ≡ peer) out

-- the same of what is heard, where the message layer answers it
abbrev pub HeardSendsTo : Peer → Heard → Type 0
HeardSendsTo peer (heard.Alone out) = SendsTo peer out
HeardSendsTo peer heard = Unit {0}

-- the message, in the one datagram that goes to this peer, and as its bytes are kept for a repeat
pub record IsSentAs (peer : Peer) (message : Message) (out : List Datagram) (reply : Bytes) : Type 0 where
  pub spelled : Spells (spelling message) message
  pub sent : out ≡ datagram peer message ∷ []
  pub kept : reply ≡ spelling message
  pub fits : FitsDatagram reply
  pub sendable : SendsTo peer out

-- a new request is answered once, by this message, which goes out so
pub record AnswersBy (before : State) (came : Arrival Message) (answer : Message) (out : List Datagram) (new : State) : Type 0 where
  pub sent : out ≡ datagram came.from answer ∷ []
  pub spelled : Spells (spelling answer) answer
  pub kept : new ≡ record before { endpoint = answered before.endpoint came answer }

-- the message layer once a request is answered by these bytes
abbrev pub noted_by : EndpointState → Arrival Message → Bytes → EndpointState
noted_by endpoint came reply =
    settled (replied came.draw came.what endpoint) came.at came.from (heard.Message came.what) (Answered (Some reply))

-- the parts of a server that serve a protected request, as they are before it
pub record Standing : Type 0 where
  pub tree : Tree
  pub desk : DeskState
  pub endpoint : EndpointState

-- a request that was opened: under this context, which the token of this id made, with this number, to this text
pub record Opened : Type 0 where
  pub held : SecurityContext
  pub holder : Option (List ℕ)
  pub number : ℕ
  pub text : List ℕ

-- what becomes of a request that was opened: the tree, and the protected reply, which goes to the peer
pub record IsReplied (is_sealing : Sealings) (old : Standing) (came : Arrival Message) (opened : Opened) (served : SealedAnswer) (new : Tree) : Type 0 where
  pub reply : Reply
  pub within : IsWithinRanges reply
  pub applied : AppliesTo old.tree (apply_read old.desk.rules.revoked old.tree opened.held.scope (read_request opened.text)) reply new
  pub answer : Message
  pub protected : IsProtectedResponse is_sealing opened.held.name opened.number None (reply_to old.endpoint came reply) answer
  pub sends : IsSentAs came.from answer served.out served.reply
  pub noted : served.notes ≡ notes_of_request came.at opened.held opened.holder opened.number opened.text reply

-- the same of a request that came protected
pub record IsServedAs (is_sealing : Sealings) (old : Standing) (came : Arrival Message) (request : SealedRequest) (served : SealedAnswer) (new : Tree) (desk : DeskState) : Type 0 where
  pub held : SecurityContext
  pub text : List ℕ
  pub opened : IsOpened is_sealing (record { tree = old.tree; table = old.desk.table }) came request held text
  pub replied : IsReplied is_sealing old came (record { held = held; holder = holder_at request.kid old.desk.table; number = request.number; text = text }) served new
  pub kept : desk ≡ served_desk old.desk came request replied.protected.sealed
