-- What answered each message that is noted can be sent again.
use Rattle.std.proofs.Common.{◌≡◌, ℕ, ◌+◌, ◌-◌, Bool, true, false, cond, List, [], ◌∷◌, length, find, drop, Option, Some, None, ap, subst}
use Rattle.std.specs.Prelude.{not, ◌&&◌, option_and_then}
use Rattle.std.specs.List.{All}
use Rattle.std.specs.Option.{option_map}
use Rattle.std.proofs.lemmas.List.Elements.{All-nil, All-head, All-tail, All-push, All-filter, All-drop}
use Rattle.osc_coap.specs.declared.kind.Kind.{Kind}
use Rattle.osc_coap.specs.declared.kind.Kind.TheVariants.{Confirmable, NonConfirmable, Acknowledgement, Reset}
use Rattle.osc_dedup.specs.declared.table.Remembered.{Remembered}
use Rattle.osc_dedup.specs.{most_entries, Entry, is_alive, is_of, staying, with_note, alive, looked}
use Rattle.osc_model.specs.declared.bytes.Bytes.{Bytes}
use Rattle.osc_model.specs.declared.node.Moment.{Moment}
use Rattle.osc_model.specs.declared.node.Peer.{Peer}
use Rattle.osc_model.specs.declared.step.Datagram.{Datagram}
use Rattle.osc_message.specs.{AreShort, noted, noted_reply, AreSendable, FitsDatagram, IsSendableReply}

abbrev IsShort : Entry → Type 0
IsShort entry = IsSendableReply entry.noted.reply

-- ---- a note more, and fewer

pub with_note_short : (now : Moment) (peer : Peer) (id : ℕ) (new : Remembered) (seen : List Entry) → IsSendableReply new.reply → AreShort seen → AreShort (with_note now peer id new seen)
with_note_short now peer id new seen reply short =
    let others = staying now peer id seen in
    let stay : All IsShort others = All-filter (λ entry. is_alive now entry && not (is_of peer id entry)) IsShort seen short in
    All-push IsShort (drop (length others + 1 - most_entries) others) (record { peer = peer; id = id; noted = new })
    (All-drop IsShort (length others + 1 - most_entries) others stay) reply

pub noted_short : (seen : List Entry) (now : Moment) (peer : Peer) (kind : Kind) (id : ℕ) (reply : Option Bytes) → IsSendableReply reply → AreShort seen → AreShort (noted now peer kind id reply seen)
noted_short seen now peer Confirmable id reply sendable short = with_note_short now peer id _ seen sendable short
noted_short seen now peer NonConfirmable id reply sendable short = with_note_short now peer id _ seen sendable short
noted_short seen now peer Acknowledgement id reply sendable short = short
noted_short seen now peer Reset id reply sendable short = short

pub alive_short : (now : Moment) (seen : List Entry) → AreShort seen → AreShort (alive now seen)
alive_short now seen short = All-filter (is_alive now) IsShort seen short

-- ---- what is noted

abbrev IfShort : Option Entry → Type 0
IfShort None = Unit {0}
IfShort (Some entry) = IsShort entry

found : (test : Entry → Bool) (seen : List Entry) → AreShort seen → IfShort (find test seen)
found test [] all = tt
found test (entry ∷ seen) all =
    elim (test entry) as (λ b. IfShort (cond b (Some entry) (find test seen))) [
      | true ↦ All-head IsShort entry seen all
      | false ↦ found test seen (All-tail IsShort entry seen all)
    ]

abbrev reply_in : Option Entry → Option Bytes
reply_in entry = option_and_then (λ noted. noted.reply) (option_map (λ entry. entry.noted) entry)

reply_short : (entry : Option Entry) → IfShort entry → IsSendableReply (reply_in entry)
reply_short None short = tt
reply_short (Some entry) short = short

pub reply_fits : (seen : List Entry) (now : Moment) (peer : Peer) (id : ℕ) → AreShort seen → IsSendableReply (noted_reply seen now peer id)
reply_fits seen now peer id short =
    reply_short (find (is_of peer id) (alive now seen)) (found (is_of peer id) (alive now seen) (alive_short now seen short))

-- what is looked up, where it is found
pub looked_fits : (seen : List Entry) (now : Moment) (peer : Peer) (id : ℕ) (found : Remembered) → AreShort seen → looked now peer id seen ≡ Some found → IsSendableReply found.reply
looked_fits seen now peer id found short is =
    let same : noted_reply seen now peer id ≡ found.reply = ap (λ o. option_and_then (λ (noted : Remembered). noted.reply) o) is in
    subst IsSendableReply same (reply_fits seen now peer id short)

-- ---- what is sent

pub one_fits : (peer : Peer) (bytes : Bytes) (out : List Datagram) → FitsDatagram bytes → out ≡ (record { to = peer; bytes = bytes }) ∷ [] → AreSendable out
one_fits peer bytes out fits is =
    rw is (All-push (λ sent. FitsDatagram sent.bytes) [] (record { to = peer; bytes = bytes }) (All-nil (λ sent. FitsDatagram sent.bytes)) fits)
