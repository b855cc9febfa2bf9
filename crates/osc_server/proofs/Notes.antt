-- What answered each message that is noted was a message.
use Rattle.std.proofs.Common.{◌≡◌, ℕ, ◌+◌, ◌-◌, Bool, true, false, cond, List, [], ◌∷◌, length, find, drop, Option, Some, None, refl, subst, sym, ◌∙◌, arith}
use Rattle.std.specs.Prelude.{not, ◌&&◌, if◌then◌else◌, option_and_then}
use Rattle.std.specs.List.{All}
use Rattle.std.specs.Option.{ForSome, option_map}
use Rattle.std.proofs.lemmas.List.Elements.{All-nil, All-head, All-tail, All-push, All-filter, All-drop}
use Rattle.std.proofs.lemmas.Option.{same_Some}
use Rattle.osc_coap.specs.declared.kind.Kind.{Kind}
use Rattle.osc_coap.specs.declared.kind.Kind.TheVariants.{Confirmable, NonConfirmable, Acknowledgement, Reset}
use Rattle.osc_coap.specs.{HasSpelling, Spells, spelling}
use Rattle.osc_coap.specs.Message.{Message}
use Rattle.osc_dedup.specs.declared.table.Remembered.{Remembered}
use Rattle.osc_dedup.specs.{most_entries, Entry, is_alive, is_of, staying, with_note, alive}
use Rattle.osc_model.specs.Arrival.{Arrival}
use Rattle.osc_model.specs.declared.bytes.Bytes.{Bytes}
use Rattle.osc_model.specs.declared.node.Draw.{Draw}
use Rattle.osc_model.specs.declared.node.Moment.{Moment}
use Rattle.osc_model.specs.declared.node.Peer.{Peer}
use Rattle.osc_model.specs.declared.step.Datagram.{Datagram}
use Rattle.osc_message.specs.declared.handling.Handling.TheVariants.{Dropped, Answered}
use Rattle.osc_message.specs.declared.heard.Heard.TheVariants as heard
use Rattle.osc_message.specs.{Open, EndpointState, id_taken, noted, settled, acknowledged_by, after_tick, acts, tick_sends, AnswersAlone, IsAlone, IsSendableHeard, ignores, noted_reply, rejects, repeats, AreSendable, FitsDatagram, GoesOut, again, datagram, is_confirmable, rejection, replied, reset}
use Rattle.osc_message.specs.declared.heard.Heard.{Heard}
use Rattle.osc_server.specs.Inner.Parts.{HeardSendsTo, IsMessage, IsQuiet, IsSentAs, KeepsMessages, SendsTo, noted_by}

abbrev IsKept : Entry → Type 0
IsKept entry = ForSome entry.noted.reply IsMessage

-- ---- a note more

with_note_kept : (now : Moment) (peer : Peer) (id : ℕ) (new : Remembered) (seen : List Entry) → ForSome new.reply IsMessage → KeepsMessages seen → KeepsMessages (with_note now peer id new seen)
with_note_kept now peer id new seen message kept =
    let others = staying now peer id seen in
    let stay : All IsKept others = All-filter (λ entry. is_alive now entry && not (is_of peer id entry)) IsKept seen kept.noted in
    record {
      noted = All-push IsKept (drop (length others + 1 - most_entries) others) (record { peer = peer; id = id; noted = new })
          (All-drop IsKept (length others + 1 - most_entries) others stay) message;
    }

noted_kept : (seen : List Entry) (now : Moment) (peer : Peer) (kind : Kind) (id : ℕ) (reply : Option Bytes) → ForSome reply IsMessage → KeepsMessages seen → KeepsMessages (noted now peer kind id reply seen)
noted_kept seen now peer Confirmable id reply message kept = with_note_kept now peer id _ seen message kept
noted_kept seen now peer NonConfirmable id reply message kept = with_note_kept now peer id _ seen message kept
noted_kept seen now peer Acknowledgement id reply message kept = kept
noted_kept seen now peer Reset id reply message kept = kept

these : (bytes : Bytes) → IsMessage bytes → ForSome (Some bytes) IsMessage
these bytes message = λ same e. subst IsMessage (same_Some bytes same e) message

-- where nothing is open, nothing is acknowledged
nothing_acknowledged : (peer : Peer) (kind : Kind) (id : ℕ) → acknowledged_by peer kind id [] ≡ []
nothing_acknowledged peer Confirmable id = refl
nothing_acknowledged peer NonConfirmable id = refl
nothing_acknowledged peer Acknowledgement id = refl
nothing_acknowledged peer Reset id = refl

still_nothing : (peer : Peer) (kind : Kind) (id : ℕ) (sending : List Open) → sending ≡ [] → acknowledged_by peer kind id sending ≡ []
still_nothing peer kind id sending e = rw e (nothing_acknowledged peer kind id)

settled_quiet : (state : EndpointState) (now : Moment) (peer : Peer) (message : Message) (bytes : Bytes) → IsMessage bytes → IsQuiet state → IsQuiet (settled state now peer (heard.Message message) (Answered (Some bytes)))
settled_quiet state now peer message bytes spelled quiet = record {
  messages = noted_kept state.seen now peer message.kind message.id (Some bytes) (these bytes spelled) quiet.messages;
  nothing_open = still_nothing peer message.kind message.id state.sending quiet.nothing_open;
}

-- a reply that takes a message ID notes nothing yet
replied_quiet : (draw : Draw) (request : Message) (state : EndpointState) → IsQuiet state → IsQuiet (replied draw request state)
replied_quiet draw request state quiet = by (is_confirmable request.kind)
  where
    by : (b : Bool) → IsQuiet (if b then state else id_taken draw state)
    by true = quiet
    by false = record { messages = quiet.messages; nothing_open = quiet.nothing_open }

-- an answer to a new request
pub noted_quiet : (state : EndpointState) (came : Arrival Message) (reply : Bytes) → IsMessage reply → IsQuiet state → IsQuiet (noted_by state came reply)
noted_quiet state came reply message quiet =
    settled_quiet (replied came.draw came.what state) came.at came.from came.what reply message (replied_quiet came.draw came.what state quiet)

-- an empty message
pub empty_quiet : (state : EndpointState) (now : Moment) (peer : Peer) (kind : Kind) (id : ℕ) → IsQuiet state → IsQuiet (settled state now peer (heard.Empty kind id) Dropped)
empty_quiet state now peer kind id quiet = record { messages = quiet.messages; nothing_open = rw quiet.nothing_open refl }

-- ---- a tick

-- where nothing is open, a tick does nothing but let notes go
pub record IsQuietTick (now : Moment) (state : EndpointState) : Type 0 where
  pub sends : tick_sends state.pace now state.sending ≡ []
  pub rests : acts state.pace now state.sending ≡ false
  pub stays : IsQuiet (after_tick now state)

pub quiet_tick : (now : Moment) (state : EndpointState) → IsQuiet state → IsQuietTick now state
quiet_tick now state quiet = record {
  sends = rw quiet.nothing_open refl;
  rests = rw quiet.nothing_open refl;
  stays = record {
    messages = record { noted = All-filter (is_alive now) IsKept state.seen quiet.messages.noted };
    nothing_open = rw quiet.nothing_open refl;
  };
}

-- ---- what is noted

abbrev IfKept : Option Entry → Type 0
IfKept None = Unit {0}
IfKept (Some entry) = IsKept entry

found : (test : Entry → Bool) (seen : List Entry) → All IsKept seen → IfKept (find test seen)
found test [] all = tt
found test (entry ∷ seen) all =
    elim (test entry) as (λ b. IfKept (cond b (Some entry) (find test seen))) [
      | true ↦ All-head IsKept entry seen all
      | false ↦ found test seen (All-tail IsKept entry seen all)
    ]

abbrev reply_of : Option Entry → Option Bytes
reply_of None = None
reply_of (Some entry) = entry.noted.reply

reply_kept : (entry : Option Entry) → IfKept entry → ForSome (reply_of entry) IsMessage
reply_kept None kept = λ bytes e. absurd (cc)
reply_kept (Some entry) kept = kept

reply_is : (entry : Option Entry) → option_and_then (λ noted. noted.reply) (option_map (λ entry. entry.noted) entry) ≡ reply_of entry
reply_is None = refl
reply_is (Some entry) = refl

pub noted_message : (seen : List Entry) (now : Moment) (peer : Peer) (id : ℕ) → KeepsMessages seen → ForSome (noted_reply seen now peer id) IsMessage
noted_message seen now peer id kept =
    rw (reply_is (find (is_of peer id) (alive now seen)))
    (reply_kept (find (is_of peer id) (alive now seen)) (found (is_of peer id) (alive now seen) (All-filter (is_alive now) IsKept seen kept.noted)))

-- ---- what is sent

pub sent_again : (peer : Peer) (bytes : Bytes) → IsMessage bytes → FitsDatagram bytes → SendsTo peer ((record { to = peer; bytes = bytes }) ∷ [])
sent_again peer bytes message fits = record {
  one = omega arith;
  messages = All-push (λ sent. IsMessage sent.bytes) [] (record { to = peer; bytes = bytes }) (All-nil (λ sent. IsMessage sent.bytes)) message;
  fits = All-push (λ sent. FitsDatagram sent.bytes) [] (record { to = peer; bytes = bytes }) (All-nil (λ sent. FitsDatagram sent.bytes)) fits;
  addressed = All-push (λ sent. sent.to ≡ peer) [] (record { to = peer; bytes = bytes }) (All-nil (λ sent. sent.to ≡ peer)) refl;
}

-- a message goes to its sender in these bytes, which are kept
pub sent_once : (peer : Peer) (message : Message) (bytes reply : Bytes) (out : List Datagram) → Spells bytes message → FitsDatagram bytes
    → out ≡ (record { to = peer; bytes = bytes }) ∷ [] → reply ≡ bytes → IsSentAs peer message out reply
sent_once peer message bytes reply out spells fits sent kept = record {
  spelled = record { lawful = spells.lawful; whole = refl };
  sent = subst (λ (b : Bytes). out ≡ (record { to = peer; bytes = b }) ∷ []) spells.whole sent;
  kept = kept ∙ spells.whole;
  fits = subst FitsDatagram (sym kept) fits;
  sendable = subst (SendsTo peer) (sym sent) (sent_again peer bytes (message, spells) fits);
}

-- what answered a message before goes to its sender again
pub repeat_sends : (peer : Peer) (reply : Option Bytes) → ForSome reply IsMessage → AreSendable (again peer reply) → SendsTo peer (again peer reply)
repeat_sends peer None message fits = record {
  one = omega arith;
  messages = All-nil (λ sent. IsMessage sent.bytes);
  fits = fits;
  addressed = All-nil (λ sent. sent.to ≡ peer);
}
repeat_sends peer (Some bytes) message fits = sent_again peer bytes (message bytes refl) (All-head (λ sent. FitsDatagram sent.bytes) (record { to = peer; bytes = bytes }) [] fits)

nothing_sends : (peer : Peer) → SendsTo peer []
nothing_sends peer = repeat_sends peer None (λ bytes e. absurd (cc)) (All-nil (λ sent. FitsDatagram sent.bytes))

reset_sends : (peer : Peer) (id : ℕ) → HasSpelling (reset id) → AreSendable (datagram peer (reset id) ∷ []) → SendsTo peer (datagram peer (reset id) ∷ [])
reset_sends peer id spelled fits =
    sent_again peer (spelling (reset id)) (reset id, record { lawful = spelled; whole = refl }) (All-head (λ sent. FitsDatagram sent.bytes) (datagram peer (reset id)) [] fits)

-- what rejects a message goes to its sender
pub rejection_sends : (peer : Peer) (kind : Kind) (id : ℕ) → HasSpelling (reset id) → AreSendable (rejection peer kind id) → SendsTo peer (rejection peer kind id)
rejection_sends peer Confirmable id spelled fits = reset_sends peer id spelled fits
rejection_sends peer NonConfirmable id spelled fits = nothing_sends peer
rejection_sends peer Acknowledgement id spelled fits = nothing_sends peer
rejection_sends peer Reset id spelled fits = nothing_sends peer

alone_sends : (seen : List Entry) (now : Moment) (peer : Peer) (out : List Datagram) → KeepsMessages seen → IsAlone seen now peer out → AreSendable out → SendsTo peer out
alone_sends seen now peer out kept (ignores is) fits = rw is (nothing_sends peer)
alone_sends seen now peer out kept (rejects id spelled is) fits = subst (SendsTo peer) (sym is) (reset_sends peer id spelled (subst AreSendable is fits))
alone_sends seen now peer out kept (repeats id is) fits =
    subst (SendsTo peer) (sym is) (repeat_sends peer (noted_reply seen now peer id) (noted_message seen now peer id kept) (subst AreSendable is fits))

-- what the message layer answers goes to its sender
pub heard_sends : (seen : List Entry) (now : Moment) (peer : Peer) (it : Heard) → KeepsMessages seen → AnswersAlone seen now peer it → IsSendableHeard it → HeardSendsTo peer it
heard_sends seen now peer (heard.Alone out) kept alone fits = alone_sends seen now peer out kept alone fits
heard_sends seen now peer (heard.Empty kind id) kept alone fits = tt
heard_sends seen now peer (heard.Message message) kept alone fits = tt

-- nothing is due, so nothing goes out
pub nothing_goes : (lost : Bool) (due out : List Datagram) → due ≡ [] → GoesOut lost due out → out ≡ []
nothing_goes false due out none is = is ∙ none
nothing_goes true due out none is = is
