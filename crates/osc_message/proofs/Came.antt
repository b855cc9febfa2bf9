-- What is heard as a message is the message that came, and what the message layer answers by itself.
use Rattle.std.proofs.Common.{◌≡◌, ◌<◌, ◌^◌, ℕ, Bool, true, false, if◌then◌else◌, ◌==◌, List, refl, Option, Some, None, ap, subst}
use Rattle.std.specs.Prelude.{option_and_then}
use Rattle.osc_model.specs.declared.bytes.Bytes.{Bytes}
use Rattle.osc_model.specs.declared.node.Moment.{Moment}
use Rattle.osc_model.specs.declared.node.Peer.{Peer}
use Rattle.osc_coap.specs.{is_request_code, HasSpelling}
use Rattle.osc_coap.specs.Message.{Message as CoapMessage}
use Rattle.osc_coap.specs.declared.kind.Kind.{Kind}
use Rattle.osc_coap.specs.declared.kind.Kind.TheVariants.{Confirmable, NonConfirmable, Acknowledgement, Reset as ResetKind}
use Rattle.osc_dedup.specs.{Entry, looked}
use Rattle.osc_dedup.specs.declared.table.Remembered.{Remembered}
use Rattle.osc_message.specs.Heard as heard_of
use Rattle.osc_message.specs.{AnswersAlone, IsAlone, empty_heard, heard, ignores, is_reserved, new_or_repeated, noted_reply, rejected, rejects, repeats, HasShortId, Receives, rejection, reset}
use Rattle.osc_message.specs.declared.heard.Heard.{Heard}
use Rattle.osc_message.specs.declared.heard.Heard.TheVariants.{Alone, Empty, Message}
use Rattle.osc_message.specs.declared.received.Received.{Received}
use Rattle.osc_message.specs.declared.received.Received.TheVariants as received

-- what is heard where this came: a message is the one that came, and what is answered without the node, once Resets have a spelling, is one of three
abbrev Tells : Type 0 → List Entry → Moment → Peer → Received → Heard → Type 0
Tells Spelled seen now from came (Alone out) = Spelled → IsAlone seen now from out
Tells Spelled seen now from came (Empty kind id) = Unit {0}
Tells Spelled seen now from came (Message message) = came ≡ received.Message message

-- the Reset of what came, if its ID was made out
abbrev IsSpelled : Received → Type 0
IsSpelled received.Nothing = Unit {0}
IsSpelled (received.Malformed kind id) = HasSpelling (reset id)
IsSpelled (received.Message message) = HasSpelling (reset message.id)

rejection_is : (seen : List Entry) (now : Moment) (from : Peer) (kind : Kind) (id : ℕ) → HasSpelling (reset id) → IsAlone seen now from (rejection from kind id)
rejection_is seen now from Confirmable id spelled = rejects id spelled refl
rejection_is seen now from NonConfirmable id spelled = ignores refl
rejection_is seen now from Acknowledgement id spelled = ignores refl
rejection_is seen now from ResetKind id spelled = ignores refl

module _ (seen : List Entry) (now : Moment) (from : Peer) where
  abbrev Told : Received → Heard → Type 0
  Told came h = Tells (IsSpelled came) seen now from came h

  empty_tells : (x : CoapMessage) (kind : Kind) → Told (received.Message x) (empty_heard from kind x.id)
  empty_tells x Confirmable = λ spelled. rejects x.id spelled refl
  empty_tells x NonConfirmable = λ spelled. ignores refl
  empty_tells x Acknowledgement = tt
  empty_tells x ResetKind = tt

  repeated_tells : (x : CoapMessage) (kind : Kind) (reply : Option Bytes) → noted_reply seen now from x.id ≡ reply
      → Told (received.Message x) (heard_of.repeated from kind reply)
  repeated_tells x Confirmable reply is = λ spelled. repeats x.id (rw is refl)
  repeated_tells x NonConfirmable reply is = λ spelled. ignores refl
  repeated_tells x Acknowledgement reply is = λ spelled. ignores refl
  repeated_tells x ResetKind reply is = λ spelled. ignores refl

  looked_tells : (x : CoapMessage) (found : Option Remembered) → looked now from x.id seen ≡ found → Told (received.Message x) (new_or_repeated from x found)
  looked_tells x None is = refl
  looked_tells x (Some noted) is = repeated_tells x x.kind noted.reply (ap (λ o. option_and_then (λ (n : Remembered). n.reply) o) is)

  acknowledgement_tells : (asks : Bool) (x : CoapMessage) → Told (received.Message x) (if asks then heard_of.ignored else Message x)
  acknowledgement_tells true x = λ spelled. ignores refl
  acknowledgement_tells false x = refl

  carried_tells : (kind : Kind) (x : CoapMessage) → Told (received.Message x) (heard_of.carried seen now from kind x)
  carried_tells Acknowledgement x = acknowledgement_tells (is_request_code x.code) x
  carried_tells ResetKind x = λ spelled. ignores refl
  carried_tells Confirmable x = looked_tells x (looked now from x.id seen) refl
  carried_tells NonConfirmable x = looked_tells x (looked now from x.id seen) refl

  message_tells : (is_empty reserved : Bool) (x : CoapMessage)
      → Told (received.Message x)
      (if is_empty then empty_heard from x.kind x.id else if reserved then rejected from x.kind x.id else heard_of.carried seen now from x.kind x)
  message_tells true reserved x = empty_tells x x.kind
  message_tells false true x = λ spelled. rejection_is seen now from x.kind x.id spelled
  message_tells false false x = carried_tells x.kind x

  heard_tells : (came : Received) → Told came (heard seen now from came)
  heard_tells received.Nothing = λ spelled. ignores refl
  heard_tells (received.Malformed kind id) = λ spelled. rejection_is seen now from kind id spelled
  heard_tells (received.Message x) = message_tells (x.code == 0) (is_reserved x.code) x

pub heard_came : (seen : List Entry) (now : Moment) (from : Peer) (came : Received) (message : CoapMessage) → heard seen now from came ≡ Message message
    → came ≡ received.Message message
heard_came seen now from came message is = subst (Tells (IsSpelled came) seen now from came) is (heard_tells seen now from came)

-- what came from a datagram has a message ID of 16 bits
spelled_by : ((id : ℕ) → id < 2 ^ 16 → HasSpelling (reset id)) → (bytes : List ℕ) (came : Received) → Receives bytes came → HasShortId came → IsSpelled came
spelled_by resets bytes received.Nothing is short = tt
spelled_by resets bytes (received.Malformed kind id) is short = resets id short
spelled_by resets bytes (received.Message message) is short = resets message.id is.1.lawful.id

answered : (Spelled : Type 0) (seen : List Entry) (now : Moment) (from : Peer) (came : Received) (h : Heard) → Spelled → Tells Spelled seen now from came h
    → AnswersAlone seen now from h
answered Spelled seen now from came (Alone out) spelled tells = tells spelled
answered Spelled seen now from came (Empty kind id) spelled tells = tt
answered Spelled seen now from came (Message message) spelled tells = tt

pub heard_alone : ((id : ℕ) → id < 2 ^ 16 → HasSpelling (reset id)) → (bytes : List ℕ) (seen : List Entry) (now : Moment) (from : Peer) (came : Received)
    → Receives bytes came → HasShortId came → AnswersAlone seen now from (heard seen now from came)
heard_alone resets bytes seen now from came is short =
    answered (IsSpelled came) seen now from came (heard seen now from came) (spelled_by resets bytes came is short) (heard_tells seen now from came)
