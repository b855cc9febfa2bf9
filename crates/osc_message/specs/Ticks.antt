-- What a tick does to the open confirmable messages (RFC 7252 sections 4.2 and 4.8), and when the next one has to come.
use Rattle.std.specs.Prelude.{ℕ, ◌+◌, ◌-◌, ◌*◌, ◌^◌, Bool, true, false, ◌&&◌, not, nat_eq, nat_lt, if◌then◌else◌, List, [], ◌∷◌, ◌++◌, Option, Some, None}
use Rattle.std.specs.List.{list_any, filter_map}
use Rattle.std.specs.Option.{option_map}
use Rattle.osc_model.specs.{same_peer}
use Rattle.osc_model.specs.declared.node.Moment.{Moment}
use Rattle.osc_model.specs.declared.step.Datagram.{Datagram}
use Rattle.osc_message.specs.declared.due.Due.{Due}
use Rattle.osc_message.specs.declared.due.Due.TheVariants.{Keep, Send, GiveUp}
use Rattle.osc_message.specs.declared.name.MessageName.{MessageName}
use Rattle.osc_model.specs.declared.node.Peer.{Peer}
use Rattle.osc_message.specs.Confirmables.{Sent, Open, outstanding, waiting}
use Rattle.osc_message.specs.Pace.{Pace, allowed}

-- MAX_RETRANSMIT (section 4.8)
abbrev pub most_repeats : ℕ
most_repeats = 4

-- when what comes next of an outstanding message is due: the timeout doubles with each retransmission, so retransmission k is
-- due (2^k - 1) times the timeout after it first went out, and after the last one the message is given up likewise
abbrev pub due_at : Open → Sent → ℕ
due_at message sent = sent.at.ms + (2 ^ (sent.repeats + 1) - 1) * message.timeout

-- One thing at most is due: a retransmission, or the giving up after the last one.
abbrev pub outstanding_due : Moment → Open → Sent → Due
outstanding_due now message sent =
    if nat_lt now.ms (due_at message sent) then Keep else if nat_lt sent.repeats most_repeats then Send else GiveUp

-- A waiting message goes out where those that are outstanding to its peer, and those that wait for it and were made before, are fewer than
-- are allowed.
abbrev pub waiting_due : Pace → List Open → List Open → Open → Due
waiting_due pace all earlier message =
    if nat_lt (outstanding message.to all + waiting message.to earlier) (allowed pace message.to) then Send else Keep

abbrev pub due_of : Pace → Moment → List Open → List Open → Open → Option Sent → Due
due_of pace now all earlier message None = waiting_due pace all earlier message
due_of pace now all earlier message (Some sent) = outstanding_due now message sent

-- each message with what is due, where `earlier` were made before and `all` stood there when the tick came
abbrev pub dues : Pace → Moment → List Open → List Open → List Open → List (Open × Due)
dues pace now all earlier [] = []
dues pace now all earlier (message ∷ later) = (message, due_of pace now all earlier message message.sent) ∷ dues pace now all (earlier ++ message ∷ []) later

abbrev pub dues_of : Pace → Moment → List Open → List (Open × Due)
dues_of pace now all = dues pace now all [] all

-- ---- what is sent, what goes out for the first time, what stays, what is given up

abbrev pub datagram_of : Open × Due → Option Datagram
datagram_of (message, Send) = Some (record { to = message.to; bytes = message.bytes })
datagram_of (message, due) = None

abbrev pub name_of : Open → MessageName
name_of message = record { peer = message.to; id = message.id }

-- the first time it goes out, or one more
abbrev pub sent_again : Moment → Option Sent → Sent
sent_again now None = record { at = now; repeats = 0 }
sent_again now (Some sent) = record sent { repeats = sent.repeats + 1 }

abbrev pub after : Moment → Open × Due → Option Open
after now (message, Keep) = Some message
after now (message, Send) = Some (record message { sent = Some (sent_again now message.sent) })
after now (message, GiveUp) = None

abbrev pub given_up_of : Open × Due → Option MessageName
given_up_of (message, GiveUp) = Some (name_of message)
given_up_of (message, due) = None

-- the peer to which one is sent again
abbrev pub repeated_to : Open × Due → Option Peer
repeated_to (message, Send) = option_map (λ sent. message.to) message.sent
repeated_to (message, due) = None

abbrev pub ticked : Pace → Moment → List Open → List Open
ticked pace now all = filter_map (after now) (dues_of pace now all)

abbrev pub tick_sends : Pace → Moment → List Open → List Datagram
tick_sends pace now all = filter_map datagram_of (dues_of pace now all)

abbrev pub tick_gives_up : Pace → Moment → List Open → List MessageName
tick_gives_up pace now all = filter_map given_up_of (dues_of pace now all)

abbrev pub tick_repeats : Pace → Moment → List Open → List Peer
tick_repeats pace now all = filter_map repeated_to (dues_of pace now all)

-- ---- whether a tick does anything

abbrev pub is_kept : Due → Bool
is_kept Keep = true
is_kept due = false

abbrev pub acts : Pace → Moment → List Open → Bool
acts pace now all = list_any (λ pair. not (is_kept pair.1)) (dues_of pace now all)

-- one that was outstanding is given up
abbrev pub is_over : Due → Bool
is_over GiveUp = true
is_over due = false

abbrev pub gives_up_by : Moment → Open → Option Sent → Bool
gives_up_by now message None = false
gives_up_by now message (Some sent) = is_over (outstanding_due now message sent)

abbrev pub gives_up : Moment → Open → Bool
gives_up now message = gives_up_by now message message.sent

-- a name that is this peer's and this message ID
abbrev pub names : Peer → ℕ → MessageName → Bool
names peer id name = same_peer peer name.peer && nat_eq id name.id
