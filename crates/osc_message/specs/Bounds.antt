-- Bounds on open messages, so that moments can be reckoned from them and all have room: no public contract names them.
use Rattle.std.specs.Prelude.{ℕ, ◌≤◌, ◌+◌, ◌*◌, Bool, false, nat_le, List, Option, Some, None}
use Rattle.std.specs.List.{All}
use Rattle.osc_model.specs.declared.node.Moment.{Moment}
use Rattle.osc_message.specs.Confirmables.{Sent, Open}
use Rattle.osc_message.specs.Limits.{IsWithinLimits}
use Rattle.osc_message.specs.Pace.{Pace}
use Rattle.osc_dedup.specs.{Entry}
use Rattle.osc_message.specs.Sending.{FitsDatagram, IsSendableReply}
use Rattle.osc_message.specs.Ticks.{most_repeats}

-- how many messages are open at most, where one at a time is outstanding to a peer: to each of 64 peers that one and 16 that wait
abbrev pub most_open : ℕ
most_open = 64 * 17

-- places for messages, where there are so many at one at a time: for each more there is one more for each of 64 peers
abbrev pub places : ℕ → Pace → ℕ
places own pace = own + 64 * pace.more

abbrev pub IsBoundedSent : Option Sent → Type 0
IsBoundedSent None = Unit {0}
IsBoundedSent (Some sent) = sent.repeats ≤ most_repeats

abbrev pub IsBounded : Open → Type 0
IsBounded message = (message.timeout ≤ 3000) × IsBoundedSent message.sent

-- what holds of the open messages at all times
pub record IsSound (pace : Pace) (all : List Open) : Type 0 where
  pub bounded : All IsBounded all
  pub limits : IsWithinLimits pace all
  pub short : All (λ message. FitsDatagram message.bytes) all

-- what answered each message that is noted can be sent again
abbrev pub AreShort : List Entry → Type 0
AreShort seen = All (λ entry. IsSendableReply entry.noted.reply) seen

-- whether a deadline is reached
abbrev pub is_reached : Moment → Option ℕ → Bool
is_reached now None = false
is_reached now (Some deadline) = nat_le deadline now.ms
