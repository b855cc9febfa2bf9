-- When a confirmable message goes out that nobody acknowledges (RFC 7252 section 4.2), over the ticks that come.
use Rattle.std.specs.Prelude.{ℕ, ◌+◌, ◌-◌, ◌*◌, ◌^◌, Bool, true, false, nat_lt, if◌then◌else◌, List, [], ◌∷◌, ◌++◌, length, drop, Some}
use Rattle.osc_model.specs.declared.node.Moment.{Moment}
use Rattle.osc_message.specs.declared.due.Due.{Due}
use Rattle.osc_message.specs.declared.due.Due.TheVariants.{Keep, Send, GiveUp}
use Rattle.osc_message.specs.Confirmables.{Sent, Open}
use Rattle.osc_message.specs.Pace.{Pace}
use Rattle.osc_message.specs.Ticks.{outstanding_due, dues_of, sent_again}

-- what one tick does, before what the later ones do with the message as it is kept, or as it is once it was sent again
abbrev pub done_at : Due → Moment → List (Moment × Due) → List (Moment × Due) → List (Moment × Due)
done_at Keep now kept again = kept
done_at Send now kept again = (now, Send) ∷ again
done_at GiveUp now kept again = (now, GiveUp) ∷ []

-- the ticks that do something with an outstanding message, each with what was due of it
abbrev pub done_over : Open → Sent → List Moment → List (Moment × Due)
done_over message sent [] = []
done_over message sent (now ∷ later) =
    done_at (outstanding_due now message sent) now (done_over message sent later) (done_over message (sent_again now (Some sent)) later)

-- what a tick does with the first of these messages, before what the later ones do with it
abbrev pub first_done : Moment → List (Open × Due) → (Open → List (Moment × Due)) → List (Moment × Due)
first_done now [] later = []
first_done now ((message, Keep) ∷ dues) later = later message
first_done now ((message, Send) ∷ dues) later = (now, Send) ∷ later (record message { sent = Some (sent_again now message.sent) })
first_done now ((message, GiveUp) ∷ dues) later = (now, GiveUp) ∷ []

-- the ticks that do something with an open message, where each tick comes with the pace, and with what is before and after the message then
abbrev pub done_among : List (Moment × Pace × List Open × List Open) → Open → List (Moment × Due)
done_among [] = λ message. []
done_among ((now, pace, before, behind) ∷ later) =
    λ message. first_done now (drop (length before) (dues_of pace now (before ++ message ∷ behind))) (done_among later)

-- ---- what the standard wants

-- what is done on the first tick at or after this moment, and on those after it
abbrev pub on_first : ℕ → (Moment → List Moment → List (Moment × Due)) → List Moment → List (Moment × Due)
on_first moment does [] = []
on_first moment does (now ∷ later) = if nat_lt now.ms moment then on_first moment does later else does now later

-- A message that went out at a moment goes out again on the first tick at or after (2^1 - 1) times its timeout later, and
-- so on after that one, up to (2^4 - 1) times; on the first tick after these at or after (2^5 - 1) times it is given up.
abbrev pub schedule : Moment → ℕ → List Moment → List (Moment × Due)
schedule went timeout ticks =
    let after : ℕ → ℕ = λ k. went.ms + (2 ^ k - 1) * timeout in
    on_first (after 1) (λ now later. (now, Send) ∷
    on_first (after 2) (λ now later. (now, Send) ∷
    on_first (after 3) (λ now later. (now, Send) ∷
    on_first (after 4) (λ now later. (now, Send) ∷
    on_first (after 5) (λ now later. (now, GiveUp) ∷ []) later) later) later) later) ticks

abbrev pub is_sending : Moment × Due → Bool
is_sending (now, Send) = true
is_sending (now, due) = false
