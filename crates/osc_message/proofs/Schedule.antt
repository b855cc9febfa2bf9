-- A message's ticks are those of the schedule.
use Rattle.std.proofs.Common.{◌≡◌, ℕ, ◌≤◌, Bool, true, false, cond, ltb, List, [], ◌∷◌, length, filter, suc, refl, ap, sym, Some, arith}
use Rattle.osc_model.specs.declared.node.Moment.{Moment}
use Rattle.osc_message.specs.declared.due.Due.{Due}
use Rattle.osc_message.specs.declared.due.Due.TheVariants.{Keep, Send, GiveUp}
use Rattle.osc_message.specs.{Sent, Open, due_at, sent_again, done_at, done_over, on_first, schedule, is_sending}

-- one more retransmission, where there are any left
sends : (message : Open) (sent : Sent) → ltb sent.repeats 4 ≡ true → (does : Moment → List Moment → List (Moment × Due))
    → ((now : Moment) (later : List Moment) → does now later ≡ (now, Send) ∷ done_over message (sent_again now (Some sent)) later)
    → (ticks : List Moment) → done_over message sent ticks ≡ on_first (due_at message sent) does ticks
sends message sent few does same [] = refl
sends message sent few does same (now ∷ later) = by (ltb now.ms (due_at message sent)) (ltb sent.repeats 4) few (sends message sent few does same later)
  where
    by : (early more : Bool) → more ≡ true → done_over message sent later ≡ on_first (due_at message sent) does later
        → done_at (cond early Keep (cond more Send GiveUp)) now (done_over message sent later) (done_over message (sent_again now (Some sent)) later)
        ≡ cond early (on_first (due_at message sent) does later) (does now later)
    by true more e up = up
    by false true e up = sym (same now later)
    by false false e up = absurd (cc)

ends : (message : Open) (sent : Sent) → ltb sent.repeats 4 ≡ false → (ticks : List Moment)
    → done_over message sent ticks ≡ on_first (due_at message sent) (λ now later. (now, GiveUp) ∷ []) ticks
ends message sent none [] = refl
ends message sent none (now ∷ later) = by (ltb now.ms (due_at message sent)) (ltb sent.repeats 4) none (ends message sent none later)
  where
    by : (early more : Bool) → more ≡ false → done_over message sent later ≡ on_first (due_at message sent) (λ now later. (now, GiveUp) ∷ []) later
        → done_at (cond early Keep (cond more Send GiveUp)) now (done_over message sent later) (done_over message (sent_again now (Some sent)) later)
        ≡ cond early (on_first (due_at message sent) (λ now later. (now, GiveUp) ∷ []) later) ((now, GiveUp) ∷ [])
    by true more e up = up
    by false false e up = refl
    by false true e up = absurd (cc)

abbrev pub after_sends : Moment → ℕ → Sent
after_sends went n = record { at = went; repeats = n }

behind : (now : Moment) {xs ys : List (Moment × Due)} → xs ≡ ys → (now, Send) ∷ xs ≡ (now, Send) ∷ ys
behind now e = ap (λ zs. (now, Send) ∷ zs) e

pub on_schedule : (message : Open) (went : Moment) (ticks : List Moment) → done_over message (record { at = went; repeats = 0 }) ticks ≡ schedule went message.timeout ticks
on_schedule message went ticks =
    sends message (after_sends went 0) refl _ (λ now later. behind now (sym (
    sends message (after_sends went 1) refl _ (λ now later. behind now (sym (
    sends message (after_sends went 2) refl _ (λ now later. behind now (sym (
    sends message (after_sends went 3) refl _ (λ now later. behind now (sym (
    ends message (after_sends went 4) refl later))) later))) later))) later))) ticks

-- ---- at most four times

first_few : (n moment : ℕ) (does : Moment → List Moment → List (Moment × Due)) → ((now : Moment) (later : List Moment) → length (filter is_sending (does now later)) ≤ n)
    → (ticks : List Moment) → length (filter is_sending (on_first moment does ticks)) ≤ n
first_few n moment does few [] = omega arith
first_few n moment does few (now ∷ later) = by (ltb now.ms moment) (first_few n moment does few later)
  where
    by : (early : Bool) → length (filter is_sending (on_first moment does later)) ≤ n → length (filter is_sending (cond early (on_first moment does later) (does now later))) ≤ n
    by true up = up
    by false up = few now later

one_more : (n moment : ℕ) (does : Moment → List Moment → List (Moment × Due)) → ((now : Moment) (later : List Moment) → length (filter is_sending (does now later)) ≤ n)
    → (now : Moment) (later : List Moment) → length (filter is_sending ((now, Send) ∷ on_first moment does later)) ≤ suc n
one_more n moment does few now later = omega (arith, first_few n moment does few later)

none_sent : (now : Moment) → length (filter is_sending ((now, GiveUp) ∷ [])) ≤ 0
none_sent now = omega arith

pub four_at_most : (message : Open) (went : Moment) (ticks : List Moment) → length (filter is_sending (done_over message (record { at = went; repeats = 0 }) ticks)) ≤ 4
four_at_most message went ticks =
    rw (on_schedule message went ticks)
    (first_few 4 _ _ (one_more 3 _ _ (one_more 2 _ _ (one_more 1 _ _ (one_more 0 _ _ (λ now later. none_sent now))))) ticks)
