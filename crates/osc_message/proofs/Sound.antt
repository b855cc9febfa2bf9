-- What holds of the open messages at all times.
use Rattle.std.proofs.Common.{◌≡◌, ℕ, ◌+◌, ◌*◌, ◌<◌, ◌≤◌, Bool, true, false, cond, ltb, List, [], ◌∷◌, ◌++◌, length, length-append, filter, refl, ap, sym, subst, ◌∙◌, Option, Some, None, arith}
use Rattle.std.specs.List.{All, filter_map, zip, cons_option}
use Rattle.std.proofs.lemmas.Bool.{ltb-true}
use Rattle.std.proofs.lemmas.List.Elements.{All-nil, All-cons, All-head, All-tail, All-push, All-filter}
use Rattle.osc_model.specs.declared.bytes.Bytes.{Bytes}
use Rattle.osc_model.specs.declared.node.Moment.{Moment}
use Rattle.osc_model.specs.declared.node.Peer.{Peer}
use Rattle.osc_message.specs.declared.due.Due.{Due}
use Rattle.osc_message.specs.declared.due.Due.TheVariants.{Keep, Send, GiveUp}
use Rattle.osc_message.specs.Pace.{Pace}
use Rattle.osc_message.specs.{Sent, Open, goes_at_once, takes, sent_at, with_open, FitsDatagram, AreSendable, GoesOut, datagram_of, tick_sends, due_at, due_of, dues, dues_of, sent_again, after, ticked, IsBoundedSent, IsBounded, IsSound, IsSoundQueue, messages, repeated_to, slowed, tick_repeats}
use Rattle.osc_message.specs.declared.queued.Queued.{Queued}
use Rattle.osc_model.specs.declared.step.Datagram.{Datagram}
use Rattle.osc_message.proofs.Limits.{limits_nil, limits_filter, limits_paced, limits_push, limits_ticked, most_messages}

-- ---- what is due of each, beside the messages

pub length_dues : (pace : Pace) (now : Moment) (all earlier later : List Open) → length (filter_map (λ pair. Some pair.1) (dues pace now all earlier later)) ≡ length later
length_dues pace now all earlier [] = refl
length_dues pace now all earlier (message ∷ later) = omega (arith, length_dues pace now all (earlier ++ message ∷ []) later)

pub zip_dues : (pace : Pace) (now : Moment) (all earlier later : List Open) → zip later (filter_map (λ pair. Some pair.1) (dues pace now all earlier later)) ≡ dues pace now all earlier later
zip_dues pace now all earlier [] = refl
zip_dues pace now all earlier (message ∷ later) =
    ap (λ rest. (message, due_of pace now all earlier message message.sent) ∷ rest) (zip_dues pace now all (earlier ++ message ∷ []) later)

-- the dues alone
abbrev pub due_part : List (Open × Due) → List Due
due_part pairs = filter_map (λ pair. Some pair.1) pairs

pub each_due : (pace : Pace) (now : Moment) (all : List Open) (ds : List Due) → ds ≡ due_part (dues_of pace now all) → length ds ≡ length all
each_due pace now all ds planned = ap length planned ∙ length_dues pace now all [] all

pub done_ticked : (pace : Pace) (now : Moment) (all : List Open) (ds : List Due) (ys : List Open) → ds ≡ due_part (dues_of pace now all) → ys ≡ filter_map (after now) (zip all ds) → ys ≡ ticked pace now all
done_ticked pace now all ds ys planned done =
    done ∙ ap (λ d. filter_map (after now) (zip all d)) planned ∙ ap (λ pairs. filter_map (after now) pairs) (zip_dues pace now all [] all)

pub done_slowed : (pace : Pace) (now : Moment) (sending seen : List Queued) (ds : List Due) (new : Pace) → seen ≡ sending → ds ≡ due_part (dues_of pace now (messages sending))
    → new ≡ slowed (filter_map repeated_to (zip (messages seen) ds)) pace → new ≡ slowed (tick_repeats pace now (messages sending)) pace
done_slowed pace now sending seen ds new same planned done =
    let all = messages sending in
    done ∙ ap (λ xs. slowed (filter_map repeated_to (zip (messages xs) ds)) pace) same ∙ ap (λ d. slowed (filter_map repeated_to (zip all d)) pace) planned ∙ ap (λ pairs. slowed (filter_map repeated_to pairs) pace) (zip_dues pace now all [] all)

-- ---- bounds

bounded_waiting : (now : Moment) (message : Open) → message.timeout ≤ 3000 → (b : Bool) (later : List Open) → message.sent ≡ None
    → All IsBounded later → All IsBounded (cons_option (after now (message, cond b Send Keep)) later)
bounded_waiting now message timeout false later waits all = let bound : IsBoundedSent message.sent = rw waits tt in All-cons IsBounded message later (timeout, bound) all
bounded_waiting now message timeout true later waits all =
    let bound : IsBoundedSent (Some (sent_again now message.sent)) = subst (λ s. IsBoundedSent (Some (sent_again now s))) (sym waits) (omega arith) in
    All-cons IsBounded _ later (timeout, bound) all

bounded_outstanding : (now : Moment) (message : Open) (sent : Sent) → message.timeout ≤ 3000 → IsBoundedSent (Some sent) → (early few : Bool) (later : List Open)
    → message.sent ≡ Some sent → ltb sent.repeats 4 ≡ few
    → All IsBounded later → All IsBounded (cons_option (after now (message, cond early Keep (cond few Send GiveUp))) later)
bounded_outstanding now message sent timeout bound true few later went e all = let kept : IsBoundedSent message.sent = rw went bound in All-cons IsBounded message later (timeout, kept) all
bounded_outstanding now message sent timeout bound false true later went e all =
    let bound : IsBoundedSent (Some (sent_again now message.sent)) = subst (λ s. IsBoundedSent (Some (sent_again now s))) (sym went) (omega (arith, ltb-true sent.repeats 4 e)) in
    All-cons IsBounded _ later (timeout, bound) all
bounded_outstanding now message sent timeout bound false false later went e all = all

bounded_after : (pace : Pace) (now : Moment) (all earlier : List Open) (message : Open) (sent : Option Sent) (later : List Open) → message.sent ≡ sent → message.timeout ≤ 3000 → IsBoundedSent sent
    → All IsBounded later → All IsBounded (cons_option (after now (message, due_of pace now all earlier message sent)) later)
bounded_after pace now all earlier message None later is timeout bound rest = bounded_waiting now message timeout _ later is rest
bounded_after pace now all earlier message (Some sent) later is timeout bound rest =
    bounded_outstanding now message sent timeout bound (ltb now.ms (due_at message sent)) (ltb sent.repeats 4) later is refl rest

bounded_ticked : (pace : Pace) (now : Moment) (all earlier later : List Open) → All IsBounded later → All IsBounded (filter_map (after now) (dues pace now all earlier later))
bounded_ticked pace now all earlier [] bounded = All-nil IsBounded
bounded_ticked pace now all earlier (message ∷ later) bounded =
    let head = All-head IsBounded message later bounded in
    bounded_after pace now all earlier message message.sent _ refl head.0 head.1
    (bounded_ticked pace now all (earlier ++ message ∷ []) later (All-tail IsBounded message later bounded))

bounded_sent_at : (now : Moment) (goes : Bool) → IsBoundedSent (sent_at now goes)
bounded_sent_at now true = omega arith
bounded_sent_at now false = tt

-- ---- lengths

abbrev HasShortBytes : Open → Type 0
HasShortBytes message = FitsDatagram message.bytes

short_after : (now : Moment) (message : Open) (due : Due) (later : List Open) → HasShortBytes message → All HasShortBytes later
    → All HasShortBytes (cons_option (after now (message, due)) later)
short_after now message Keep later short rest = All-cons HasShortBytes message later short rest
short_after now message Send later short rest = All-cons HasShortBytes (record message { sent = Some (sent_again now message.sent) }) later short rest
short_after now message GiveUp later short rest = rest

short_ticked : (pace : Pace) (now : Moment) (all earlier later : List Open) → All HasShortBytes later → All HasShortBytes (filter_map (after now) (dues pace now all earlier later))
short_ticked pace now all earlier [] short = All-nil HasShortBytes
short_ticked pace now all earlier (message ∷ later) short =
    short_after now message (due_of pace now all earlier message message.sent) _ (All-head HasShortBytes message later short)
    (short_ticked pace now all (earlier ++ message ∷ []) later (All-tail HasShortBytes message later short))

abbrev Fits : Datagram → Type 0
Fits sent = FitsDatagram sent.bytes

fits_due : (message : Open) (due : Due) (later : List Datagram) → HasShortBytes message → All Fits later → All Fits (cons_option (datagram_of (message, due)) later)
fits_due message Keep later short rest = rest
fits_due message Send later short rest = All-cons Fits (record { to = message.to; bytes = message.bytes }) later short rest
fits_due message GiveUp later short rest = rest

fits_sent : (pace : Pace) (now : Moment) (all earlier later : List Open) → All HasShortBytes later → All Fits (filter_map datagram_of (dues pace now all earlier later))
fits_sent pace now all earlier [] short = All-nil Fits
fits_sent pace now all earlier (message ∷ later) short =
    fits_due message (due_of pace now all earlier message message.sent) _ (All-head HasShortBytes message later short)
    (fits_sent pace now all (earlier ++ message ∷ []) later (All-tail HasShortBytes message later short))

-- what a tick sends can be sent
pub ticks_fit : (pace : Pace) (now : Moment) (all : List Open) → IsSound pace all → AreSendable (tick_sends pace now all)
ticks_fit pace now all sound = fits_sent pace now all [] all sound.short

-- ---- what holds at all times

pub sound_nil : (pace : Pace) → IsSound pace []
sound_nil pace = record { bounded = All-nil IsBounded; limits = limits_nil pace; short = All-nil HasShortBytes }

pub sound_filter : (p : Open → Bool) (pace : Pace) (all : List Open) → IsSound pace all → IsSound pace (filter p all)
sound_filter p pace all sound = record { bounded = All-filter p IsBounded all sound.bounded; limits = limits_filter p pace all sound.limits; short = All-filter p HasShortBytes all sound.short }

pub sound_push : (pace : Pace) (now : Moment) (to : Peer) (id timeout : ℕ) (bytes : Bytes) (all : List Open) → timeout ≤ 3000 → FitsDatagram bytes → takes to all ≡ true → IsSound pace all
    → IsSound pace (with_open pace now to id timeout bytes all)
sound_push pace now to id timeout bytes all bound short taken sound = record {
  bounded = All-push IsBounded all _ sound.bounded (bound, bounded_sent_at now (goes_at_once pace to all));
  limits = limits_push pace now to id timeout bytes all taken sound.limits;
  short = All-push HasShortBytes all _ sound.short short;
}

pub sound_ticked : (pace : Pace) (now : Moment) (all : List Open) → IsSound pace all → IsSound pace (ticked pace now all)
sound_ticked pace now all sound = record { bounded = bounded_ticked pace now all [] all sound.bounded; limits = limits_ticked pace now all sound.limits; short = short_ticked pace now all [] all sound.short }

-- by another pace, where as many may be outstanding
pub sound_paced : (pace other : Pace) (all : List Open) → pace.more ≡ other.more → IsSound pace all → IsSound other all
sound_paced pace other all same sound = record { bounded = sound.bounded; limits = limits_paced pace other all same sound.limits; short = sound.short }

pub queue_paced : (pace other : Pace) (queue : List Queued) → pace.more ≡ other.more → IsSoundQueue pace queue → IsSoundQueue other queue
queue_paced pace other queue same whole = record { sound = sound_paced pace other (messages queue) same whole.sound; placed = whole.placed }

-- one more that is taken has room
pub room_for_one : (pace : Pace) (to : Peer) (all : List Open) → takes to all ≡ true → IsSound pace all → length all < 64 * (17 + pace.more)
room_for_one pace to all taken sound =
    let now : Moment = record { ms = 0; early = omega arith } in
    let more : length (with_open pace now to 0 0 [] all) ≤ 64 * (17 + pace.more) = most_messages pace (with_open pace now to 0 0 [] all) (limits_push pace now to 0 0 [] all taken sound.limits) in
    omega (arith, more, length-append all ((record { to = to; id = 0; timeout = 0; bytes = []; sent = sent_at now (goes_at_once pace to all) }) ∷ []))

pub going_out_fits : (pace : Pace) (now : Moment) (all : List Open) (lost : Bool) (out : List Datagram) → IsSound pace all → GoesOut lost (tick_sends pace now all) out → AreSendable out
going_out_fits pace now all false out sound is = subst AreSendable (sym is) (ticks_fit pace now all sound)
going_out_fits pace now all true out sound is = subst AreSendable (sym is) (All-nil (λ sent. FitsDatagram sent.bytes))

-- what was planned, however it is looked at
pub plan_is : (pace : Pace) (now : Moment) (sending seen : List Queued) (made ds : List Due) → seen ≡ sending → made ≡ due_part (dues_of pace now (messages seen)) → ds ≡ made
    → ds ≡ due_part (dues_of pace now (messages sending))
plan_is pace now sending seen made ds same done is = is ∙ done ∙ ap (λ xs. due_part (dues_of pace now (messages xs))) same
