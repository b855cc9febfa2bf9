-- A tick at which nothing is due does nothing.
use Rattle.std.proofs.Common.{◌≡◌, true, false, not, List, [], ◌∷◌, ◌++◌, map, refl, ap, ◌∙◌, Option, None}
use Rattle.std.specs.List.{filter_map, cons_option, list_any}
use Rattle.osc_model.specs.declared.node.Moment.{Moment}
use Rattle.osc_message.specs.declared.due.Due.{Due}
use Rattle.osc_message.specs.declared.due.Due.TheVariants.{Keep, Send, GiveUp}
use Rattle.osc_message.specs.Pace.{Pace}
use Rattle.osc_message.specs.{Open, dues, dues_of, datagram_of, given_up_of, after, ticked, tick_sends, tick_gives_up, tick_repeats, repeated_to, is_kept, acts}

-- the outcome of messages that are kept, where nothing comes from one
none_of : {X : Type 0} (f : Open × Due → Option X) → ((message : Open) → f (message, Keep) ≡ None) → (pairs : List (Open × Due))
    → list_any (λ pair. not (is_kept pair.1)) pairs ≡ false → filter_map f pairs ≡ []
none_of f none [] idle = refl
none_of f none ((message, Keep) ∷ pairs) idle = ap (λ o. cons_option o (filter_map f pairs)) (none message) ∙ none_of f none pairs idle
none_of f none ((message, Send) ∷ pairs) idle = absurd (cc)
none_of f none ((message, GiveUp) ∷ pairs) idle = absurd (cc)

all_stay : (now : Moment) (pairs : List (Open × Due)) → list_any (λ pair. not (is_kept pair.1)) pairs ≡ false
    → filter_map (after now) pairs ≡ map (λ pair. pair.0) pairs
all_stay now [] idle = refl
all_stay now ((message, Keep) ∷ pairs) idle = ap (λ rest. message ∷ rest) (all_stay now pairs idle)
all_stay now ((message, Send) ∷ pairs) idle = absurd (cc)
all_stay now ((message, GiveUp) ∷ pairs) idle = absurd (cc)

messages : (pace : Pace) (now : Moment) (all earlier later : List Open) → map (λ pair. pair.0) (dues pace now all earlier later) ≡ later
messages pace now all earlier [] = refl
messages pace now all earlier (message ∷ later) = ap (λ rest. message ∷ rest) (messages pace now all (earlier ++ message ∷ []) later)

pub idle_sends : (pace : Pace) (now : Moment) (all : List Open) → acts pace now all ≡ false → tick_sends pace now all ≡ []
idle_sends pace now all idle = none_of datagram_of (λ message. refl) (dues_of pace now all) idle

pub idle_gives_up : (pace : Pace) (now : Moment) (all : List Open) → acts pace now all ≡ false → tick_gives_up pace now all ≡ []
idle_gives_up pace now all idle = none_of given_up_of (λ message. refl) (dues_of pace now all) idle

pub idle_ticked : (pace : Pace) (now : Moment) (all : List Open) → acts pace now all ≡ false → ticked pace now all ≡ all
idle_ticked pace now all idle = all_stay now (dues_of pace now all) idle ∙ messages pace now all [] all

pub idle_repeats : (pace : Pace) (now : Moment) (all : List Open) → acts pace now all ≡ false → tick_repeats pace now all ≡ []
idle_repeats pace now all idle = none_of repeated_to (λ message. refl) (dues_of pace now all) idle

pub not_kept : (due : Due) → (due ≡ Keep → ⊥) → not (is_kept due) ≡ true
not_kept Keep some = absurd (some refl)
not_kept Send some = refl
not_kept GiveUp some = refl
