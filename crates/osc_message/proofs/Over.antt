-- Messages that a tick gives up, by their names; and the peers to which it sends one again.
use Rattle.std.proofs.Common.{◌≡◌, ℕ, ◌≤◌, Bool, true, false, cond, ◌&&◌, ◌||◌, List, [], ◌∷◌, ◌++◌, length, drop, refl, ap, ap₂, sym, ◌∙◌, Option, Some, None}
use Rattle.std.specs.List.{list_any, filter_map, cons_option}
use Rattle.std.specs.Option.{option_to_list}
use Rattle.std.proofs.lemmas.List.{drop_all}
use Rattle.osc_model.specs.declared.node.Moment.{Moment}
use Rattle.osc_model.specs.declared.node.Peer.{Peer}
use Rattle.osc_message.specs.declared.due.Due.{Due}
use Rattle.osc_message.specs.declared.due.Due.TheVariants.{Keep, Send, GiveUp}
use Rattle.osc_message.specs.declared.queued.Queued.{Queued}
use Rattle.osc_message.specs.Pace.{Pace}
use Rattle.osc_message.specs.Ticks.{gives_up, gives_up_by, is_over, names}
use Rattle.osc_message.specs.{Sent, Open, due_of, dues, given_up_of, is_named, messages, repeated_to, slowed, tick_gives_up, waiting_due}

abbrev pub over : Moment → Peer → ℕ → Open → Bool
over now p id message = is_named p id message && gives_up now message

never : (a : Bool) → (a && false) ≡ false
never true = refl
never false = refl

by_due : (p : Peer) (id : ℕ) (message : Open) (due : Due) (rest : List (Open × Due)) (b : Bool) → list_any (names p id) (filter_map given_up_of rest) ≡ b
    → list_any (names p id) (filter_map given_up_of ((message, due) ∷ rest)) ≡ ((is_named p id message && is_over due) || b)
by_due p id message Keep rest b up = up ∙ sym (ap (λ c. c || b) (never (is_named p id message)))
by_due p id message Send rest b up = up ∙ sym (ap (λ c. c || b) (never (is_named p id message)))
by_due p id message GiveUp rest b up = ap₂ (λ c d. c || d) (sure (is_named p id message)) up
  where
    sure : (a : Bool) → a ≡ (a && true)
    sure true = refl
    sure false = refl

waits : (pace : Pace) (all earlier : List Open) (message : Open) → is_over (waiting_due pace all earlier message) ≡ false
waits pace all earlier message = by _
  where
    by : (b : Bool) → is_over (cond b Send Keep) ≡ false
    by true = refl
    by false = refl

over_is : (pace : Pace) (now : Moment) (all earlier : List Open) (message : Open) (sent : Option Sent) → is_over (due_of pace now all earlier message sent) ≡ gives_up_by now message sent
over_is pace now all earlier message None = waits pace all earlier message
over_is pace now all earlier message (Some sent) = refl

any_from : (pace : Pace) (now : Moment) (p : Peer) (id : ℕ) (all earlier later : List Open)
    → list_any (names p id) (filter_map given_up_of (dues pace now all earlier later)) ≡ list_any (over now p id) later
any_from pace now p id all earlier [] = refl
any_from pace now p id all earlier (message ∷ later) =
    by_due p id message (due_of pace now all earlier message message.sent) (dues pace now all (earlier ++ message ∷ []) later) _ (any_from pace now p id all (earlier ++ message ∷ []) later)
    ∙ ap (λ b. (is_named p id message && b) || list_any (over now p id) later) (over_is pace now all earlier message message.sent)

pub any_given_up : (pace : Pace) (now : Moment) (p : Peer) (id : ℕ) (all : List Open) → list_any (over now p id) all ≡ list_any (names p id) (tick_gives_up pace now all)
any_given_up pace now p id all = sym (any_from pace now p id all [] all)

-- ---- who is slow, one message after another

slowed_parts : (xs ys : List Peer) (pace : Pace) → slowed (xs ++ ys) pace ≡ slowed ys (slowed xs pace)
slowed_parts [] ys pace = refl
slowed_parts (x ∷ xs) ys pace = slowed_parts xs ys _

pub slowed_one : (pair : Open × Due) (rest : List (Open × Due)) (pace : Pace)
    → slowed (filter_map repeated_to (pair ∷ rest)) pace ≡ slowed (filter_map repeated_to rest) (slowed (option_to_list (repeated_to pair)) pace)
slowed_one pair rest pace = by (repeated_to pair)
  where
    by : (o : Option Peer) → slowed (cons_option o (filter_map repeated_to rest)) pace ≡ slowed (filter_map repeated_to rest) (slowed (option_to_list o) pace)
    by None = refl
    by (Some p) = refl

-- once all were looked at
pub any_end : (test : Open → Bool) (found : Bool) (n : ℕ) (all : List Queued) → length all ≤ n → (found || list_any test (messages (drop n all))) ≡ list_any test (messages all)
    → found ≡ list_any test (messages all)
any_end test found n all le is = sym (nil found) ∙ sym (ap (λ (xs : List Queued). found || list_any test (messages xs)) (drop_all n all le)) ∙ is
  where
    nil : (b : Bool) → (b || false) ≡ b
    nil true = refl
    nil false = refl

-- one more was looked at
pub any_next : (test : Open → Bool) (found this now : Bool) (x : Open) (xs rest : List Open) (total : Bool) → xs ≡ x ∷ rest → (found || list_any test xs) ≡ total
    → now ≡ (found || test x) → (now || list_any test rest) ≡ total
any_next test found this now x xs rest total split is next = ap (λ b. b || list_any test rest) next ∙ assoc found (test x) (list_any test rest) ∙ ap (λ ys. found || list_any test ys) (sym split) ∙ is
  where
    assoc : (a b c : Bool) → ((a || b) || c) ≡ (a || (b || c))
    assoc true b c = refl
    assoc false b c = refl
