-- A tick sends at most as many datagrams as there are open messages.
use Rattle.std.proofs.Common.{ℕ, ◌≤◌, suc, Bool, true, false, List, [], ◌∷◌, ◌++◌, length, ap, arith}
use Rattle.std.specs.List.{filter_map}
use Rattle.osc_model.specs.declared.node.Moment.{Moment}
use Rattle.osc_message.specs.declared.due.Due.{Due}
use Rattle.osc_message.specs.declared.due.Due.TheVariants.{Keep, Send, GiveUp}
use Rattle.osc_message.specs.Pace.{Pace}
use Rattle.osc_message.specs.{Open, GoesOut, due_of, dues, datagram_of, tick_sends}
use Rattle.osc_model.specs.declared.step.Datagram.{Datagram}

-- what is due of one more message sends one datagram more at most
one_more : (message : Open) (due : Due) (pairs : List (Open × Due)) (n : ℕ)
    → length (filter_map datagram_of pairs) ≤ n → length (filter_map datagram_of ((message, due) ∷ pairs)) ≤ suc n
one_more message Keep pairs n few = omega (arith, few)
one_more message Send pairs n few = omega (arith, few)
one_more message GiveUp pairs n few = omega (arith, few)

few_of : (pace : Pace) (now : Moment) (all earlier later : List Open) → length (filter_map datagram_of (dues pace now all earlier later)) ≤ length later
few_of pace now all earlier [] = omega arith
few_of pace now all earlier (message ∷ later) =
    one_more message (due_of pace now all earlier message message.sent) (dues pace now all (earlier ++ message ∷ []) later) (length later)
    (few_of pace now all (earlier ++ message ∷ []) later)

pub few_are_sent : (pace : Pace) (now : Moment) (all : List Open) → length (tick_sends pace now all) ≤ length all
few_are_sent pace now all = few_of pace now all [] all

pub going_few : (pace : Pace) (now : Moment) (all : List Open) (lost : Bool) (out : List Datagram) → GoesOut lost (tick_sends pace now all) out → length out ≤ length all
going_few pace now all false out is = omega (arith, few_are_sent pace now all, ap length is)
going_few pace now all true out is = omega (arith, ap length is)
