-- Which datagrams wait.
use Rattle.std.proofs.Common.{◌≡◌, ◌≤◌, ◌<◌, ◌+◌, ℕ, zero, suc, Bool, true, false, cond, not, List, [], ◌∷◌, ◌++◌, length, map, refl, ap, Option, Some, None, inl, inr, subst, arith}
use Rattle.std.specs.Prelude.{get_or, slice_get, slice_set}
use Rattle.std.proofs.lemmas.Bool.{cases_lt}
use Rattle.std.proofs.lemmas.List.Sums.{fails_before_first, passes_at_first, prefix_len-le-length}
use Rattle.osc_model.specs.declared.node.Peer.{Peer}
use Rattle.osc_model.specs.declared.step.Datagram.{Datagram}
use Rattle.osc_world.specs.{first_waiting, sent_from, settled, settled_at}
use Rattle.osc_world.specs.declared.log.SentDatagram.{SentDatagram}

abbrev waits : SentDatagram → Bool
waits datagram = datagram.waits

-- what is sent comes after what waits
pub first_stays : (at : Peer) (sent : List SentDatagram) (out : List Datagram) → first_waiting (sent ++ map (sent_from at) out) ≡ first_waiting sent
first_stays at [] [] = refl
first_stays at [] (datagram ∷ out) = refl
first_stays at (datagram ∷ sent) out = ap (λ n. cond (not datagram.waits) (1 + n) 0) (first_stays at sent out)

-- where one more waits no more, the first isn't before it was
pub first_moves_on : (sent : List SentDatagram) (number : ℕ) (datagram : SentDatagram) → datagram.waits ≡ false → first_waiting sent ≤ first_waiting (slice_set sent number datagram)
first_moves_on [] number datagram settled = omega arith
first_moves_on (first ∷ sent) zero datagram settled = at first.waits
  where
    at : (b : Bool) → cond (not b) (1 + first_waiting sent) 0 ≤ cond (not datagram.waits) (1 + first_waiting sent) 0
    at true = omega arith
    at false = rw settled (omega arith)
first_moves_on (first ∷ sent) (suc number) datagram settled = at first.waits (first_moves_on sent number datagram settled)
  where
    at : (b : Bool) → first_waiting sent ≤ first_waiting (slice_set sent number datagram)
        → cond (not b) (1 + first_waiting sent) 0 ≤ cond (not b) (1 + first_waiting (slice_set sent number datagram)) 0
    at true rest = omega arith
    at false rest = omega (arith, rest)

pub settled_moves_on : (sent : List SentDatagram) (number : ℕ) → first_waiting sent ≤ first_waiting (settled number sent)
settled_moves_on sent number = at (slice_get sent number)
  where
    at : (o : Option SentDatagram) → first_waiting sent ≤ first_waiting (settled_at number o sent)
    at None = omega arith
    at (Some datagram) = first_moves_on sent number (record datagram { waits = false }) refl

pub found : (sent : List SentDatagram) (number : ℕ) (d : SentDatagram) → number ≤ first_waiting sent → (get_or sent number d).waits ≡ true → number ≡ first_waiting sent
found sent number d below here =
    elim (cases_lt number (first_waiting sent)) [
      | inl less ↦ let settled : (get_or sent number d).waits ≡ false = fails_before_first waits sent number d less in absurd (cc)
      | inr least ↦ omega (arith, least, below)
    ]

pub passed : (sent : List SentDatagram) (number : ℕ) (d : SentDatagram) → number ≤ first_waiting sent → number < length sent → (get_or sent number d).waits ≡ false → number + 1 ≤ first_waiting sent
passed sent number d below inside settled =
    elim (cases_lt number (first_waiting sent)) [
      | inl less ↦ omega (arith, less)
      | inr least ↦
          let same : first_waiting sent ≡ number = omega (arith, least, below) in
          let first : (get_or sent (first_waiting sent) d).waits ≡ true = passes_at_first waits sent d (omega (arith, same, inside)) in
          let here : (get_or sent number d).waits ≡ true = subst (λ n. (get_or sent n d).waits ≡ true) same first in
          absurd (cc)
    ]

pub none_found : (sent : List SentDatagram) (number : ℕ) → number ≤ first_waiting sent → length sent ≤ number → length sent ≡ first_waiting sent
none_found sent number below outside = omega (arith, below, outside, prefix_len-le-length (λ (datagram : SentDatagram). not datagram.waits) sent)
