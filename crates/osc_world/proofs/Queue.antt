-- Which datagram waits first, and which wait after it.
use Rattle.std.proofs.Common.{◌≡◌, ◌∙◌, ap, sym, subst, refl, ℕ, suc, ◌+◌, Bool, true, false, cond, not, List, [], ◌∷◌, length, map, Some, None, arith}
use Rattle.std.specs.Prelude.{filter, position, slice_get, slice_set}
use Rattle.std.specs.List.{position_or_len}
use Rattle.std.proofs.lemmas.Bool.{lt-ltb, le-ltb}
use Rattle.std.proofs.lemmas.Option.{slice_get_within}
use Rattle.osc_model.specs.declared.node.Peer.{Peer}
use Rattle.osc_model.specs.declared.step.Datagram.{Datagram}
use Rattle.osc_world.specs.{sent_from}
use Rattle.osc_world.specs.declared.log.SentDatagram.{SentDatagram}

abbrev pub waits : SentDatagram → Bool
waits datagram = datagram.waits

abbrev pub done : SentDatagram → SentDatagram
done one = record one { waits = false }

-- ---- the first

-- this datagram waits first, and those after it
pub record IsFirst (sent : List SentDatagram) (first : SentDatagram) (later : List SentDatagram) : Type 0 where
  pub number : ℕ
  pub place : position_or_len waits sent ≡ number
  pub here : slice_get sent number ≡ Some first
  pub left : filter waits (slice_set sent number (done first)) ≡ later

-- after one that doesn't wait
behind : (one : SentDatagram) (sent : List SentDatagram) (first : SentDatagram) (later : List SentDatagram) → one.waits ≡ false → IsFirst sent first later → IsFirst (one ∷ sent) first later
behind one sent first later is it =
    let rest : List SentDatagram = filter waits (slice_set sent it.number (done first)) in
    record {
      number = suc it.number;
      place = subst (λ (b : Bool). cond (not b) (1 + position_or_len waits sent) 0 ≡ suc it.number) (sym is) (omega (arith, it.place));
      here = it.here;
      left = subst (λ (b : Bool). cond b (one ∷ rest) rest ≡ later) (sym is) it.left;
    }

pub first_of : (sent : List SentDatagram) (first : SentDatagram) (later : List SentDatagram) → filter waits sent ≡ first ∷ later → IsFirst sent first later
first_of [] first later e = absurd (cc)
first_of (one ∷ sent) first later e = by one.waits refl (first_of sent first later)
  where
    by : (b : Bool) → one.waits ≡ b → (filter waits sent ≡ first ∷ later → IsFirst sent first later) → IsFirst (one ∷ sent) first later
    by true is rest =
        let same : one ∷ filter waits sent ≡ first ∷ later = subst (λ (b : Bool). cond b (one ∷ filter waits sent) (filter waits sent) ≡ first ∷ later) is e in
        let head : one ≡ first = cc in
        let behind : filter waits sent ≡ later = cc in
        record { number = 0; place = rw is refl; here = ap Some head; left = behind }
    by false is rest =
        behind one sent first later is (rest (subst (λ (b : Bool). cond b (one ∷ filter waits sent) (filter waits sent) ≡ first ∷ later) is e))

pub first_place : (sent : List SentDatagram) (first : SentDatagram) (later : List SentDatagram) (it : IsFirst sent first later) → position waits sent ≡ Some it.number
first_place sent first later it = rw (it.place, lt-ltb it.number (length sent) (slice_get_within sent it.number first it.here)) refl

-- ---- none

past_all : (sent : List SentDatagram) → filter waits sent ≡ [] → position_or_len waits sent ≡ length sent
past_all [] e = refl
past_all (one ∷ sent) e = by one.waits refl (past_all sent)
  where
    by : (b : Bool) → one.waits ≡ b → (filter waits sent ≡ [] → position_or_len waits sent ≡ length sent) → position_or_len waits (one ∷ sent) ≡ length (one ∷ sent)
    by true is rest = let some : one ∷ filter waits sent ≡ [] = subst (λ (b : Bool). cond b (one ∷ filter waits sent) (filter waits sent) ≡ []) is e in absurd (cc)
    by false is rest = rw is (omega (arith, rest (subst (λ (b : Bool). cond b (one ∷ filter waits sent) (filter waits sent) ≡ []) is e)))

pub none_first : (sent : List SentDatagram) → filter waits sent ≡ [] → position waits sent ≡ None
none_first sent e = rw (past_all sent e, le-ltb (length sent) (length sent) (omega arith)) refl

pub none_waits : (sent : List SentDatagram) → position waits sent ≡ None → filter waits sent ≡ []
none_waits sent none = by (filter waits sent) refl
  where
    by : (all : List SentDatagram) → filter waits sent ≡ all → filter waits sent ≡ []
    by [] is = is
    by (first ∷ later) is =
        let it : IsFirst sent first later = first_of sent first later is in
        let some : Some it.number ≡ None = sym (first_place sent first later it) ∙ none in
        absurd (cc)

-- ---- what is sent

pub all_wait : (at : Peer) (out : List Datagram) → filter waits (map (sent_from at) out) ≡ map (sent_from at) out
all_wait at [] = refl
all_wait at (one ∷ out) = ap (λ (rest : List SentDatagram). sent_from at one ∷ rest) (all_wait at out)
