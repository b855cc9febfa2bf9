-- The limits on open messages are kept.
use Rattle.std.proofs.Common.{◌≡◌, ℕ, ◌+◌, ◌-◌, ◌*◌, nat_eq, ◌<◌, ◌≤◌, Bool, true, false, not, cond, ltb, ◌&&◌, ◌||◌, List, [], ◌∷◌, ◌++◌, length, length-append, filter, take, count_by, suc, refl, ap, ap₂, sym, ◌∙◌, subst, Option, Some, None, is_some, arith}
use Rattle.std.specs.List.{filter_map, cons_option, list_any}
use Rattle.std.proofs.lemmas.Bool.{and_from, and_parts, eq-eqb, eqb-true, lt-ltb, ltb-false, ltb-true, or_parts, or_right}
use Rattle.std.proofs.lemmas.Nat.{mul-le}
use Rattle.std.proofs.Math.Nat.{suc-mul}
use Rattle.std.proofs.lemmas.List.Folds.{list_any-append}
use Rattle.std.proofs.lemmas.List.Sums.{sum_by-cons}
use Rattle.std.proofs.lemmas.Map.Made.{length-le_from_is_member}
use Rattle.std.proofs.lemmas.Map.Steps.{list_any_congr}
use Rattle.osc_model.specs.declared.bytes.Bytes.{Bytes}
use Rattle.osc_model.specs.declared.node.Moment.{Moment}
use Rattle.osc_model.specs.declared.node.Peer.{Peer}
use Rattle.osc_message.specs.declared.due.Due.{Due}
use Rattle.osc_message.specs.declared.due.Due.TheVariants.{Keep, Send, GiveUp}
use Rattle.osc_model.specs.{same_peer}
use Rattle.osc_message.specs.Pace.{Pace}
use Rattle.osc_message.specs.{Sent, Open, IsInOrder, allowed, is_to, is_outstanding, has_open, has_outstanding, outstanding, waiting, peers_of, takes, sent_at, goes_at_once, slowed, slowed_for, with_open, outstanding_due, waiting_due, due_of, dues, after, ticked, IsWithinLimits}
use Rattle.osc_message.specs.Pace.{others}
use Rattle.osc_message.proofs.Peers.{same_peer_equiv, any_peers, peers_distinct, weight}

-- ---- counts, by recursion

abbrev pub count : (Open → Bool) → List Open → ℕ
count t [] = 0
count t (x ∷ xs) = weight (t x) + count t xs

pub weight_is : (b : Bool) → cond b 1 0 ≡ weight b
weight_is true = refl
weight_is false = refl

pub count_is : (t : Open → Bool) (xs : List Open) → count_by t xs ≡ count t xs
count_is t [] = refl
count_is t (x ∷ xs) = sum_by-cons (λ y. cond (t y) 1 0) x xs ∙ ap₂ (λ a b. a + b) (weight_is (t x)) (count_is t xs)

abbrev pub goes_to : Peer → Open → Bool
goes_to p message = is_to p message && is_outstanding message

abbrev pub waits_for : Peer → Open → Bool
waits_for p message = is_to p message && not (is_outstanding message)

-- nothing overtakes for a peer
abbrev InOrder : Peer → List Open → Type 0
InOrder p [] = Unit {0}
InOrder p (x ∷ xs) = (waits_for p x ≡ true → count (goes_to p) xs ≡ 0) × InOrder p xs

order_from : (p : Peer) (xs : List Open) → IsInOrder p xs → InOrder p xs
order_from p [] is = tt
order_from p (x ∷ xs) is = (λ waits. omega (arith, count_is (goes_to p) xs, is.0 waits), order_from p xs is.1)

order_to : (p : Peer) (xs : List Open) → InOrder p xs → IsInOrder p xs
order_to p [] is = tt
order_to p (x ∷ xs) is = (λ waits. omega (arith, count_is (goes_to p) xs, is.0 waits), order_to p xs is.1)

record Within (most : ℕ) (all : List Open) : Type 0 where
  out : (p : Peer) → count (goes_to p) all ≤ most
  wait : (p : Peer) → count (waits_for p) all ≤ 16
  peers : length (peers_of all) ≤ 64
  order : (p : Peer) → InOrder p all

counted : (pace : Pace) (all : List Open) → IsWithinLimits pace all → Within (1 + pace.more) all
counted pace all limits = record {
  out = λ p. omega (arith, count_is (goes_to p) all, limits.outstanding_each p);
  wait = λ p. omega (arith, count_is (waits_for p) all, limits.waiting_each p);
  peers = limits.peers;
  order = λ p. order_from p all (limits.in_order p);
}

limited : (pace : Pace) (all : List Open) → Within (1 + pace.more) all → IsWithinLimits pace all
limited pace all within = record {
  outstanding_each = λ p. omega (arith, count_is (goes_to p) all, within.out p);
  waiting_each = λ p. omega (arith, count_is (waits_for p) all, within.wait p);
  peers = within.peers;
  in_order = λ p. order_to p all (within.order p);
}

no_one : (a : Bool) → weight (a && false) ≡ 0
no_one true = refl
no_one false = refl

-- ---- peers

pub open_same : (p q : Peer) (all : List Open) → same_peer p q ≡ true → has_open p all ≡ has_open q all
open_same p q all same = sym (any_peers p all) ∙ list_any_congr same_peer_equiv p q (peers_of all) same ∙ any_peers q all

-- a list whose peers are all among some has no more than these
fewer_peers : (xs : List Open) (ps : List Peer) → ((q : Peer) → has_open q xs ≡ true → list_any (same_peer q) ps ≡ true) → length (peers_of xs) ≤ length ps
fewer_peers xs ps among = length-le_from_is_member same_peer_equiv (peers_of xs) ps (peers_distinct xs) (λ q e. among q (sym (any_peers q xs) ∙ e))

pub no_more_peers : (xs ys : List Open) → ((q : Peer) → has_open q xs ≡ true → has_open q ys ≡ true) → length (peers_of xs) ≤ length (peers_of ys)
no_more_peers xs ys among = fewer_peers xs (peers_of ys) (λ q e. any_peers q ys ∙ among q e)

-- ---- messages taken out

either : (a : Bool) (b c : Bool) → (a || b) ≡ true → (b ≡ true → c ≡ true) → (a || c) ≡ true
either true b c e up = refl
either false b c e up = up e

pub open_filter : (p : Open → Bool) (q : Peer) (xs : List Open) → has_open q (filter p xs) ≡ true → has_open q xs ≡ true
open_filter p q [] e = e
open_filter p q (x ∷ xs) e = by (p x) e (open_filter p q xs)
  where
    by : (b : Bool) → has_open q (cond b (x ∷ filter p xs) (filter p xs)) ≡ true → (has_open q (filter p xs) ≡ true → has_open q xs ≡ true) → (is_to q x || has_open q xs) ≡ true
    by true e up = either (is_to q x) (has_open q (filter p xs)) (has_open q xs) e up
    by false e up = or_right (is_to q x) (has_open q xs) (up e)

count_filter : (p t : Open → Bool) (xs : List Open) → count t (filter p xs) ≤ count t xs
count_filter p t [] = omega arith
count_filter p t (x ∷ xs) = by (p x) (count_filter p t xs)
  where
    by : (b : Bool) → count t (filter p xs) ≤ count t xs → count t (cond b (x ∷ filter p xs) (filter p xs)) ≤ weight (t x) + count t xs
    by true up = omega (arith, up)
    by false up = omega (arith, up)

order_filter : (t : Open → Bool) (q : Peer) (xs : List Open) → InOrder q xs → InOrder q (filter t xs)
order_filter t q [] is = tt
order_filter t q (x ∷ xs) is = by (t x) (order_filter t q xs is.1)
  where
    by : (b : Bool) → InOrder q (filter t xs) → InOrder q (cond b (x ∷ filter t xs) (filter t xs))
    by true up = (λ waits. omega (arith, is.0 waits, count_filter t (goes_to q) xs), up)
    by false up = up

within_filter : (p : Open → Bool) (most : ℕ) (all : List Open) → Within most all → Within most (filter p all)
within_filter p most all within = record {
  out = λ q. omega (arith, count_filter p (goes_to q) all, within.out q);
  wait = λ q. omega (arith, count_filter p (waits_for q) all, within.wait q);
  peers = omega (arith, no_more_peers (filter p all) all (λ q. open_filter p q all), within.peers);
  order = λ q. order_filter p q all (within.order q);
}

pub limits_filter : (p : Open → Bool) (pace : Pace) (all : List Open) → IsWithinLimits pace all → IsWithinLimits pace (filter p all)
limits_filter p pace all limits = limited pace (filter p all) (within_filter p (1 + pace.more) all (counted pace all limits))

-- another pace by which as many may be outstanding
pub limits_paced : (pace other : Pace) (all : List Open) → pace.more ≡ other.more → IsWithinLimits pace all → IsWithinLimits other all
limits_paced pace other all same limits = record {
  outstanding_each = λ p. omega (arith, limits.outstanding_each p, same);
  waiting_each = limits.waiting_each;
  peers = limits.peers;
  in_order = limits.in_order;
}

slowed_once : (p : Peer) (pace : Pace) → (slowed_for p pace).more ≡ pace.more
slowed_once p pace = by (nat_eq pace.more 0) (take 64 (p ∷ others p pace.slow))
  where
    by : (b : Bool) (slow : List Peer) → (cond b pace (record pace { slow = slow })).more ≡ pace.more
    by true slow = refl
    by false slow = refl

pub slowed_more : (peers : List Peer) (pace : Pace) → (slowed peers pace).more ≡ pace.more
slowed_more [] pace = refl
slowed_more (p ∷ peers) pace = slowed_more peers (slowed_for p pace) ∙ slowed_once p pace

-- ---- one more message

none_counted : (t : Open → Bool) (p : Peer) (xs : List Open) → has_open p xs ≡ false → count (λ x. is_to p x && t x) xs ≡ 0
none_counted t p [] none = refl
none_counted t p (x ∷ xs) none =
    let parts = or_parts (is_to p x) (has_open p xs) none in
    by (is_to p x) parts.0 (none_counted t p xs parts.1)
  where
    by : (b : Bool) → b ≡ false → count (λ y. is_to p y && t y) xs ≡ 0 → weight (b && t x) + count (λ y. is_to p y && t y) xs ≡ 0
    by true e up = absurd (cc)
    by false e up = omega (arith, up)

same_counted : (t : Open → Bool) (p q : Peer) (xs : List Open) → same_peer p q ≡ true → count (λ x. is_to p x && t x) xs ≡ count (λ x. is_to q x && t x) xs
same_counted t p q [] same = refl
same_counted t p q (x ∷ xs) same = ap₂ (λ b n. weight (b && t x) + n) (same_peer_equiv.congr p q x.to same) (same_counted t p q xs same)

pub goes_none : (p : Peer) (xs : List Open) → has_open p xs ≡ false → count (goes_to p) xs ≡ 0
goes_none p xs none = none_counted is_outstanding p xs none

pub waits_none : (p : Peer) (xs : List Open) → has_open p xs ≡ false → count (waits_for p) xs ≡ 0
waits_none p xs none = none_counted (λ x. not (is_outstanding x)) p xs none

goes_same : (p q : Peer) (xs : List Open) → same_peer p q ≡ true → count (goes_to p) xs ≡ count (goes_to q) xs
goes_same p q xs same = same_counted is_outstanding p q xs same

waits_same : (p q : Peer) (xs : List Open) → same_peer p q ≡ true → count (waits_for p) xs ≡ count (waits_for q) xs
waits_same p q xs same = same_counted (λ x. not (is_outstanding x)) p q xs same

allowed_same : (pace : Pace) (p q : Peer) → same_peer p q ≡ true → allowed pace p ≡ allowed pace q
allowed_same pace p q same = ap (λ a. 1 + cond a 0 pace.more) (list_any_congr same_peer_equiv p q pace.slow same)

pub allowed_most : (pace : Pace) (p : Peer) → allowed pace p ≤ 1 + pace.more
allowed_most pace p = by (list_any (same_peer p) pace.slow)
  where
    by : (b : Bool) → 1 + cond b 0 pace.more ≤ 1 + pace.more
    by true = omega arith
    by false = omega arith

pub count_push : (t : Open → Bool) (xs : List Open) (x : Open) → count t (xs ++ x ∷ []) ≡ count t xs + weight (t x)
count_push t [] x = omega arith
count_push t (y ∷ xs) x = omega (arith, count_push t xs x)

goes_more : (p : Peer) (xs : List Open) (x : Open) (a b : Bool) → is_to p x ≡ a → is_outstanding x ≡ b → count (goes_to p) (xs ++ x ∷ []) ≡ count (goes_to p) xs + weight (a && b)
goes_more p xs x a b to went = count_push (goes_to p) xs x ∙ ap₂ (λ c d. count (goes_to p) xs + weight (c && d)) to went

waits_more : (p : Peer) (xs : List Open) (x : Open) (a b : Bool) → is_to p x ≡ a → is_outstanding x ≡ b → count (waits_for p) (xs ++ x ∷ []) ≡ count (waits_for p) xs + weight (a && not b)
waits_more p xs x a b to went = count_push (waits_for p) xs x ∙ ap₂ (λ c d. count (waits_for p) xs + weight (c && not d)) to went

order_quiet : (p : Peer) (xs : List Open) (m : Open) → InOrder p xs → goes_to p m ≡ false → InOrder p (xs ++ m ∷ [])
order_quiet p [] m is quiet = (λ waits. refl, tt)
order_quiet p (y ∷ ys) m is quiet = (λ waits. omega (arith, is.0 waits, count_push (goes_to p) ys m, ap weight quiet), order_quiet p ys m is.1 quiet)

order_first : (p : Peer) (xs : List Open) (m : Open) → count (waits_for p) xs ≡ 0 → InOrder p (xs ++ m ∷ [])
order_first p [] m none = (λ waits. refl, tt)
order_first p (y ∷ ys) m none =
    (λ waits. let one : weight (waits_for p y) ≡ 1 = ap weight waits in absurd (omega (arith, one, none)), order_first p ys m (omega (arith, none)))

quiet_of : (a b : Bool) → b ≡ false → (a && b) ≡ false
quiet_of true b e = e
quiet_of false b e = refl

-- it waits
within_waits : (to : Peer) (most : ℕ) (all : List Open) (m : Open) → m.to ≡ to → is_outstanding m ≡ false → has_open to all ≡ true → count (waits_for to) all < 16 → Within most all
    → Within most (all ++ m ∷ [])
within_waits to most all m is waits has few within = record {
  out = λ p. omega (arith, goes_more p all m (is_to p m) false refl waits, within.out p, no_one (is_to p m));
  wait = λ p. at p (same_peer p to) refl;
  peers = omega (arith, no_more_peers (all ++ m ∷ []) all among, within.peers);
  order = λ p. order_quiet p all m (within.order p) (quiet_of (is_to p m) (is_outstanding m) waits);
}
  where
    at : (p : Peer) (b : Bool) → same_peer p to ≡ b → count (waits_for p) (all ++ m ∷ []) ≤ 16
    at p true e = omega (arith, waits_more p all m true false (ap (same_peer p) is ∙ e) waits, waits_same p to all e)
    at p false e = omega (arith, waits_more p all m false false (ap (same_peer p) is ∙ e) waits, within.wait p)

    last : (q : Peer) (a b : Bool) → has_open q all ≡ a → is_to q m ≡ b → (a || (b || false)) ≡ true → has_open q all ≡ true
    last q true b e f found = e
    last q false true e f found =
        let same : same_peer q to ≡ true = ap (same_peer q) (sym is) ∙ f in
        open_same q to all same ∙ has
    last q false false e f found = absurd (cc)

    among : (q : Peer) → has_open q (all ++ m ∷ []) ≡ true → has_open q all ≡ true
    among q e = last q (has_open q all) (is_to q m) refl refl (sym (list_any-append (is_to q) all (m ∷ [])) ∙ e)

-- it goes out
within_goes : (to : Peer) (most : ℕ) (all : List Open) (m : Open) → m.to ≡ to → is_outstanding m ≡ true → count (waits_for to) all ≡ 0 → count (goes_to to) all < most
    → length (peers_of (all ++ m ∷ [])) ≤ 64 → Within most all → Within most (all ++ m ∷ [])
within_goes to most all m is went none fewer few within = record {
  out = λ p. at p (same_peer p to) refl;
  wait = λ p. omega (arith, waits_more p all m (is_to p m) true refl went, within.wait p, no_one (is_to p m));
  peers = few;
  order = λ p. ordered p (same_peer p to) refl;
}
  where
    at : (p : Peer) (b : Bool) → same_peer p to ≡ b → count (goes_to p) (all ++ m ∷ []) ≤ most
    at p true e = omega (arith, goes_more p all m true true (ap (same_peer p) is ∙ e) went, goes_same p to all e, fewer)
    at p false e = omega (arith, goes_more p all m false true (ap (same_peer p) is ∙ e) went, within.out p)

    ordered : (p : Peer) (b : Bool) → same_peer p to ≡ b → InOrder p (all ++ m ∷ [])
    ordered p true e = order_first p all m (waits_same p to all e ∙ none)
    ordered p false e = order_quiet p all m (within.order p) (ap (λ b. b && is_outstanding m) (ap (same_peer p) is ∙ e))

-- the peers are no more where its own has one open, and one more elsewhere
peers_same : (to : Peer) (all : List Open) (m : Open) → m.to ≡ to → has_open to all ≡ true → length (peers_of (all ++ m ∷ [])) ≤ length (peers_of all)
peers_same to all m is has = no_more_peers (all ++ m ∷ []) all (λ q e. last q (has_open q all) (is_to q m) refl refl (sym (list_any-append (is_to q) all (m ∷ [])) ∙ e))
  where
    last : (q : Peer) (a b : Bool) → has_open q all ≡ a → is_to q m ≡ b → (a || (b || false)) ≡ true → has_open q all ≡ true
    last q true b e f found = e
    last q false true e f found = open_same q to all (ap (same_peer q) (sym is) ∙ f) ∙ has
    last q false false e f found = absurd (cc)

peers_one_more : (to : Peer) (all : List Open) (m : Open) → m.to ≡ to → length (peers_of (all ++ m ∷ [])) ≤ length (peers_of all) + 1
peers_one_more to all m is = omega (arith, fewer_peers (all ++ m ∷ []) (peers_of all ++ to ∷ []) among, length-append (peers_of all) (to ∷ []))
  where
    among : (q : Peer) → has_open q (all ++ m ∷ []) ≡ true → list_any (same_peer q) (peers_of all ++ to ∷ []) ≡ true
    among q e =
        list_any-append (same_peer q) (peers_of all) (to ∷ [])
        ∙ ap₂ (λ a t. a || (same_peer q t || false)) (any_peers q all) (sym is)
        ∙ sym (list_any-append (is_to q) all (m ∷ []))
        ∙ e

pub idle_goes : (pace : Pace) (peer : Peer) (all : List Open) → has_open peer all ≡ false → goes_at_once pace peer all ≡ true
idle_goes pace peer all none =
    let waits : waiting peer all ≡ 0 = count_is (waits_for peer) all ∙ waits_none peer all none in
    let goes : outstanding peer all ≡ 0 = count_is (goes_to peer) all ∙ goes_none peer all none in
    and_from (nat_eq (waiting peer all) 0) (ltb (outstanding peer all) (allowed pace peer)) (eq-eqb (waiting peer all) 0 waits)
    (lt-ltb (outstanding peer all) (allowed pace peer) (omega (arith, goes)))

abbrev made_of : Moment → Peer → ℕ → ℕ → Bytes → Bool → Open
made_of now to id timeout bytes goes = record { to = to; id = id; timeout = timeout; bytes = bytes; sent = sent_at now goes }

pub limits_push : (pace : Pace) (now : Moment) (to : Peer) (id timeout : ℕ) (bytes : Bytes) (all : List Open) → takes to all ≡ true → IsWithinLimits pace all
    → IsWithinLimits pace (with_open pace now to id timeout bytes all)
limits_push pace now to id timeout bytes all taken limits = limited pace _ (by (goes_at_once pace to all) (has_open to all) refl refl taken)
  where
    within : Within (1 + pace.more) all
    within = counted pace all limits

    none_waits : (goes : Bool) → goes_at_once pace to all ≡ goes → goes ≡ true → (count (waits_for to) all ≡ 0) × (count (goes_to to) all < 1 + pace.more)
    none_waits goes e is =
        let parts = and_parts (nat_eq (waiting to all) 0) (ltb (outstanding to all) (allowed pace to)) (e ∙ is) in (
          omega (arith, eqb-true (waiting to all) 0 parts.0, count_is (waits_for to) all),
          omega (arith, ltb-true (outstanding to all) (allowed pace to) parts.1, count_is (goes_to to) all, allowed_most pace to),
        )

    by : (g b : Bool) → goes_at_once pace to all ≡ g → has_open to all ≡ b → cond b (ltb (waiting to all) 16) (ltb (length (peers_of all)) 64) ≡ true
        → Within (1 + pace.more) (all ++ made_of now to id timeout bytes g ∷ [])
    by true true goes has fits =
        let both = none_waits true goes refl in
        within_goes to (1 + pace.more) all (made_of now to id timeout bytes true) refl refl both.0 both.1 (omega (arith, peers_same to all (made_of now to id timeout bytes true) refl has, within.peers)) within
    by true false goes has fits =
        let both = none_waits true goes refl in
        within_goes to (1 + pace.more) all (made_of now to id timeout bytes true) refl refl both.0 both.1 (omega (arith, peers_one_more to all (made_of now to id timeout bytes true) refl, ltb-true (length (peers_of all)) 64 fits)) within
    by false true goes has fits =
        within_waits to (1 + pace.more) all (made_of now to id timeout bytes false) refl refl has (omega (arith, ltb-true (waiting to all) 16 fits, count_is (waits_for to) all)) within
    by false false goes has fits =
        let none : goes_at_once pace to all ≡ true = idle_goes pace to all has in
        absurd (cc)

-- ---- a tick

open_after : (now : Moment) (q : Peer) (message : Open) (due : Due) (rest later : List Open) → (has_open q rest ≡ true → has_open q later ≡ true)
    → has_open q (cons_option (after now (message, due)) rest) ≡ true → has_open q (message ∷ later) ≡ true
open_after now q message Keep rest later up e = either (is_to q message) (has_open q rest) (has_open q later) e up
open_after now q message Send rest later up e = either (is_to q message) (has_open q rest) (has_open q later) e up
open_after now q message GiveUp rest later up e = or_right (is_to q message) (has_open q later) (up e)

open_ticked : (pace : Pace) (now : Moment) (q : Peer) (all earlier later : List Open) → has_open q (filter_map (after now) (dues pace now all earlier later)) ≡ true → has_open q later ≡ true
open_ticked pace now q all earlier [] e = e
open_ticked pace now q all earlier (message ∷ later) e =
    open_after now q message (due_of pace now all earlier message message.sent) _ later (open_ticked pace now q all (earlier ++ message ∷ []) later) e

-- what waits afterwards waited before
waits_after : (now : Moment) (p : Peer) (message : Open) (due : Due) (rest later : List Open) → count (waits_for p) rest ≤ count (waits_for p) later
    → count (waits_for p) (cons_option (after now (message, due)) rest) ≤ count (waits_for p) (message ∷ later)
waits_after now p message Keep rest later up = omega (arith, up)
waits_after now p message Send rest later up = omega (arith, up, no_one (is_to p message))
waits_after now p message GiveUp rest later up = omega (arith, up)

waits_ticked : (pace : Pace) (now : Moment) (p : Peer) (all earlier later : List Open) → count (waits_for p) (filter_map (after now) (dues pace now all earlier later)) ≤ count (waits_for p) later
waits_ticked pace now p all earlier [] = omega arith
waits_ticked pace now p all earlier (message ∷ later) =
    waits_after now p message (due_of pace now all earlier message message.sent) _ later (waits_ticked pace now p all (earlier ++ message ∷ []) later)

-- one that is outstanding, whatever is due of it
out_before : (now : Moment) (p : Peer) (message : Open) (due : Due) (rest : List Open) → is_outstanding message ≡ true
    → count (goes_to p) (cons_option (after now (message, due)) rest) ≤ weight (is_to p message && true) + count (goes_to p) rest
out_before now p message Keep rest went = omega (arith, ap (λ b. weight (is_to p message && b)) went)
out_before now p message Send rest went = omega arith
out_before now p message GiveUp rest went = omega arith

-- one to another peer, whatever is due of it
out_other : (now : Moment) (p : Peer) (message : Open) (due : Due) (rest : List Open) → is_to p message ≡ false
    → count (goes_to p) (cons_option (after now (message, due)) rest) ≡ count (goes_to p) rest
out_other now p message Keep rest other = omega (arith, ap (λ b. weight (b && is_outstanding message)) other)
out_other now p message Send rest other = omega (arith, ap (λ b. weight (b && true)) other)
out_other now p message GiveUp rest other = refl

-- one that waits for the peer: it is released, or kept
out_waiting : (now : Moment) (p : Peer) (message : Open) (goes : Bool) (rest : List Open) → is_outstanding message ≡ false → is_to p message ≡ true
    → count (goes_to p) (cons_option (after now (message, cond goes Send Keep)) rest) ≡ weight goes + count (goes_to p) rest
out_waiting now p message true rest waits to = omega (arith, ap (λ a. weight (a && true)) to)
out_waiting now p message false rest waits to = omega (arith, ap₂ (λ a b. weight (a && b)) to waits)

-- whether a message that waits for the peer is released
abbrev released : Pace → Peer → List Open → List Open → Bool
released pace p all earlier = ltb (count (goes_to p) all + count (waits_for p) earlier) (allowed pace p)

waiting_is : (pace : Pace) (p : Peer) (all earlier : List Open) (message : Open) → is_to p message ≡ true
    → waiting_due pace all earlier message ≡ cond (released pace p all earlier) Send Keep
waiting_is pace p all earlier message to =
    let out : outstanding message.to all ≡ count (goes_to p) all = count_is (goes_to message.to) all ∙ sym (goes_same p message.to all to) in
    let wait : waiting message.to earlier ≡ count (waits_for p) earlier = count_is (waits_for message.to) earlier ∙ sym (waits_same p message.to earlier to) in
    let most : allowed pace message.to ≡ allowed pace p = sym (allowed_same pace p message.to to) in
    rw (out, wait, most) refl

-- what is released is no more than what is allowed beside what is outstanding, and those that waited before
abbrev Few : Pace → Peer → List Open → List Open → List Open → List Open → Type 0
Few pace p all earlier before later =
    count (goes_to p) later ≤ count (goes_to p) before + (allowed pace p - (count (goes_to p) all + count (waits_for p) earlier))

few_one : (pace : Pace) (now : Moment) (p : Peer) (all earlier : List Open) (message : Open) (sent : Option Sent) (rest later : List Open) (to : Bool) → message.sent ≡ sent
    → is_to p message ≡ to → Few pace p all (earlier ++ message ∷ []) later rest
    → Few pace p all earlier (message ∷ later) (cons_option (after now (message, due_of pace now all earlier message sent)) rest)
few_one pace now p all earlier message sent rest later false is e up =
    omega (
      arith,
      out_other now p message (due_of pace now all earlier message sent) rest e,
      ap (λ b. weight (b && is_outstanding message)) e,
      count_push (waits_for p) earlier message,
      ap (λ b. weight (b && not (is_outstanding message))) e,
      up,
    )
few_one pace now p all earlier message (Some sent) rest later true is e up =
    let went : is_outstanding message ≡ true = ap is_some is in
    omega (
      arith,
      out_before now p message (outstanding_due now message sent) rest went,
      ap (λ b. weight (is_to p message && b)) went,
      count_push (waits_for p) earlier message,
      ap₂ (λ a b. weight (a && not b)) e went,
      up,
    )
few_one pace now p all earlier message None rest later true is e up =
    let waits : is_outstanding message ≡ false = ap is_some is in
    let one = count_push (waits_for p) earlier message in
    let heavy : weight (waits_for p message) ≡ 1 = ap₂ (λ a b. weight (a && not b)) e waits in
    let light : weight (goes_to p message) ≡ 0 = ap₂ (λ a b. weight (a && b)) e waits in
    let family : Due → Type 0 = λ due. Few pace p all earlier (message ∷ later) (cons_option (after now (message, due)) rest) in
    subst family (sym (waiting_is pace p all earlier message e)) (by (released pace p all earlier) refl one heavy light (out_waiting now p message (released pace p all earlier) rest waits e))
  where
    by : (b : Bool) → released pace p all earlier ≡ b → count (waits_for p) (earlier ++ message ∷ []) ≡ count (waits_for p) earlier + weight (waits_for p message)
        → weight (waits_for p message) ≡ 1 → weight (goes_to p message) ≡ 0
        → count (goes_to p) (cons_option (after now (message, cond b Send Keep)) rest) ≡ weight b + count (goes_to p) rest
        → Few pace p all earlier (message ∷ later) (cons_option (after now (message, cond b Send Keep)) rest)
    by true goes one heavy light at = omega (arith, at, one, heavy, light, up, ltb-true _ _ goes)
    by false kept one heavy light at = omega (arith, at, one, heavy, light, up, ltb-false _ _ kept)

few_out : (pace : Pace) (now : Moment) (p : Peer) (all earlier later : List Open) → Few pace p all earlier later (filter_map (after now) (dues pace now all earlier later))
few_out pace now p all earlier [] = omega arith
few_out pace now p all earlier (message ∷ later) =
    few_one pace now p all earlier message message.sent _ later (is_to p message) refl refl (few_out pace now p all (earlier ++ message ∷ []) later)

-- ---- nothing overtakes

order_one : (pace : Pace) (now : Moment) (p : Peer) (all earlier : List Open) (message : Open) (sent : Option Sent) (rest later : List Open) (to : Bool) → message.sent ≡ sent
    → is_to p message ≡ to → Few pace p all (earlier ++ message ∷ []) later rest → (waits_for p message ≡ true → count (goes_to p) later ≡ 0) → InOrder p rest
    → InOrder p (cons_option (after now (message, due_of pace now all earlier message sent)) rest)
order_one pace now p all earlier message sent rest later false is e few none up = other (due_of pace now all earlier message sent)
  where
    other : (due : Due) → InOrder p (cons_option (after now (message, due)) rest)
    other Keep = (λ waits. let no : waits_for p message ≡ false = ap (λ b. b && not (is_outstanding message)) e in absurd (cc (no, waits)), up)
    other Send = (λ waits. absurd (cc (waits, e)), up)
    other GiveUp = up
order_one pace now p all earlier message (Some sent) rest later true is e few none up = gone (outstanding_due now message sent)
  where
    gone : (due : Due) → InOrder p (cons_option (after now (message, due)) rest)
    gone Keep = (λ waits. let no : waits_for p message ≡ false = ap₂ (λ a b. a && not b) e (ap is_some is) in absurd (cc (no, waits)), up)
    gone Send = (λ waits. let no : (is_to p message && false) ≡ false = ap (λ a. a && false) e in absurd (cc (no, waits)), up)
    gone GiveUp = up
order_one pace now p all earlier message None rest later true is e few none up =
    let waits : waits_for p message ≡ true = ap₂ (λ a b. a && not b) e (ap is_some is) in
    let family : Due → Type 0 = λ due. InOrder p (cons_option (after now (message, due)) rest) in
    subst family (sym (waiting_is pace p all earlier message e)) (by (released pace p all earlier) refl (none waits) (count_push (waits_for p) earlier message) (ap weight waits))
  where
    by : (b : Bool) → released pace p all earlier ≡ b → count (goes_to p) later ≡ 0
        → count (waits_for p) (earlier ++ message ∷ []) ≡ count (waits_for p) earlier + weight (waits_for p message) → weight (waits_for p message) ≡ 1
        → InOrder p (cons_option (after now (message, cond b Send Keep)) rest)
    by true goes nothing one heavy = (λ waits. let no : (is_to p message && false) ≡ false = ap (λ a. a && false) e in absurd (cc (no, waits)), up)
    by false kept nothing one heavy = (λ waits. omega (arith, few, nothing, one, heavy, ltb-false _ _ kept), up)

order_ticked : (pace : Pace) (now : Moment) (p : Peer) (all earlier later : List Open) → InOrder p later → InOrder p (filter_map (after now) (dues pace now all earlier later))
order_ticked pace now p all earlier [] is = tt
order_ticked pace now p all earlier (message ∷ later) is =
    order_one pace now p all earlier message message.sent _ later (is_to p message) refl refl (few_out pace now p all (earlier ++ message ∷ []) later) is.0
    (order_ticked pace now p all (earlier ++ message ∷ []) later is.1)

pub limits_ticked : (pace : Pace) (now : Moment) (all : List Open) → IsWithinLimits pace all → IsWithinLimits pace (ticked pace now all)
limits_ticked pace now all limits =
    let within = counted pace all limits in
    limited pace (ticked pace now all) (record {
      out = λ p. omega (arith, few_out pace now p all [] all, allowed_most pace p, within.out p);
      wait = λ p. omega (arith, waits_ticked pace now p all [] all, within.wait p);
      peers = omega (arith, no_more_peers (ticked pace now all) all (λ q. open_ticked pace now q all [] all), within.peers);
      order = λ p. order_ticked pace now p all [] all (within.order p);
    })

pub limits_nil : (pace : Pace) → IsWithinLimits pace []
limits_nil pace = limited pace [] (record { out = λ p. omega arith; wait = λ p. omega arith; peers = omega arith; order = λ p. tt })

pub open_push : (p : Peer) (earlier : List Open) (message : Open) (to : Bool) → is_to p message ≡ to → has_open p (earlier ++ message ∷ []) ≡ (has_open p earlier || (to || false))
open_push p earlier message to e = list_any-append (is_to p) earlier (message ∷ []) ∙ ap (λ b. has_open p earlier || (b || false)) e

-- ---- how many there are

weights : (a b : Bool) → weight (a && b) + weight (a && not b) ≡ weight a
weights true true = refl
weights true false = refl
weights false true = refl
weights false false = refl

-- outstanding and waiting are all
pub both : (p : Peer) (xs : List Open) → count (goes_to p) xs + count (waits_for p) xs ≡ count (is_to p) xs
both p [] = refl
both p (x ∷ xs) = omega (arith, weights (is_to p x) (is_outstanding x), both p xs)

-- those that aren't to the peer
abbrev to_others : Peer → List Open → List Open
to_others p xs = filter (λ x. not (is_to p x)) xs

length_others : (p : Peer) (xs : List Open) → length xs ≡ count (is_to p) xs + length (to_others p xs)
length_others p [] = refl
length_others p (x ∷ xs) = by (is_to p x) (length_others p xs)
  where
    by : (b : Bool) → length xs ≡ count (is_to p) xs + length (to_others p xs)
        → suc (length xs) ≡ (weight b + count (is_to p) xs) + length (cond (not b) (x ∷ to_others p xs) (to_others p xs))
    by true up = omega (arith, up)
    by false up = omega (arith, up)

none_left : (p : Peer) (xs : List Open) → has_open p (to_others p xs) ≡ false
none_left p [] = refl
none_left p (x ∷ xs) = by (is_to p x) refl (none_left p xs)
  where
    by : (b : Bool) → is_to p x ≡ b → has_open p (to_others p xs) ≡ false → has_open p (cond (not b) (x ∷ to_others p xs) (to_others p xs)) ≡ false
    by true e up = up
    by false e up = rw e up

-- at most n to each of some peers
most_to : (n : ℕ) (xs : List Open) (ps : List Peer) → ((p : Peer) → count (is_to p) xs ≤ n) → ((q : Peer) → has_open q xs ≡ true → list_any (same_peer q) ps ≡ true)
    → length xs ≤ length ps * n
most_to n [] [] each among = omega arith
most_to n (x ∷ xs) [] each among =
    let mine : is_to x.to x ≡ true = same_peer_equiv.refl x.to in
    let found : false ≡ true = among x.to (ap (λ b. b || has_open x.to xs) mine) in
    absurd (cc)
most_to n xs (p ∷ ps) each among =
    omega (arith, length_others p xs, each p, most_to n (to_others p xs) ps (λ q. omega (arith, count_filter (λ x. not (is_to p x)) (is_to q) xs, each q)) rest, suc-mul (length ps) n)
  where
    other : (q : Peer) (b : Bool) → same_peer q p ≡ b → has_open q (to_others p xs) ≡ true → (b || list_any (same_peer q) ps) ≡ true → list_any (same_peer q) ps ≡ true
    other q true e f found = let none : has_open q (to_others p xs) ≡ false = open_same q p (to_others p xs) e ∙ none_left p xs in absurd (cc)
    other q false e f found = found

    rest : (q : Peer) → has_open q (to_others p xs) ≡ true → list_any (same_peer q) ps ≡ true
    rest q e = other q (same_peer q p) refl e (among q (open_filter (λ x. not (is_to p x)) q xs e))

pub most_messages : (pace : Pace) (all : List Open) → IsWithinLimits pace all → length all ≤ 64 * (17 + pace.more)
most_messages pace all limits =
    let within = counted pace all limits in
    let few : length all ≤ length (peers_of all) * (17 + pace.more) = most_to (17 + pace.more) all (peers_of all) (λ p. omega (arith, both p all, within.out p, within.wait p)) (λ q e. any_peers q all ∙ e) in
    omega (arith, few, mul-le (length (peers_of all)) (17 + pace.more) 64 (17 + pace.more) within.peers (omega arith))

-- ---- one at a time

one_open : (p : Peer) (xs : List Open) → has_open p xs ≡ true → 1 ≤ count (is_to p) xs
one_open p [] has = absurd (cc)
one_open p (x ∷ xs) has = by (is_to p x) has (one_open p xs)
  where
    by : (b : Bool) → (b || has_open p xs) ≡ true → (has_open p xs ≡ true → 1 ≤ count (is_to p) xs) → 1 ≤ weight b + count (is_to p) xs
    by true e up = omega arith
    by false e up = omega (arith, up e)

pub one_goes : (pace : Pace) (peer : Peer) (all : List Open) → pace.more ≡ 0 → goes_at_once pace peer all ≡ not (has_open peer all)
one_goes pace peer all alone = by (has_open peer all) refl (goes_at_once pace peer all) refl
  where
    by : (h : Bool) → has_open peer all ≡ h → (g : Bool) → goes_at_once pace peer all ≡ g → g ≡ not h
    by false none g e = sym e ∙ idle_goes pace peer all none
    by true has false e = refl
    by true has true e =
        let parts = and_parts (nat_eq (waiting peer all) 0) (ltb (outstanding peer all) (allowed pace peer)) e in
        absurd (omega (
          arith,
          one_open peer all has,
          both peer all,
          count_is (goes_to peer) all,
          count_is (waits_for peer) all,
          eqb-true (waiting peer all) 0 parts.0,
          ltb-true (outstanding peer all) (allowed pace peer) parts.1,
          allowed_most pace peer,
          alone,
        ))

some_goes : (p : Peer) (xs : List Open) → has_outstanding p xs ≡ true → 1 ≤ count (goes_to p) xs
some_goes p [] has = absurd (cc)
some_goes p (x ∷ xs) has = by (goes_to p x) has (some_goes p xs)
  where
    by : (b : Bool) → (b || has_outstanding p xs) ≡ true → (has_outstanding p xs ≡ true → 1 ≤ count (goes_to p) xs) → 1 ≤ weight b + count (goes_to p) xs
    by true e up = omega arith
    by false e up = omega (arith, up e)

none_goes : (p : Peer) (xs : List Open) → has_outstanding p xs ≡ false → count (goes_to p) xs ≡ 0
none_goes p [] none = refl
none_goes p (x ∷ xs) none =
    let parts = or_parts (goes_to p x) (has_outstanding p xs) none in
    omega (arith, ap weight parts.0, none_goes p xs parts.1)

count_parts : (t : Open → Bool) (xs ys : List Open) → count t (xs ++ ys) ≡ count t xs + count t ys
count_parts t [] ys = omega arith
count_parts t (x ∷ xs) ys = omega (arith, count_parts t xs ys)

pub one_waits : (pace : Pace) (earlier later : List Open) (message : Open) → pace.more ≡ 0
    → waiting_due pace (earlier ++ message ∷ later) earlier message ≡ cond (has_outstanding message.to (earlier ++ message ∷ later) || has_open message.to earlier) Keep Send
one_waits pace earlier later message alone =
    waiting_is pace p all earlier message (same_peer_equiv.refl p) ∙ by (released pace p all earlier) (has_outstanding p all) (has_open p earlier) refl refl refl
  where
    p : Peer
    p = message.to

    all : List Open
    all = earlier ++ message ∷ later

    by : (r o h : Bool) → released pace p all earlier ≡ r → has_outstanding p all ≡ o → has_open p earlier ≡ h → cond r Send Keep ≡ cond (o || h) Keep Send
    by true true h r o e = absurd (omega (arith, ltb-true _ _ r, some_goes p all o, allowed_most pace p, alone))
    by true false true r o e =
        absurd (omega (arith, ltb-true _ _ r, one_open p earlier e, both p earlier, count_parts (goes_to p) earlier (message ∷ later), allowed_most pace p, alone))
    by true false false r o e = refl
    by false true h r o e = refl
    by false false true r o e = refl
    by false false false r o e = absurd (omega (arith, ltb-false _ _ r, none_goes p all o, waits_none p earlier e))
