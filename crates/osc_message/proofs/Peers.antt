-- The peers that have a message open.
use Rattle.std.proofs.Common.{◌≡◌, ℕ, ◌+◌, Bool, true, false, not, cond, ◌&&◌, ◌||◌, List, [], ◌∷◌, length, filter, suc, refl, ap, ap₂, ◌∙◌, arith, rules}
use Rattle.std.specs.Cmp.{IsEquivalence}
use Rattle.std.specs.Cmp.Rules.{comparing}
use Rattle.std.specs.List.{list_any, IsDistinct, AllByRecursion}
use Rattle.osc_model.specs.declared.node.Peer.{Peer}
use Rattle.osc_model.specs.{same_peer}
use Rattle.osc_message.specs.{Open, has_open, peers_of}

pub same_peer_equiv : IsEquivalence same_peer
same_peer_equiv = search (comparing, rules)

-- the others than one
abbrev pub others : Peer → List Peer → List Peer
others peer peers = filter (λ x. not (same_peer peer x)) peers

any_others : (p q : Peer) (xs : List Peer) → list_any (same_peer q) (others p xs) ≡ (not (same_peer p q) && list_any (same_peer q) xs)
any_others p q [] = by (same_peer p q)
  where
    by : (b : Bool) → false ≡ (not b && false)
    by true = refl
    by false = refl
any_others p q (x ∷ xs) = by (same_peer p q) (same_peer p x) (same_peer q x) (list_any (same_peer q) xs) refl refl refl (any_others p q xs)
  where
    by : (pq px qx rest : Bool) → same_peer p q ≡ pq → same_peer p x ≡ px → same_peer q x ≡ qx → list_any (same_peer q) (others p xs) ≡ (not pq && rest)
        → list_any (same_peer q) (cond (not px) (x ∷ others p xs) (others p xs)) ≡ (not pq && (qx || rest))
    by true true qx rest e f g up = up
    by false true true rest e f g up = let wrong : same_peer p q ≡ true = same_peer_equiv.congr p x q f ∙ same_peer_equiv.symm x q ∙ g in cc
    by false true false rest e f g up = up
    by true false true rest e f g up = let wrong : same_peer p x ≡ true = same_peer_equiv.congr p q x e ∙ g in cc
    by true false false rest e f g up = rw g up
    by false false true rest e f g up = rw g refl
    by false false false rest e f g up = rw g up

-- the peers of a list are those to which one is open
pub any_peers : (q : Peer) (all : List Open) → list_any (same_peer q) (peers_of all) ≡ has_open q all
any_peers q [] = refl
any_peers q (m ∷ later) =
    ap (λ b. same_peer q m.to || b) (any_others m.to q (peers_of later) ∙ ap₂ (λ a b. not a && b) (same_peer_equiv.symm m.to q) (any_peers q later))
    ∙ by (same_peer q m.to) (has_open q later)
  where
    by : (a b : Bool) → (a || (not a && b)) ≡ (a || b)
    by true b = refl
    by false b = refl

apart_others : (p x : Peer) (xs : List Peer) → AllByRecursion (λ y. same_peer x y ≡ false) xs → AllByRecursion (λ y. same_peer x y ≡ false) (others p xs)
apart_others p x [] apart = tt
apart_others p x (y ∷ xs) apart = by (same_peer p y) (apart_others p x xs apart.1)
  where
    by : (b : Bool) → AllByRecursion (λ z. same_peer x z ≡ false) (others p xs) → AllByRecursion (λ z. same_peer x z ≡ false) (cond (not b) (y ∷ others p xs) (others p xs))
    by true up = up
    by false up = (apart.0, up)

distinct_others : (p : Peer) (xs : List Peer) → IsDistinct same_peer xs → IsDistinct same_peer (others p xs)
unfolding IsDistinct
distinct_others p [] apart = tt
distinct_others p (x ∷ xs) apart = by (same_peer p x) (distinct_others p xs apart.1)
  where
    by : (b : Bool) → IsDistinct same_peer (others p xs) → IsDistinct same_peer (cond (not b) (x ∷ others p xs) (others p xs))
    by true up = up
    by false up = (apart_others p x xs apart.0, up)

all_others : (p : Peer) (xs : List Peer) → AllByRecursion (λ y. same_peer p y ≡ false) (others p xs)
all_others p [] = tt
all_others p (x ∷ xs) = by (same_peer p x) refl (all_others p xs)
  where
    by : (b : Bool) → same_peer p x ≡ b → AllByRecursion (λ y. same_peer p y ≡ false) (others p xs) → AllByRecursion (λ y. same_peer p y ≡ false) (cond (not b) (x ∷ others p xs) (others p xs))
    by true e up = up
    by false e up = (e, up)

pub peers_distinct : (all : List Open) → IsDistinct same_peer (peers_of all)
unfolding IsDistinct
peers_distinct [] = tt
peers_distinct (m ∷ later) = (all_others m.to (peers_of later), distinct_others m.to (peers_of later) (peers_distinct later))

-- where no peer is the same as p, none goes
none_goes : (p x : Peer) (xs : List Peer) → same_peer p x ≡ true → AllByRecursion (λ y. same_peer x y ≡ false) xs → length (others p xs) ≡ length xs
none_goes p x [] same apart = refl
none_goes p x (y ∷ xs) same apart =
    let other : same_peer p y ≡ false = same_peer_equiv.congr p x y same ∙ apart.0 in
    rw other (ap suc (none_goes p x xs same apart.1))

abbrev pub weight : Bool → ℕ
weight true = 1
weight false = 0

length_others : (p : Peer) (xs : List Peer) → IsDistinct same_peer xs → length (others p xs) + weight (list_any (same_peer p) xs) ≡ length xs
unfolding IsDistinct
length_others p [] apart = refl
length_others p (x ∷ xs) apart = by (same_peer p x) refl (length_others p xs apart.1)
  where
    by : (b : Bool) → same_peer p x ≡ b → length (others p xs) + weight (list_any (same_peer p) xs) ≡ length xs
        → length (cond (not b) (x ∷ others p xs) (others p xs)) + weight (b || list_any (same_peer p) xs) ≡ suc (length xs)
    by true e up = omega (arith, none_goes p x xs e apart.0)
    by false e up = omega (arith, up)

pub weigh : (a b : Bool) → a ≡ b → weight a ≡ weight b
weigh a b e = ap weight e

-- a message counts for one more peer where none after it is to its peer
pub length_peers : (m : Open) (later : List Open) → length (peers_of (m ∷ later)) + weight (has_open m.to later) ≡ length (peers_of later) + 1
length_peers m later =
    let others_and = length_others m.to (peers_of later) (peers_distinct later) in
    let same : list_any (same_peer m.to) (peers_of later) ≡ has_open m.to later = any_peers m.to later in
    omega (arith, others_and, weigh _ _ same)
