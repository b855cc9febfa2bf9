-- The places of the open messages.
use Rattle.std.proofs.Common.{◌≡◌, ℕ, ◌+◌, ◌<◌, nat_eq, Bool, true, false, not, cond, ◌&&◌, ◌||◌, is_some, List, [], ◌∷◌, ◌++◌, length, filter, count_by, take, drop, get_or, set, zero, suc, refl, ap, ap₂, sym, ◌∙◌, subst, append_assoc, arith}
use Rattle.std.specs.List.{All, list_any, remove}
use Rattle.std.proofs.lemmas.Bool.{ne_eqb}
use Rattle.std.proofs.lemmas.List.Elements.{All-head, All-drop}
use Rattle.std.proofs.lemmas.List.{append-nil, take_more, drop_more, take-map, drop-map, map-append}
use Rattle.std.proofs.lemmas.List.Sums.{sum_by-cons}
use Rattle.osc_model.specs.declared.node.Moment.{Moment}
use Rattle.osc_model.specs.declared.node.Peer.{Peer}
use Rattle.osc_message.specs.declared.queued.Queued.{Queued}
use Rattle.osc_model.specs.{same_peer}
use Rattle.osc_message.specs.Pace.{Pace}
use Rattle.osc_message.specs.{Open, IsInOrder, is_to, is_named, is_outstanding, has_open, outstanding, waiting, peers_of, IsBounded, due_of, dues, messages, IsPlacedFor, ArePlaced, HasPlace, IsSoundQueue, place_after, placed_one, placed}
use Rattle.osc_message.proofs.Limits.{both, count, count_is, count_push, goes_to, waits_for, weight_is, open_push, open_same}
use Rattle.osc_message.proofs.Peers.{same_peer_equiv, length_peers, weight}

-- ---- what is said of the messages, said of the queue

pub any_messages : (t : Open → Bool) (xs : List Queued) → list_any t (messages xs) ≡ list_any (λ x. t x.message) xs
any_messages t [] = refl
any_messages t (x ∷ xs) = ap (λ b. t x.message || b) (any_messages t xs)

pub count_messages : (t : Open → Bool) (xs : List Queued) → count_by (λ x. t x.message) xs ≡ count t (messages xs)
count_messages t [] = refl
count_messages t (x ∷ xs) = sum_by-cons (λ y. cond (t y.message) 1 0) x xs ∙ ap₂ (λ a b. a + b) (weight_is (t x.message)) (count_messages t xs)

pub filter_messages : (t : Open → Bool) (xs : List Queued) → messages (filter (λ x. t x.message) xs) ≡ filter t (messages xs)
filter_messages t [] = refl
filter_messages t (x ∷ xs) = by (t x.message) (filter_messages t xs)
  where
    by : (b : Bool) → messages (filter (λ y. t y.message) xs) ≡ filter t (messages xs)
        → messages (cond b (x ∷ filter (λ y. t y.message) xs) (filter (λ y. t y.message) xs)) ≡ cond b (x.message ∷ filter t (messages xs)) (filter t (messages xs))
    by true up = ap (λ zs. x.message ∷ zs) up
    by false up = up

-- ---- peers

-- one that is the same as one of two peers that differ isn't the same as the other
apart : (p q x : Peer) → same_peer q p ≡ false → same_peer p x ≡ true → same_peer q x ≡ false
apart p q x differ same =
    let at : same_peer q x ≡ same_peer q p = same_peer_equiv.symm q x ∙ (sym (same_peer_equiv.congr p x q same) ∙ same_peer_equiv.symm p q) in
    at ∙ differ

pub or_assoc : (a b c : Bool) → ((a || b) || c) ≡ (a || (b || c))
or_assoc true b c = refl
or_assoc false b c = refl

or_nil : (a : Bool) → (a || false) ≡ a
or_nil true = refl
or_nil false = refl

-- ---- what the places say

after_is : (p : Peer) (n : ℕ) (m : Open) → place_after p n m ≡ n + weight (is_to p m)
after_is p n m = by (is_to p m)
  where
    by : (b : Bool) → cond b (n + 1) n ≡ n + weight b
    by true = refl
    by false = omega arith

place_from : (xs : List Queued) (i : ℕ) (x : Queued) (later : List Queued) (n : ℕ) → IsPlacedFor x.message.to n xs → drop i xs ≡ x ∷ later
    → x.place ≡ n + count (is_to x.message.to) (messages (take i xs))
place_from [] zero x later n places split = absurd (cc)
place_from [] (suc i) x later n places split = absurd (cc)
place_from (y ∷ ys) zero x later n places split =
    let same : y ≡ x = cc in
    let mine : is_to x.message.to y.message ≡ true = ap (λ z. is_to x.message.to z.message) same ∙ same_peer_equiv.refl x.message.to in
    omega (arith, ap (λ z. z.place) same, places.0 mine)
place_from (y ∷ ys) (suc i) x later n places split =
    omega (arith, place_from ys i x later (place_after x.message.to n y.message) places.1 split, after_is x.message.to n y.message)

pub place_at : (xs : List Queued) (i : ℕ) (x : Queued) (later : List Queued) → ArePlaced xs → drop i xs ≡ x ∷ later
    → x.place ≡ count (is_to x.message.to) (messages (take i xs))
place_at xs i x later places split = omega (arith, place_from xs i x later 0 (places x.message.to) split)

-- behind one that waits none is outstanding
order_at : (p : Peer) (xs : List Open) (i : ℕ) (x : Open) (later : List Open) → IsInOrder p xs → drop i xs ≡ x ∷ later → is_to p x ≡ true → is_outstanding x ≡ false
    → count (goes_to p) xs ≡ count (goes_to p) (take i xs)
order_at p [] zero x later is split to waits = absurd (cc)
order_at p [] (suc i) x later is split to waits = absurd (cc)
order_at p (y ∷ ys) zero x later is split to waits =
    let same : y ≡ x = cc in
    let mine : (is_to p y && not (is_outstanding y)) ≡ true = rw same (ap₂ (λ a b. a && not b) to waits) in
    let quiet : (is_to p y && is_outstanding y) ≡ false = rw same (ap₂ (λ a b. a && b) to waits) in
    omega (arith, ap weight quiet, count_is (goes_to p) ys, is.0 mine)
order_at p (y ∷ ys) (suc i) x later is split to waits = omega (arith, order_at p ys i x later is.1 split to waits)

pub has_place_at : (pace : Pace) (xs : List Queued) (i : ℕ) (x : Queued) → i < length xs → x ≡ get_or xs i x → IsSoundQueue pace xs → HasPlace (messages xs) (messages (take i xs)) x
has_place_at pace xs i x inside is sound waits =
    let p = x.message.to in
    let rest = drop (i + 1) xs in
    let split : drop i xs ≡ x ∷ rest = drop_more xs i x inside ∙ ap (λ y. y ∷ rest) (sym is) in
    let here : drop i (messages xs) ≡ x.message ∷ messages rest = drop-map (λ y. y.message) i xs ∙ ap messages split in
    let out = order_at p (messages xs) i x.message (messages rest) (sound.sound.limits.in_order p) here (same_peer_equiv.refl p) (ap is_some waits) in
    let front : count (goes_to p) (take i (messages xs)) ≡ count (goes_to p) (messages (take i xs)) = ap (count (goes_to p)) (take-map (λ y. y.message) i xs) in
    omega (arith, place_at xs i x rest sound.placed split, both p (messages (take i xs)), out, front, count_is (goes_to p) (messages xs), count_is (waits_for p) (messages (take i xs)))

-- one place of the queue, among what is due
pub due_at_place : (pace : Pace) (now : Moment) (xs : List Queued) (i : ℕ) (x : Queued) → i < length xs → x ≡ get_or xs i x
    → dues pace now (messages xs) (messages (take i xs)) (messages (drop i xs))
    ≡ (x.message, due_of pace now (messages xs) (messages (take i xs)) x.message x.message.sent) ∷ dues pace now (messages xs) (messages (take (i + 1) xs)) (messages (drop (i + 1) xs))
due_at_place pace now xs i x inside is =
    let all = messages xs in
    let rest = drop (i + 1) xs in
    let split : drop i xs ≡ x ∷ rest = drop_more xs i x inside ∙ ap (λ y. y ∷ rest) (sym is) in
    let front : messages (take (i + 1) xs) ≡ messages (take i xs) ++ x.message ∷ [] =
    ap messages (take_more xs i x inside ∙ ap (λ y. take i xs ++ y ∷ []) (sym is)) ∙ map-append (λ y. y.message) (take i xs) (x ∷ [])
    in
    ap (λ ys. dues pace now all (messages (take i xs)) (messages ys)) split
    ∙ ap (λ zs. (x.message, due_of pace now all (messages (take i xs)) x.message x.message.sent) ∷ dues pace now all zs (messages rest)) (sym front)

pub split_at_place : (xs : List Queued) (i : ℕ) (x : Queued) → i < length xs → x ≡ get_or xs i x → messages (drop i xs) ≡ x.message ∷ messages (drop (i + 1) xs)
split_at_place xs i x inside is = ap messages (drop_more xs i x inside ∙ ap (λ y. y ∷ drop (i + 1) xs) (sym is))

pub bounded_at_place : (xs : List Queued) (i : ℕ) (x : Queued) → i < length xs → x ≡ get_or xs i x → All IsBounded (messages xs) → IsBounded x.message
bounded_at_place xs i x inside is all =
    let split : drop i (messages xs) ≡ x.message ∷ messages (drop (i + 1) xs) = drop-map (λ y. y.message) i xs ∙ ap messages (drop_more xs i x inside ∙ ap (λ y. y ∷ drop (i + 1) xs) (sym is)) in
    All-head IsBounded x.message (messages (drop (i + 1) xs)) (subst (All IsBounded) split (All-drop IsBounded i (messages xs) all))

-- ---- as many peers as first messages

-- one message more is one peer more where its peer has none open
peers_more : (m : Open) (xs : List Open) → length (peers_of (xs ++ m ∷ [])) ≡ length (peers_of xs) + weight (not (has_open m.to xs))
peers_more m [] = refl
peers_more m (x ∷ xs) = by (same_peer m.to x.to) (has_open x.to xs) (has_open m.to xs) refl refl refl (peers_more m xs)
  where
    more : (s a b : Bool) → same_peer m.to x.to ≡ s → has_open x.to xs ≡ a → has_open x.to (xs ++ m ∷ []) ≡ (a || s)
    more s a b e f = open_push x.to xs m s (same_peer_equiv.symm x.to m.to ∙ e) ∙ ap₂ (λ c d. c || d) f (or_nil s)

    sums : (s a b : Bool) → (s ≡ true → a ≡ b) → (ones twos threes fours : ℕ) → twos ≡ ones + weight (not b) → threes + weight (a || s) ≡ twos + 1 → fours + weight a ≡ ones + 1
        → threes ≡ fours + weight (not (s || b))
    sums true a b same ones twos threes fours e f g = at a b (same refl) e f g
      where
        at : (c d : Bool) → c ≡ d → twos ≡ ones + weight (not d) → threes + weight (c || true) ≡ twos + 1 → fours + weight c ≡ ones + 1 → threes ≡ fours + 0
        at true true is e f g = omega (arith, e, f, g)
        at false false is e f g = omega (arith, e, f, g)
        at true false is e f g = absurd (cc)
        at false true is e f g = absurd (cc)
    sums false true b same ones twos threes fours e f g = omega (arith, e, f, g)
    sums false false b same ones twos threes fours e f g = omega (arith, e, f, g)

    by : (s a b : Bool) → same_peer m.to x.to ≡ s → has_open x.to xs ≡ a → has_open m.to xs ≡ b → length (peers_of (xs ++ m ∷ [])) ≡ length (peers_of xs) + weight (not (has_open m.to xs))
        → length (peers_of (x ∷ (xs ++ m ∷ []))) ≡ length (peers_of (x ∷ xs)) + weight (not (s || b))
    by s a b e f g up =
        let behind : length (peers_of (xs ++ m ∷ [])) ≡ length (peers_of xs) + weight (not b) = up ∙ ap (λ c. length (peers_of xs) + weight (not c)) g in
        let long : length (peers_of (x ∷ (xs ++ m ∷ []))) + weight (a || s) ≡ length (peers_of (xs ++ m ∷ [])) + 1 = ap (λ c. length (peers_of (x ∷ (xs ++ m ∷ []))) + weight c) (sym (more s a b e f)) ∙ length_peers x (xs ++ m ∷ []) in
        let short : length (peers_of (x ∷ xs)) + weight a ≡ length (peers_of xs) + 1 = ap (λ c. length (peers_of (x ∷ xs)) + weight c) (sym f) ∙ length_peers x xs in
        sums s a b (λ same. sym f ∙ (sym (open_same m.to x.to xs (e ∙ same)) ∙ g)) _ _ _ _ behind long short

none_before : (p : Peer) (xs : List Open) → nat_eq (count (is_to p) xs) 0 ≡ not (has_open p xs)
none_before p [] = refl
none_before p (x ∷ xs) = by (is_to p x) (none_before p xs)
  where
    by : (b : Bool) → nat_eq (count (is_to p) xs) 0 ≡ not (has_open p xs) → nat_eq (weight b + count (is_to p) xs) 0 ≡ not (b || has_open p xs)
    by true up = ne_eqb (weight true + count (is_to p) xs) 0 (λ e. omega (arith, e))
    by false up = let same : weight false + count (is_to p) xs ≡ count (is_to p) xs = omega arith in ap (λ n. nat_eq n 0) same ∙ up

firsts : (xs : List Queued) (earlier : List Open) → ((p : Peer) → IsPlacedFor p (count (is_to p) earlier) xs)
    → count_by (λ x. nat_eq x.place 0) xs + length (peers_of earlier) ≡ length (peers_of (earlier ++ messages xs))
firsts [] earlier places = omega (arith, ap (λ ms. length (peers_of ms)) (append-nil earlier))
firsts (x ∷ xs) earlier places =
    let m = x.message in
    let one : nat_eq x.place 0 ≡ not (has_open m.to earlier) = ap (λ n. nat_eq n 0) ((places m.to).0 (same_peer_equiv.refl m.to)) ∙ none_before m.to earlier in
    let counted : count_by (λ y. nat_eq y.place 0) (x ∷ xs) ≡ weight (nat_eq x.place 0) + count_by (λ y. nat_eq y.place 0) xs =
    sum_by-cons (λ y. cond (nat_eq y.place 0) 1 0) x xs ∙ ap (λ n. n + count_by (λ y. nat_eq y.place 0) xs) (weight_is (nat_eq x.place 0))
    in
    let later = firsts xs (earlier ++ m ∷ []) (λ p. subst (λ n. IsPlacedFor p n xs) (after_is p (count (is_to p) earlier) m ∙ sym (count_push (is_to p) earlier m)) (places p).1) in
    omega (arith, counted, ap weight one, later, peers_more m earlier, ap (λ ms. length (peers_of ms)) (append_assoc earlier (m ∷ []) (messages xs)))

pub count_firsts : (xs : List Queued) → ArePlaced xs → count_by (λ x. nat_eq x.place 0) xs ≡ length (peers_of (messages xs))
count_firsts xs places = omega (arith, firsts xs [] places)

-- ---- one message more

open_counted : (p q : Peer) (xs : List Open) → same_peer p q ≡ true → count (is_to p) xs ≡ count (is_to q) xs
open_counted p q [] same = refl
open_counted p q (x ∷ xs) same = ap₂ (λ b n. weight b + n) (same_peer_equiv.congr p q x.to same) (open_counted p q xs same)

push_from : (p : Peer) (n : ℕ) (xs : List Queued) (y : Queued) → IsPlacedFor p n xs → (is_to p y.message ≡ true → y.place ≡ n + count (is_to p) (messages xs))
    → IsPlacedFor p n (xs ++ y ∷ [])
push_from p n [] y places last = (λ to. omega (arith, last to), tt)
push_from p n (x ∷ xs) y places last =
    (places.0, push_from p (place_after p n x.message) xs y places.1 (λ to. omega (arith, last to, after_is p n x.message)))

pub placed_push : (xs : List Queued) (y : Queued) → ArePlaced xs → y.place ≡ outstanding y.message.to (messages xs) + waiting y.message.to (messages xs) → ArePlaced (xs ++ y ∷ [])
placed_push xs y places last =
    let ms = messages xs in
    let q = y.message.to in
    λ p. push_from p 0 xs y (places p) (λ to. omega (arith, last, both q ms, count_is (goes_to q) ms, count_is (waits_for q) ms, open_counted p q ms to))

-- ---- messages taken out

passes : (p : Peer) (n : ℕ) (m : Open) → is_to p m ≡ false → place_after p n m ≡ n
passes p n m other = ap (λ b. cond b (n + 1) n) other

filter_from : (t : Queued → Bool) (q : Peer) (n : ℕ) (xs : List Queued) → ((x : Queued) → is_to q x.message ≡ true → t x ≡ true) → IsPlacedFor q n xs → IsPlacedFor q n (filter t xs)
filter_from t q n [] stays places = tt
filter_from t q n (x ∷ xs) stays places = by (t x) (is_to q x.message) refl refl (filter_from t q (place_after q n x.message) xs stays places.1)
  where
    by : (kept to : Bool) → t x ≡ kept → is_to q x.message ≡ to → IsPlacedFor q (place_after q n x.message) (filter t xs) → IsPlacedFor q n (cond kept (x ∷ filter t xs) (filter t xs))
    by true to e f up = (places.0, up)
    by false true e f up = absurd (cc (stays x f, e))
    by false false e f up = subst (λ k. IsPlacedFor q k (filter t xs)) (passes q n x.message f) up

remove_from : (q : Peer) (n : ℕ) (xs : List Queued) (i : ℕ) (d : Queued) → is_to q (get_or xs i d).message ≡ false → IsPlacedFor q n xs → IsPlacedFor q n (remove xs i)
remove_from q n [] zero d other places = tt
remove_from q n [] (suc i) d other places = tt
remove_from q n (y ∷ ys) zero d other places = subst (λ k. IsPlacedFor q k ys) (passes q n y.message other) places.1
remove_from q n (y ∷ ys) (suc i) d other places = (places.0, remove_from q (place_after q n y.message) ys i d other places.1)

take_removed : (xs : List Queued) (i : ℕ) → take i (remove xs i) ≡ take i xs
take_removed [] zero = refl
take_removed [] (suc i) = refl
take_removed (x ∷ xs) zero = refl
take_removed (x ∷ xs) (suc i) = ap (λ ys. x ∷ ys) (take_removed xs i)

drop_removed : (xs : List Queued) (i : ℕ) (x : Queued) (later : List Queued) → drop i xs ≡ x ∷ later → drop i (remove xs i) ≡ later
drop_removed [] zero x later split = absurd (cc)
drop_removed [] (suc i) x later split = absurd (cc)
drop_removed (y ∷ ys) zero x later split = let rest : ys ≡ later = cc in rest
drop_removed (y ∷ ys) (suc i) x later split = drop_removed ys i x later split

-- one in the place of another of the same peer and place
set_from : (q : Peer) (n : ℕ) (xs : List Queued) (i : ℕ) (y d : Queued) → y.place ≡ (get_or xs i d).place → y.message.to ≡ (get_or xs i d).message.to
    → IsPlacedFor q n xs → IsPlacedFor q n (set xs i y)
set_from q n [] zero y d same to places = tt
set_from q n [] (suc i) y d same to places = tt
set_from q n (z ∷ zs) zero y d same to places =
    let at : is_to q y.message ≡ is_to q z.message = ap (same_peer q) to in
    (λ mine. same ∙ places.0 (sym at ∙ mine), subst (λ b. IsPlacedFor q (cond b (n + 1) n) zs) (sym at) places.1)
set_from q n (z ∷ zs) (suc i) y d same to places = (places.0, set_from q (place_after q n z.message) zs i y d same to places.1)

pub placed_set : (xs : List Queued) (i : ℕ) (y d : Queued) → y.place ≡ (get_or xs i d).place → y.message.to ≡ (get_or xs i d).message.to → ArePlaced xs → ArePlaced (set xs i y)
placed_set xs i y d same to places = λ q. set_from q 0 xs i y d same to (places q)

-- ---- placed again

same_message : (p : Peer) (n : ℕ) (x : Queued) → (placed_one p n x).message ≡ x.message
same_message p n x = by (is_to p x.message)
  where
    by : (b : Bool) → (cond b (record x { place = n }) x).message ≡ x.message
    by true = refl
    by false = refl

pub messages_placed : (p : Peer) (n : ℕ) (xs : List Queued) → messages (placed p n xs) ≡ messages xs
messages_placed p n [] = refl
messages_placed p n (x ∷ xs) = ap₂ (λ m ms. m ∷ ms) (same_message p n x) (messages_placed p (place_after p n x.message) xs)

-- it is to the peer
placed_same : (p q : Peer) (n : ℕ) (xs : List Queued) → same_peer q p ≡ true → IsPlacedFor q n (placed p n xs)
placed_same p q n [] same = tt
placed_same p q n (x ∷ xs) same =
    let to : is_to q x.message ≡ is_to p x.message = same_peer_equiv.congr q p x.message.to same in
    let at : is_to q (placed_one p n x).message ≡ is_to p x.message = ap (is_to q) (same_message p n x) ∙ to in (
      λ mine. by (is_to p x.message) (sym at ∙ mine),
      subst (λ b. IsPlacedFor q (cond b (n + 1) n) (placed p (place_after p n x.message) xs)) (sym at) (placed_same p q (place_after p n x.message) xs same),
    )
  where
    by : (b : Bool) → b ≡ true → (cond b (record x { place = n }) x).place ≡ n
    by true e = refl
    by false e = absurd (cc)

-- it is to another
placed_other : (p q : Peer) (k n : ℕ) (xs : List Queued) → same_peer q p ≡ false → IsPlacedFor q n xs → IsPlacedFor q n (placed p k xs)
placed_other p q k n [] differ places = tt
placed_other p q k n (x ∷ xs) differ places =
    let at : is_to q (placed_one p k x).message ≡ is_to q x.message = ap (is_to q) (same_message p k x) in (
      λ mine. by (is_to p x.message) refl (sym at ∙ mine),
      subst (λ b. IsPlacedFor q (cond b (n + 1) n) (placed p (place_after p k x.message) xs)) (sym at)
          (placed_other p q (place_after p k x.message) (place_after q n x.message) xs differ places.1),
    )
  where
    by : (b : Bool) → is_to p x.message ≡ b → is_to q x.message ≡ true → (cond b (record x { place = k }) x).place ≡ n
    by true e mine = let wrong : is_to q x.message ≡ false = apart p q x.message.to differ e in absurd (cc)
    by false e mine = places.0 mine

-- where the places are right for all others
pub placed_again : (p : Peer) (xs : List Queued) → ((q : Peer) → same_peer q p ≡ false → IsPlacedFor q 0 xs) → ArePlaced (placed p 0 xs)
placed_again p xs others = λ q. by q (same_peer q p) refl
  where
    by : (q : Peer) (b : Bool) → same_peer q p ≡ b → IsPlacedFor q 0 (placed p 0 xs)
    by q true e = placed_same p q 0 xs e
    by q false e = placed_other p q 0 0 xs e (others q e)

-- where messages to one peer are taken out
pub placed_filter : (p : Peer) (id : ℕ) (xs : List Queued) → ArePlaced xs → ArePlaced (placed p 0 (filter (λ x. not (is_named p id x.message)) xs))
placed_filter p id xs places = placed_again p _ (λ q differ. filter_from (λ x. not (is_named p id x.message)) q 0 xs (λ x mine. stays q x differ mine) (places q))
  where
    stays : (q : Peer) (x : Queued) → same_peer q p ≡ false → is_to q x.message ≡ true → not (is_named p id x.message) ≡ true
    stays q x differ mine =
        let other : is_to p x.message ≡ false = apart q p x.message.to (same_peer_equiv.symm p q ∙ differ) mine in
        rw other refl

pub placed_remove : (xs : List Queued) (i : ℕ) (x : Queued) → x ≡ get_or xs i x → ArePlaced xs → ArePlaced (placed x.message.to 0 (remove xs i))
placed_remove xs i x is places =
    placed_again x.message.to _ (λ q differ. remove_from q 0 xs i x (ap (λ y. is_to q y.message) (sym is) ∙ differ) (places q))

-- what is before the one that is taken out, and after it
pub front_removed : (p : Peer) (xs : List Queued) (i : ℕ) → messages (take i (placed p 0 (remove xs i))) ≡ messages (take i xs) ++ []
front_removed p xs i =
    sym (take-map (λ x. x.message) i (placed p 0 (remove xs i)))
    ∙ ap (take i) (messages_placed p 0 (remove xs i))
    ∙ take-map (λ x. x.message) i (remove xs i)
    ∙ ap messages (take_removed xs i)
    ∙ sym (append-nil (messages (take i xs)))

pub back_removed : (p : Peer) (xs : List Queued) (i : ℕ) (x : Queued) (later : List Queued) → drop i xs ≡ x ∷ later → messages (drop i (placed p 0 (remove xs i))) ≡ messages later
back_removed p xs i x later split =
    sym (drop-map (λ y. y.message) i (placed p 0 (remove xs i)))
    ∙ ap (drop i) (messages_placed p 0 (remove xs i))
    ∙ drop-map (λ y. y.message) i (remove xs i)
    ∙ ap messages (drop_removed xs i x later split)
