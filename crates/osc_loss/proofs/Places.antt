-- What a table of messages says of one message: what isn't noted stays so while others are noted, and the note of one stays while fewer than
-- 64 others are noted after it.
use Rattle.std.proofs.Common.{◌≡◌, ◌∙◌, sym, ap, subst, refl, ℕ, zero, suc, ◌+◌, ◌-◌, ◌<◌, ◌≤◌, Bool, true, false, ◌&&◌, List, [], ◌∷◌, ◌++◌, drop, length, Some, None, arith, append_assoc, length-append}
use Rattle.std.specs.Prelude.{◌≢◌, filter, not}
use Rattle.std.specs.List.{AllByRecursion}
use Rattle.std.proofs.lemmas.Bool.{lt-ltb, ne_eqb}
use Rattle.osc_model.specs.{same_peer}
use Rattle.osc_model.specs.declared.node.Moment.{Moment}
use Rattle.osc_model.specs.declared.node.Peer.{Peer}
use Rattle.osc_dedup.specs.{Entry, alive, is_alive, is_of, looked, most_entries, staying, with_note}
use Rattle.osc_dedup.specs.declared.table.Remembered.{Remembered}
use Rattle.osc_rounds.proofs.Unheard.{Unheard, of_unheard, unheard_filtered, unheard_of}
use Rattle.osc_rounds.proofs.Accepting.{same_number}

-- what addresses say
pub record PeerLaws : Type 0 where
  pub same : (a b : Peer) → same_peer a b ≡ true → a ≡ b
  pub itself : (a : Peer) → same_peer a a ≡ true

-- it is another message: where it is from the same peer, its ID is another
abbrev pub IsOther : Peer → ℕ → Peer → ℕ → Type 0
IsOther peer id from other = same_peer peer from ≡ true → other ≢ id

both_ways : (b : Bool) → b ≡ true → b ≡ false → ⊥
both_ways b is isnt = cc

pub isnt_of : (peer : Peer) (id : ℕ) (from : Peer) (other : ℕ) (noted : Remembered) → IsOther peer id from other
    → is_of peer id (record { peer = from; id = other; noted = noted }) ≡ false
isnt_of peer id from other noted differs = at (same_peer peer from) refl
  where
    at : (b : Bool) → same_peer peer from ≡ b → is_of peer id (record { peer = from; id = other; noted = noted }) ≡ false
    at false away = rw away refl
    at true same = rw (same, ne_eqb id other (λ is. differs same (sym is))) refl

pub other_way : PeerLaws → (peer : Peer) (id : ℕ) (from : Peer) (other : ℕ) → IsOther peer id from other → IsOther from other peer id
other_way laws peer id from other differs same is =
    let at_peer : same_peer peer from ≡ true = subst (λ (p : Peer). same_peer p from ≡ true) (laws.same from peer same) (laws.itself from) in
    differs at_peer (sym is)

-- ---- what isn't noted

module _ (later : Moment) (peer : Peer) (id : ℕ) where
  unheard_dropped : (n : ℕ) (entries : List Entry) → Unheard later peer id entries → Unheard later peer id (drop n entries)
  unheard_dropped zero entries none = none
  unheard_dropped (suc n) [] none = tt
  unheard_dropped (suc n) (entry ∷ entries) none = unheard_dropped n entries none.1

  unheard_and : (entries : List Entry) (one : Entry) → Unheard later peer id entries → is_of peer id one ≡ false → Unheard later peer id (entries ++ one ∷ [])
  unheard_and [] one none other = ((λ _. other), tt)
  unheard_and (entry ∷ entries) one none other = (none.0, unheard_and entries one none.1 other)

  pub unheard_noted : (now : Moment) (from : Peer) (other : ℕ) (noted : Remembered) (seen : List Entry) → IsOther peer id from other
      → looked later peer id seen ≡ None → looked later peer id (with_note now from other noted seen) ≡ None
  unheard_noted now from other noted seen differs none =
      let others = staying now from other seen in
      let one : Entry = record { peer = from; id = other; noted = noted } in
      of_unheard later peer id (with_note now from other noted seen)
      (unheard_and (drop (length others + 1 - most_entries) others) one
      (unheard_dropped (length others + 1 - most_entries) others
      (unheard_filtered later peer id (λ entry. is_alive now entry && not (is_of from other entry)) seen (unheard_of later peer id seen none)))
      (isnt_of peer id from other noted differs))

-- ---- what is noted

module _ (peer : Peer) (id : ℕ) where
  abbrev pub AreOthers : List Entry → Type 0
  AreOthers entries = AllByRecursion (λ entry. is_of peer id entry ≡ false) entries

  others_stay : (now : Moment) (entries : List Entry) → AreOthers (staying now peer id entries)
  others_stay now [] = tt
  others_stay now (entry ∷ entries) = at (is_alive now entry) (is_of peer id entry) refl refl (others_stay now entries)
    where
      at : (lives is : Bool) → is_alive now entry ≡ lives → is_of peer id entry ≡ is → AreOthers (staying now peer id entries) → AreOthers (staying now peer id (entry ∷ entries))
      at false is dead of rest = rw dead rest
      at true true living of rest = rw (living, of) rest
      at true false living of rest = rw (living, of) (of, rest)

  others_filtered : (keeps : Entry → Bool) (entries : List Entry) → AreOthers entries → AreOthers (filter keeps entries)
  others_filtered keeps [] are = tt
  others_filtered keeps (entry ∷ entries) are = at (keeps entry) refl (others_filtered keeps entries are.1)
    where
      at : (b : Bool) → keeps entry ≡ b → AreOthers (filter keeps entries) → AreOthers (filter keeps (entry ∷ entries))
      at false out rest = rw out rest
      at true stays rest = rw stays (are.0, rest)

  others_and : (a b : List Entry) → AreOthers a → AreOthers b → AreOthers (a ++ b)
  others_and [] b are and = and
  others_and (entry ∷ a) b are and = (are.0, others_and a b are.1 and)

  others_without : (n : ℕ) (entries : List Entry) → AreOthers entries → AreOthers (drop n entries)
  others_without zero entries are = are
  others_without (suc n) [] are = tt
  others_without (suc n) (entry ∷ entries) are = others_without n entries are.1

filter_shorter : (keeps : Entry → Bool) (entries : List Entry) → length (filter keeps entries) ≤ length entries
filter_shorter keeps [] = omega arith
filter_shorter keeps (entry ∷ entries) = at (keeps entry) refl (filter_shorter keeps entries)
  where
    at : (b : Bool) → keeps entry ≡ b → length (filter keeps entries) ≤ length entries → length (filter keeps (entry ∷ entries)) ≤ length (entry ∷ entries)
    at false out rest = rw out (omega (arith, rest))
    at true stays rest = rw stays (omega (arith, rest))

filter_append : (keeps : Entry → Bool) (a b : List Entry) → filter keeps (a ++ b) ≡ filter keeps a ++ filter keeps b
filter_append keeps [] b = refl
filter_append keeps (entry ∷ a) b = at (keeps entry) refl (filter_append keeps a b)
  where
    at : (k : Bool) → keeps entry ≡ k → filter keeps (a ++ b) ≡ filter keeps a ++ filter keeps b → filter keeps (entry ∷ a ++ b) ≡ filter keeps (entry ∷ a) ++ filter keeps b
    at false out rest = rw out rest
    at true stays rest = rw stays (ap (λ (l : List Entry). entry ∷ l) rest)

drop_front : (n : ℕ) (a b : List Entry) → n ≤ length a → drop n (a ++ b) ≡ drop n a ++ b
drop_front zero a b few = refl
drop_front (suc n) [] b few = let wrong : ⊥ = omega (arith, few) in absurd wrong
drop_front (suc n) (entry ∷ a) b few = drop_front n a b (omega (arith, few))

module _ (peer : Peer) (id : ℕ) (noted : Remembered) where
  abbrev its : Entry
  its = record { peer = peer; id = id; noted = noted }

  -- its entry is there, with so many younger ones at most, and none of them is of the same message
  pub record HasPlace (most : ℕ) (seen : List Entry) : Type 0 where
    pub older : List Entry
    pub younger : List Entry
    pub is : seen ≡ older ++ its ∷ younger
    pub few : length younger ≤ most
    pub before : AreOthers peer id older
    pub after : AreOthers peer id younger

  first_kept : (keeps : Entry → Bool) (rest : List Entry) → keeps its ≡ true → filter keeps (its ∷ rest) ≡ its ∷ filter keeps rest
  first_kept keeps rest e = rw e refl

  -- it is noted
  pub place_first : (now : Moment) (seen : List Entry) → HasPlace 0 (with_note now peer id noted seen)
  place_first now seen =
      let others = staying now peer id seen in
      record {
        older = drop (length others + 1 - most_entries) others;
        younger = [];
        is = refl;
        few = omega arith;
        before = others_without peer id (length others + 1 - most_entries) others (others_stay peer id now seen);
        after = tt;
      }

  -- another message is noted while it lives
  pub place_kept : PeerLaws → (most : ℕ) (seen : List Entry) (now : Moment) (from : Peer) (other : ℕ) (its_note : Remembered)
      → HasPlace most seen → most + 1 < most_entries → now.ms < noted.until → IsOther peer id from other
      → HasPlace (most + 1) (with_note now from other its_note seen)
  place_kept laws most seen now from other its_note has few lives differs =
      let isnt : is_of from other its ≡ false = isnt_of from other peer id noted (other_way laws peer id from other differs) in
      let other_isnt : is_of peer id (record { peer = from; id = other; noted = its_note }) ≡ false = isnt_of peer id from other its_note differs in
      let keeps : Entry → Bool = λ entry. is_alive now entry && not (is_of from other entry) in
      let older : List Entry = filter keeps has.older in
      let younger : List Entry = filter keeps has.younger in
      let one : Entry = record { peer = from; id = other; noted = its_note } in
      let stays : staying now from other seen ≡ older ++ its ∷ younger =
      ap (filter keeps) has.is ∙ filter_append keeps has.older (its ∷ has.younger)
      ∙ ap (λ (l : List Entry). older ++ l) (first_kept keeps has.younger (rw (lt-ltb now.ms noted.until lives, isnt) refl)) in
      let count : length younger ≤ most = omega (arith, filter_shorter keeps has.younger, has.few) in
      let drops : ℕ = length (staying now from other seen) + 1 - most_entries in
      let lengths : length (staying now from other seen) ≡ length older + suc (length younger) =
      ap (λ (l : List Entry). length l) stays ∙ length-append older (its ∷ younger) in
      let front : drops ≤ length older = omega (arith, lengths, count, few) in
      record {
        older = drop drops older;
        younger = younger ++ one ∷ [];
        is = ap (λ (l : List Entry). drop drops l ++ one ∷ []) stays
            ∙ ap (λ (l : List Entry). l ++ one ∷ []) (drop_front drops older (its ∷ younger) front)
            ∙ append_assoc (drop drops older) (its ∷ younger) (one ∷ []);
        few = omega (arith, length-append younger (one ∷ []), count);
        before = others_without peer id drops older (others_filtered peer id keeps has.older has.before);
        after = others_and peer id younger (one ∷ []) (others_filtered peer id keeps has.younger has.after) (other_isnt, tt);
      }

  -- the dead go while it lives
  pub place_at_tick : (most : ℕ) (seen : List Entry) (now : Moment) → HasPlace most seen → now.ms < noted.until → HasPlace most (alive now seen)
  place_at_tick most seen now has lives = record {
    older = filter (is_alive now) has.older;
    younger = filter (is_alive now) has.younger;
    is = ap (filter (is_alive now)) has.is ∙ filter_append (is_alive now) has.older (its ∷ has.younger)
        ∙ ap (λ (l : List Entry). filter (is_alive now) has.older ++ l) (first_kept (is_alive now) has.younger (lt-ltb now.ms noted.until lives));
    few = omega (arith, filter_shorter (is_alive now) has.younger, has.few);
    before = others_filtered peer id (is_alive now) has.older has.before;
    after = others_filtered peer id (is_alive now) has.younger has.after;
  }

  -- it is found there, while it lives
  pub place_found : PeerLaws → (most : ℕ) (seen : List Entry) (later : Moment) → HasPlace most seen → later.ms < noted.until
      → looked later peer id seen ≡ Some noted
  place_found laws most seen later has lives = ap (looked later peer id) has.is ∙ over has.older has.before
    where
      over : (older : List Entry) → AreOthers peer id older → looked later peer id (older ++ its ∷ has.younger) ≡ Some noted
      over [] are = rw (lt-ltb later.ms noted.until lives, laws.itself peer, same_number id) refl
      over (entry ∷ older) are = at (is_alive later entry) refl (over older are.1)
        where
          at : (b : Bool) → is_alive later entry ≡ b → looked later peer id (older ++ its ∷ has.younger) ≡ Some noted
              → looked later peer id (entry ∷ older ++ its ∷ has.younger) ≡ Some noted
          at false dead rest = rw dead rest
          at true living rest = rw (living, are.0) rest
