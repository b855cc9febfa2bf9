-- Where one message is noted, what wasn't noted of others still isn't.
use Rattle.std.proofs.Common.{arith, ◌≤◌, ◌≡◌, ◌∙◌, sym, refl, ℕ, zero, suc, Bool, true, false, ◌&&◌, List, [], ◌∷◌, ◌++◌, drop, Some, None, length, ◌+◌, ◌-◌}
use Rattle.std.specs.Prelude.{◌≢◌, filter, not}
use Rattle.std.proofs.lemmas.Bool.{ne_eqb}
use Rattle.osc_model.specs.{same_peer}
use Rattle.osc_model.specs.declared.node.Moment.{Moment}
use Rattle.osc_model.specs.declared.node.Peer.{Peer}
use Rattle.osc_dedup.specs.{Entry, alive, is_alive, is_of, looked, most_entries, staying, with_note}
use Rattle.osc_dedup.specs.declared.table.Remembered.{Remembered}

module _ (later : Moment) (peer : Peer) (id : ℕ) where
  -- none of these that lives is of this message
  abbrev pub Unheard : List Entry → Type 0
  Unheard [] = Unit {0}
  Unheard (entry ∷ entries) = (is_alive later entry ≡ true → is_of peer id entry ≡ false) × Unheard entries

  some_noted : (entry : Entry) → Some entry.noted ≡ None → ⊥
  some_noted entry e = cc

  pub unheard_of : (entries : List Entry) → looked later peer id entries ≡ None → Unheard entries
  unheard_of [] none = tt
  unheard_of (entry ∷ entries) none = at (is_alive later entry) (is_of peer id entry) refl refl (unheard_of entries)
    where
      at : (lives is : Bool) → is_alive later entry ≡ lives → is_of peer id entry ≡ is → (looked later peer id entries ≡ None → Unheard entries) → Unheard (entry ∷ entries)
      at false is dead of rest = ((λ living. let wrong : false ≡ true = sym dead ∙ living in cc), rest (rw dead at none))
      at true true living of rest = let some : Some entry.noted ≡ None = rw (living, of) at none in absurd (some_noted entry some)
      at true false living of rest = ((λ _. of), rest (rw (living, of) at none))

  pub of_unheard : (entries : List Entry) → Unheard entries → looked later peer id entries ≡ None
  of_unheard [] none = refl
  of_unheard (entry ∷ entries) none = at (is_alive later entry) refl (of_unheard entries none.1)
    where
      at : (lives : Bool) → is_alive later entry ≡ lives → looked later peer id entries ≡ None → looked later peer id (entry ∷ entries) ≡ None
      at false dead rest = rw dead rest
      at true living rest = rw (living, none.0 living) rest

  pub unheard_filtered : (keeps : Entry → Bool) (entries : List Entry) → Unheard entries → Unheard (filter keeps entries)
  unheard_filtered keeps [] none = tt
  unheard_filtered keeps (entry ∷ entries) none = at (keeps entry) refl (unheard_filtered keeps entries none.1)
    where
      at : (b : Bool) → keeps entry ≡ b → Unheard (filter keeps entries) → Unheard (filter keeps (entry ∷ entries))
      at false out rest = rw out rest
      at true stays rest = rw stays (none.0, rest)

  unheard_dropped : (n : ℕ) (entries : List Entry) → Unheard entries → Unheard (drop n entries)
  unheard_dropped zero entries none = none
  unheard_dropped (suc n) [] none = tt
  unheard_dropped (suc n) (entry ∷ entries) none = unheard_dropped n entries none.1

  unheard_and : (entries : List Entry) (one : Entry) → Unheard entries → is_of peer id one ≡ false → Unheard (entries ++ one ∷ [])
  unheard_and [] one none other = ((λ _. other), tt)
  unheard_and (entry ∷ entries) one none other = (none.0, unheard_and entries one none.1 other)

and_false : (b : Bool) → (b && false) ≡ false
and_false true = refl
and_false false = refl

pub still_unheard : (now later : Moment) (peer from : Peer) (id other : ℕ) (noted : Remembered) (seen : List Entry) → other ≢ id
    → looked later peer other seen ≡ None → looked later peer other (with_note now from id noted seen) ≡ None
still_unheard now later peer from id other noted seen isnt none =
    let others = staying now from id seen in
    let one : Entry = record { peer = from; id = id; noted = noted } in
    let differs : is_of peer other one ≡ false = rw (ne_eqb other id isnt) (and_false (same_peer peer from)) in
    of_unheard later peer other (with_note now from id noted seen)
    (unheard_and later peer other (drop (length others + 1 - most_entries) others) one
    (unheard_dropped later peer other (length others + 1 - most_entries) others
    (unheard_filtered later peer other (λ entry. is_alive now entry && not (is_of from id entry)) seen (unheard_of later peer other seen none)))
    differs)

-- a tick lets notes go, and adds none
pub unheard_at_tick : (now later : Moment) (peer : Peer) (id : ℕ) (seen : List Entry) → looked later peer id seen ≡ None → looked later peer id (alive now seen) ≡ None
unheard_at_tick now later peer id seen none =
    of_unheard later peer id (alive now seen) (unheard_filtered later peer id (is_alive now) seen (unheard_of later peer id seen none))

-- what isn't noted at a moment isn't later
pub unheard_later : (now later : Moment) (peer : Peer) (id : ℕ) (seen : List Entry) → now.ms ≤ later.ms → looked now peer id seen ≡ None → looked later peer id seen ≡ None
unheard_later now later peer id seen after none = of_unheard later peer id seen (over seen (unheard_of now peer id seen none))
  where
    lives_before : (entry : Entry) → is_alive later entry ≡ true → is_alive now entry ≡ true
    lives_before entry lives = grind (arith, lives, after)

    over : (entries : List Entry) → Unheard now peer id entries → Unheard later peer id entries
    over [] none = tt
    over (entry ∷ entries) none = ((λ lives. none.0 (lives_before entry lives)), over entries none.1)
