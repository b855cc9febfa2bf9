-- What was noted is found while it lives, and still where the dead go.
use Rattle.std.proofs.Common.{◌≡◌, ◌∙◌, sym, ap, ℕ, zero, suc, ◌+◌, ◌-◌, ◌<◌, Bool, true, false, refl, List, [], ◌∷◌, ◌++◌, drop, length, Some, arith}
use Rattle.std.specs.List.{AllByRecursion}
use Rattle.std.proofs.lemmas.Bool.{lt-ltb}
use Rattle.osc_model.specs.declared.node.Moment.{Moment}
use Rattle.osc_model.specs.declared.node.Peer.{Peer}
use Rattle.osc_dedup.specs.{Entry, alive, is_alive, is_of, looked, most_entries, staying, with_note}
use Rattle.osc_dedup.specs.declared.table.Remembered.{Remembered}
use Rattle.osc_dedup.proofs.History.{of_itself}

module _ (peer : Peer) (id : ℕ) where
  abbrev AreOthers : List Entry → Type 0
  AreOthers entries = AllByRecursion (λ entry. is_of peer id entry ≡ false) entries

  others_stay : (now : Moment) (entries : List Entry) → AreOthers (staying now peer id entries)
  others_stay now [] = tt
  others_stay now (entry ∷ entries) = at (is_alive now entry) (is_of peer id entry) refl refl (others_stay now entries)
    where
      at : (lives is : Bool) → is_alive now entry ≡ lives → is_of peer id entry ≡ is → AreOthers (staying now peer id entries) → AreOthers (staying now peer id (entry ∷ entries))
      at false is dead of rest = rw dead rest
      at true true living of rest = rw (living, of) rest
      at true false living of rest = rw (living, of) (of, rest)

  others_dropped : (n : ℕ) (entries : List Entry) → AreOthers entries → AreOthers (drop n entries)
  others_dropped zero entries are = are
  others_dropped (suc n) [] are = tt
  others_dropped (suc n) (entry ∷ entries) are = others_dropped n entries are.1

  last_found : (later : Moment) (entries : List Entry) (one : Entry) → AreOthers entries → is_of peer id one ≡ true → is_alive later one ≡ true
      → looked later peer id (entries ++ one ∷ []) ≡ Some one.noted
  last_found later [] one are is lives = rw (lives, is) refl
  last_found later (entry ∷ entries) one are is lives = at (is_alive later entry) refl (last_found later entries one are.1 is lives)
    where
      at : (alive_is : Bool) → is_alive later entry ≡ alive_is → looked later peer id (entries ++ one ∷ []) ≡ Some one.noted
          → looked later peer id (entry ∷ entries ++ one ∷ []) ≡ Some one.noted
      at false dead rest = rw dead rest
      at true living rest = rw (living, are.0) rest

  -- what is noted is found while it lives
  pub noted_found : (now later : Moment) (noted : Remembered) (entries : List Entry) → later.ms < noted.until
      → looked later peer id (with_note now peer id noted entries) ≡ Some noted
  noted_found now later noted entries lives =
      let others = staying now peer id entries in
      let one : Entry = record { peer = peer; id = id; noted = noted } in
      last_found later (drop (length others + 1 - most_entries) others) one
      (others_dropped (length others + 1 - most_entries) others (others_stay now entries)) (of_itself one) (lt-ltb later.ms noted.until lives)

  -- and still where the dead go, unless it is one of them
  pub found_alive : (now later : Moment) (noted : Remembered) (entries : List Entry) → now.ms < noted.until → looked later peer id entries ≡ Some noted
      → looked later peer id (alive now entries) ≡ Some noted
  found_alive now later noted [] lives found = found
  found_alive now later noted (entry ∷ entries) lives found =
      at (is_alive now entry) (is_alive later entry) (is_of peer id entry) refl refl refl (found_alive now later noted entries lives)
    where
      some : (a b : Remembered) → Some a ≡ Some b → a ≡ b
      some a b e = cc

      at : (lives_now lives_later is : Bool) → is_alive now entry ≡ lives_now → is_alive later entry ≡ lives_later → is_of peer id entry ≡ is
          → (looked later peer id entries ≡ Some noted → looked later peer id (alive now entries) ≡ Some noted)
          → looked later peer id (alive now (entry ∷ entries)) ≡ Some noted
      at false false is dead later_dead of rest = rw dead (rest (rw later_dead at found))
      at false true false dead living of rest = rw dead (rest (rw (living, of) at found))
      at false true true dead living of rest =
          let its : Some entry.noted ≡ Some noted = rw (living, of) at found in
          let until : now.ms < entry.noted.until = omega (arith, lives, ap (λ (n : Remembered). n.until) (some entry.noted noted its)) in
          let wrong : true ≡ false = sym (lt-ltb now.ms entry.noted.until until) ∙ dead in cc
      at true false is living later_dead of rest = rw (living, later_dead) (rest (rw later_dead at found))
      at true true false living lives_later of rest = rw (living, lives_later, of) (rest (rw (lives_later, of) at found))
      at true true true living lives_later of rest = rw (living, lives_later, of) (rw (lives_later, of) at found)
