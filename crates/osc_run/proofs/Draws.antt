-- What a set of nonces has after one was put into it, and what it says of the steps that drew them.
use Rattle.std.proofs.Common.{◌≡◌, ◌<◌, ◌+◌, ℕ, List, ◌∷◌, Bool, true, false, not, Option, Some, ◌⊎◌, ◌↔◌, IsTrue, cond, length, get_or, take, reverse, refl, sym, ap, ◌∙◌, inl, inr, ⊎_elim, subst}
use Rattle.std.specs.Prelude.{nat_eq}
use Rattle.std.specs.Cmp.Lexicographic.{pointwise, bytes_decides}
use Rattle.osc_authz.specs.{In}
use Rattle.osc_run.specs.{Noted, IsDrawn, HasFreshDraws}
use Rattle.osc_run.proofs.Members.{next_first}

same_nonce : (a b : List ℕ) → Some a ≡ Some b → a ≡ b
same_nonce a b e = cc

not_both : (b : Bool) → not b ≡ true → b ≡ true → ⊥
not_both true e h = absurd (cc)
not_both false e h = absurd (cc)

pub never_both : (b : Bool) → b ≡ true → b ≡ false → ⊥
never_both true e f = absurd (cc)
never_both false e f = absurd (cc)

is_absent : (b : Bool) → (b ≡ true → ⊥) → not b ≡ true
is_absent true none = absurd (none refl)
is_absent false none = refl

-- it was added if it wasn't there
pub new_if_absent : (was : List ℕ → Bool) (drawn : Option (List ℕ)) (one : List ℕ) (added : Bool) → drawn ≡ Some one → added ≡ not (was one)
    → IsTrue added ↔ ((nonce : List ℕ) → drawn ≡ Some nonce → ¬ IsTrue (was nonce))
new_if_absent was drawn one added is told = (
  (λ t nonce this. subst (λ (n : List ℕ). ¬ IsTrue (was n)) (same_nonce one nonce (sym is ∙ this)) (not_both (was one) (sym told ∙ t))),
  (λ none. told ∙ is_absent (was one) (none one is)),
)

either_of : (same before : Bool) → cond same true before ≡ true → (same ≡ true) ⊎ (before ≡ true)
either_of true before t = inl refl
either_of false before t = inr t

of_either : (same before : Bool) → (same ≡ true) ⊎ (before ≡ true) → cond same true before ≡ true
of_either true before either = refl
of_either false before either = ⊎_elim (λ (e : false ≡ true). absurd (cc)) (λ (e : before ≡ true). e) either

-- then it has that one and those that it had
pub one_more : (was now : List ℕ → Bool) (drawn : Option (List ℕ)) (one : List ℕ) → drawn ≡ Some one
    → ((q : List ℕ) → now q ≡ cond (pointwise nat_eq one q) true (was q))
    → (nonce : List ℕ) → IsTrue (now nonce) ↔ ((drawn ≡ Some nonce) ⊎ IsTrue (was nonce))
one_more was now drawn one is put nonce =
    let same = bytes_decides one nonce in (
      (λ t. ⊎_elim
          (λ (e : pointwise nat_eq one nonce ≡ true). inl (is ∙ ap Some (same.0 e)))
          (λ (e : was nonce ≡ true). inr e)
          (either_of (pointwise nat_eq one nonce) (was nonce) (sym (put nonce) ∙ t))),
      (λ either. put nonce ∙ of_either (pointwise nat_eq one nonce) (was nonce) (⊎_elim
          (λ (this : drawn ≡ Some nonce). inl (same.1 (same_nonce one nonce (sym is ∙ this))))
          (λ (e : was nonce ≡ true). inr e)
          either)),
    )

-- ---- step by step

drawn_by_newest : (s : Noted) (earlier : List Noted) (nonce : List ℕ) → IsDrawn (s ∷ earlier) nonce → (s.notes.drawn ≡ Some nonce) ⊎ IsDrawn earlier nonce
drawn_by_newest s earlier nonce d =
    ⊎_elim
    (λ (e : d.0 ≡ s). inl (ap (λ (n : Noted). n.notes.drawn) (sym e) ∙ d.2))
    (λ (h : In d.0 earlier). inr (d.0, h, d.2))
    d.1

drawn_by_either : (s : Noted) (earlier : List Noted) (nonce : List ℕ) → (s.notes.drawn ≡ Some nonce) ⊎ IsDrawn earlier nonce → IsDrawn (s ∷ earlier) nonce
drawn_by_either s earlier nonce either =
    ⊎_elim
    (λ (e : s.notes.drawn ≡ Some nonce). (s, inl refl, e))
    (λ (d : IsDrawn earlier nonce). (d.0, inr d.1, d.2))
    either

-- the set has what the steps drew
abbrev pub Holds : (List ℕ → Bool) → List Noted → Type 0
Holds held earlier = (nonce : List ℕ) → IsTrue (held nonce) ↔ IsDrawn earlier nonce

-- with the next one too
pub holds_next : (was now : List ℕ → Bool) (steps : List Noted) (i : ℕ) (s : Noted) → i < length steps → s ≡ get_or steps i s → Holds was (reverse (take i steps))
    → ((nonce : List ℕ) → IsTrue (now nonce) ↔ ((s.notes.drawn ≡ Some nonce) ⊎ IsTrue (was nonce)))
    → Holds now (reverse (take (i + 1) steps))
holds_next was now steps i s lt is held more =
    let earlier = reverse (take i steps) in
    subst (Holds now) (sym (next_first steps i s lt is)) (λ nonce. (
      (λ t. drawn_by_either s earlier nonce (⊎_elim
          (λ (e : s.notes.drawn ≡ Some nonce). inl e)
          (λ (h : IsTrue (was nonce)). inr ((held nonce).0 h))
          ((more nonce).0 t))),
      (λ d. (more nonce).1 (⊎_elim
          (λ (e : s.notes.drawn ≡ Some nonce). inl e)
          (λ (h : IsDrawn earlier nonce). inr ((held nonce).1 h))
          (drawn_by_newest s earlier nonce d))),
    ))

pub fresh_next : (was : List ℕ → Bool) (steps : List Noted) (i : ℕ) (s : Noted) → i < length steps → s ≡ get_or steps i s → Holds was (reverse (take i steps))
    → HasFreshDraws (reverse (take i steps)) → ((nonce : List ℕ) → s.notes.drawn ≡ Some nonce → ¬ IsTrue (was nonce))
    → HasFreshDraws (reverse (take (i + 1) steps))
fresh_next was steps i s lt is held fresh new =
    subst HasFreshDraws (sym (next_first steps i s lt is)) ((λ nonce e d. new nonce e ((held nonce).1 d)), fresh)
