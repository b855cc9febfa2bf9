-- A token is opened with the key of a desk, or else with its old one.
use Rattle.std.proofs.Common.{◌≡◌, ℕ, List, Option, Some, None, Result, Ok, Err, IfOk, sym, subst, ◌∙◌, inl, inr}
use Rattle.std.specs.Prelude.{IfSome}
use Rattle.osc_model.specs.declared.step.Note.{Note}
use Rattle.osc_token.specs.{IsToken, token_note}
use Rattle.osc_authz.specs.{DeskState, IsKeyFor, IsKeyOf, Opens, OpenedToken}

one_note : (a b : Note) → Some a ≡ Some b → a ≡ b
one_note a b e = cc

one_some : (a b : List ℕ) → Some a ≡ Some b → a ≡ b
one_some a b e = cc

found_none : (found : Option Note) (note : Note) → found ≡ Some note → found ≡ None → ⊥
found_none found note here none = cc

module _ (IsSealing : List ℕ → List ℕ → List ℕ → List ℕ → List ℕ → Type 0) (token : List ℕ) where
  -- the note of what a key opens
  abbrev pub IsNoteOf : List ℕ → Note → Type 0
  IsNoteOf key note = (protected iv text : List ℕ) × IsToken IsSealing key token protected iv text × (note ≡ token_note key protected iv text)

  -- the same of some key of which this holds
  abbrev pub IsNoteBy : (List ℕ → Type 0) → Note → Type 0
  IsNoteBy Q note =
      (key : List ℕ) × (its : OpenedToken) × IsToken IsSealing key token its.protected its.iv its.text
      × Q key × (note ≡ token_note key its.protected its.iv its.text)

  pub noted_by : (Q : List ℕ → Type 0) (key : List ℕ) → Q key → (note other : Note) → IsNoteOf key note → Some note ≡ Some other → IsNoteBy Q other
  noted_by Q key q note other o e =
      subst (IsNoteBy Q) (one_note note other e) (key, record { protected = o.0; iv = o.1; text = o.2 }, o.3, q, o.4)

  pub all_noted : {E : Type 0} (Q : List ℕ → Type 0) (key : List ℕ) → Q key → (r : Result (Option Note) E) → IfOk r (λ found. IfSome found (IsNoteOf key))
      → IfOk r (λ found. (note : Note) → found ≡ Some note → IsNoteBy Q note)
  all_noted Q key q (Ok (Some n)) o = λ note e. noted_by Q key q n note o e
  all_noted Q key q (Ok None) o = λ note e. absurd (cc)
  all_noted Q key q (Err e) o = tt

  -- what doesn't open under a key
  pub unopened : (key : List ℕ) (found : Option Note) → ((protected iv text : List ℕ) → IsToken IsSealing key token protected iv text → found ≡ Some (token_note key protected iv text))
      → found ≡ None → ¬ Opens IsSealing key token
  unopened key found only none = λ its. found_none found (token_note key its.0.protected its.0.iv its.0.text) (only its.0.protected its.0.iv its.0.text its.1) none

  pub none_of : {E : Type 0} (own : Option (List ℕ)) (key : List ℕ) → Some key ≡ own → (r : Result (Option Note) E)
      → ((protected iv text : List ℕ) → IsToken IsSealing key token protected iv text → IfOk r (λ found. found ≡ Some (token_note key protected iv text)))
      → IfOk r (λ found. found ≡ None → (other : List ℕ) → own ≡ Some other → ¬ Opens IsSealing other token)
  none_of own key is (Ok found) only = λ none other e.
      subst (λ (k : List ℕ). ¬ Opens IsSealing k token) (one_some key other (is ∙ e)) (unopened key found only none)
  none_of own key is (Err e) only = tt

  module _ (desk : DeskState) (shut : ¬ Opens IsSealing desk.key token) where
    pub old_noted : {E : Type 0} (r : Result (Option Note) E)
        → IfOk r (λ found. (note : Note) → found ≡ Some note → IsNoteBy (λ key. desk.old_key ≡ Some key) note)
        → IfOk r (λ found. (note : Note) → found ≡ Some note → IsNoteBy (IsKeyFor IsSealing desk token) note)
    old_noted (Ok found) o = λ note e. let its = o note e in (its.0, its.1, its.2, inr (its.3, shut), its.4)
    old_noted (Err e) o = tt

    pub none_opens : {E : Type 0} (r : Result (Option Note) E)
        → IfOk r (λ found. found ≡ None → (key : List ℕ) → desk.old_key ≡ Some key → ¬ Opens IsSealing key token)
        → IfOk r (λ found. found ≡ None → (key : List ℕ) → IsKeyOf desk key → ¬ Opens IsSealing key token)
    none_opens (Ok found) never = λ none key. by found none never key
      where
        by : (found : Option Note) → found ≡ None → (found ≡ None → (key : List ℕ) → desk.old_key ≡ Some key → ¬ Opens IsSealing key token)
            → (key : List ℕ) → IsKeyOf desk key → ¬ Opens IsSealing key token
        by found none never key (inl own) = subst (λ (k : List ℕ). ¬ Opens IsSealing k token) (sym own) shut
        by found none never key (inr old) = never none key old
    none_opens (Err e) never = tt
