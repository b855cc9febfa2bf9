-- A text has one outcome at most.
use Rattle.std.proofs.Common.{◌≡◌, ◌⊎◌, inl, inr, ℕ, List, Option, Some, Result, Ok, Err, refl, sym, ap, ◌∙◌, subst}
use Rattle.std.proofs.lemmas.Option.{same_Some}
use Rattle.osc_model.specs.{HasBegun, IsNotOver}
use Rattle.osc_model.specs.Scope.{Scope}
use Rattle.osc_model.specs.declared.node.Moment.{Moment}
use Rattle.osc_cbor.specs.{DataItem, byte_string, text_string, map, Pairs, value_under, IsWhole}
use Rattle.osc_scope.specs.{Entry, IsScope, scope_of}
use Rattle.osc_token.specs.{Dated, IsClaims, HasMaterial, HasScope, ComesTo}
use Rattle.osc_token.specs.Inner.Reading.{pairs_in, dates_in}
use Rattle.osc_token.specs.declared.claims.Claims.{Claims}
use Rattle.osc_token.specs.declared.claims.InputMaterial.{InputMaterial}
use Rattle.osc_token.specs.declared.error.TokenError.{TokenError}
use Rattle.osc_token.specs.declared.error.TokenError.TheVariants.{BadClaims, NotYet, Expired, Audience, BadScope}
use Rattle.osc_token.specs.declared.judging.Dates.{Dates}
use Rattle.osc_token.proofs.ReadingLemmas.{dates_from, material_from}

abbrev Outcome : Type 0
Outcome = Result (Claims × Scope) TokenError

-- A check that fails and answers its error, or finds something, of which the rest holds.
abbrev Checked : (T : Type 0) → (T → Type 0) → TokenError → (T → Outcome → Type 0) → Outcome → Type 0
Checked T Is error Rest result = (((x : T) → ¬ Is x) × (result ≡ Err error)) ⊎ ((x : T) × Is x × Rest x result)

-- It has one outcome, where it finds one thing at most and the rest has one outcome.
one_checked : (T : Type 0) (Is : T → Type 0) (error : TokenError) (Rest : T → Outcome → Type 0)
    → ((x y : T) → Is x → Is y → x ≡ y) → ((x : T) (a b : Outcome) → Rest x a → Rest x b → a ≡ b)
    → (a b : Outcome) → Checked T Is error Rest a → Checked T Is error Rest b → a ≡ b
one_checked T Is error Rest same one a b (inl f) (inl g) = f.1 ∙ sym g.1
one_checked T Is error Rest same one a b (inl f) (inr g) = absurd (f.0 g.0 g.1)
one_checked T Is error Rest same one a b (inr f) (inl g) = absurd (g.0 f.0 f.1)
one_checked T Is error Rest same one a b (inr f) (inr g) = one f.0 a b f.2 (subst (λ x. Rest x b) (same g.0 f.0 g.1 f.1) g.2)

-- ---- what each check finds

abbrev Scoped : Type 0
Scoped = List ℕ × List Entry

one_read : (text : List ℕ) → ((d e : DataItem) → IsWhole text d → IsWhole text e → d ≡ e)
    → (r s : Dated) → IsClaims text r → IsClaims text s → r ≡ s
one_read text one r s is other =
    let same : map r.claims ≡ map s.claims = one (map r.claims) (map s.claims) is.whole other.whole in
    let found = dates_from r.claims r.not_before r.expires is.not_before is.expires in
    let found_other = dates_from s.claims s.not_before s.expires other.not_before other.expires in
    let dates = same_Some _ _ (sym found ∙ ap dates_in same ∙ found_other) in
    let P : Pairs → Dated = λ x. record { claims = x; not_before = r.not_before; expires = r.expires } in
    let N : Option ℕ → Dated = λ x. record { claims = s.claims; not_before = x; expires = r.expires } in
    let E : Option ℕ → Dated = λ x. record { claims = s.claims; not_before = s.not_before; expires = x } in
    ap P (ap pairs_in same) ∙ ap N (ap (λ (x : Dates). x.not_before) dates) ∙ ap E (ap (λ (x : Dates). x.expires) dates)

one_material : (claims : Pairs) (m n : InputMaterial) → HasMaterial claims m → HasMaterial claims n → m ≡ n
one_material claims m n is other = same_Some _ _ (sym (material_from (map claims) m is) ∙ material_from (map claims) n other)

one_scope : ((bytes : List ℕ) (entries others : List Entry) → IsScope bytes entries → IsScope bytes others → entries ≡ others)
    → (claims : Pairs) (s t : Scoped) → HasScope claims s.0 s.1 → HasScope claims t.0 t.1 → s ≡ t
one_scope one claims s t is other =
    let item : byte_string s.0 ≡ byte_string t.0 = same_Some _ _ (sym is.scope ∙ other.scope) in
    let bytes : s.0 ≡ t.0 = cc in
    let entries = one t.0 s.1 t.1 (subst (λ x. IsScope x s.1) bytes is.is_scope) other.is_scope in
    let B : List ℕ → Scoped = λ x. (x, s.1) in
    let E : List Entry → Scoped = λ x. (t.0, x) in
    ap B bytes ∙ ap E entries

-- ---- the checks, one after another

module _ (text audience : List ℕ) (now : Moment) where
  abbrev Grants : Dated → InputMaterial → Scoped → Outcome → Type 0
  Grants r m s result =
      result ≡ Ok (record { audience = audience; not_before = r.not_before; expires = r.expires; material = m; scope = s.0 }, scope_of s.1)

  abbrev OfScope : Dated → InputMaterial → Outcome → Type 0
  OfScope r m = Checked Scoped (λ s. HasScope r.claims s.0 s.1) BadScope (Grants r m)

  abbrev OfMaterial : Dated → Outcome → Type 0
  OfMaterial r = Checked InputMaterial (HasMaterial r.claims) BadClaims (OfScope r)

  abbrev OfAudience : Dated → Outcome → Type 0
  OfAudience r = Checked (Unit {0}) (λ _. value_under 3 r.claims ≡ Some (text_string audience)) Audience (λ _. OfMaterial r)

  abbrev OfEnd : Dated → Outcome → Type 0
  OfEnd r = Checked (Unit {0}) (λ _. IsNotOver r.expires now) Expired (λ _. OfAudience r)

  abbrev OfBegin : Dated → Outcome → Type 0
  OfBegin r = Checked (Unit {0}) (λ _. HasBegun r.not_before now) NotYet (λ _. OfEnd r)

  abbrev OfText : Outcome → Type 0
  OfText = Checked Dated (IsClaims text) BadClaims OfBegin

  of_text : (result : Outcome) → ComesTo text audience now result → OfText result
  of_text result (ComesTo.unreadable none e) = inl (none, e)
  of_text result (ComesTo.not_yet said is early e) = inr (said, is, inl (λ _. early, e))
  of_text result (ComesTo.expired said is begun late e) =
      inr (said, is, inr (tt, begun, inl (λ _. late, e)))
  of_text result (ComesTo.for_another said is other e) =
      inr (said, is.readable, inr (tt, is.begun, inr (tt, is.not_over, inl (λ _. other, e))))
  of_text result (ComesTo.no_material said is none e) =
      inr (said, is.in_time.readable, inr (tt, is.in_time.begun, inr (tt, is.in_time.not_over, inr (tt, is.addressed, inl (none, e)))))
  of_text result (ComesTo.no_scope said m is none e) =
      inr (
        said,
        is.for_it.in_time.readable,
        inr (
          tt,
          is.for_it.in_time.begun,
          inr (
            tt,
            is.for_it.in_time.not_over,
            inr (tt, is.for_it.addressed, inr (m, is.bound, inl (λ s. none s.0 s.1, e))),
          ),
        ),
      )
  of_text result (ComesTo.granted said m bytes entries is has e) =
      inr (
        said,
        is.for_it.in_time.readable,
        inr (
          tt,
          is.for_it.in_time.begun,
          inr (
            tt,
            is.for_it.in_time.not_over,
            inr (tt, is.for_it.addressed, inr (m, is.bound, inr ((bytes, entries), has, e))),
          ),
        ),
      )

  module _
      (one_item : (d e : DataItem) → IsWhole text d → IsWhole text e → d ≡ e)
      (one_list : (bytes : List ℕ) (entries others : List Entry) → IsScope bytes entries → IsScope bytes others → entries ≡ others) where
    one_of_scope : (r : Dated) (m : InputMaterial) (a b : Outcome) → OfScope r m a → OfScope r m b → a ≡ b
    one_of_scope r m = one_checked Scoped (λ s. HasScope r.claims s.0 s.1) BadScope (Grants r m) (one_scope one_list r.claims) (λ s a b e f. e ∙ sym f)

    one_of_material : (r : Dated) (a b : Outcome) → OfMaterial r a → OfMaterial r b → a ≡ b
    one_of_material r = one_checked InputMaterial (HasMaterial r.claims) BadClaims (OfScope r) (one_material r.claims) (one_of_scope r)

    one_of_audience : (r : Dated) (a b : Outcome) → OfAudience r a → OfAudience r b → a ≡ b
    one_of_audience r = one_checked (Unit {0}) _ Audience (λ _. OfMaterial r) (λ _ _ _ _. refl) (λ _. one_of_material r)

    one_of_end : (r : Dated) (a b : Outcome) → OfEnd r a → OfEnd r b → a ≡ b
    one_of_end r = one_checked (Unit {0}) _ Expired (λ _. OfAudience r) (λ _ _ _ _. refl) (λ _. one_of_audience r)

    one_of_begin : (r : Dated) (a b : Outcome) → OfBegin r a → OfBegin r b → a ≡ b
    one_of_begin r = one_checked (Unit {0}) _ NotYet (λ _. OfEnd r) (λ _ _ _ _. refl) (λ _. one_of_end r)

    pub one_outcome : (a b : Outcome) → ComesTo text audience now a → ComesTo text audience now b → a ≡ b
    one_outcome a b x y =
        one_checked Dated (IsClaims text) BadClaims OfBegin (one_read text one_item) one_of_begin a b (of_text a x) (of_text b y)
