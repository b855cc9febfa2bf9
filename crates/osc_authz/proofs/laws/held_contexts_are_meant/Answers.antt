use Rattle.std.proofs.Common.{◌≡◌, ◌∙◌, sym, ap, refl, inl, inr, ℕ, Bool, true, false, List, [], ◌∷◌, Option, Some, None}
use Rattle.std.specs.Prelude.{bytes_eq, find}
use Rattle.std.proofs.lemmas.Slice.Eq.{bytes_eq-Decides}
use Rattle.osc_authz.specs.SecurityContext.{SecurityContext}
use Rattle.osc_authz.specs.{In, contexts, has_id, is_live, is_named, if_meant, with_id}
use Rattle.osc_authz.proofs.laws.held_contexts_are_meant.Goals as goal

same_bytes : (bytes : List ℕ) → bytes_eq bytes bytes ≡ true
same_bytes bytes = (bytes_eq-Decides bytes bytes).1 refl

both_ways : (b : Bool) → b ≡ true → b ≡ false → ⊥
both_ways b is isnt = cc

abbrev IsOnly : SecurityContext → List SecurityContext → Type 0
IsOnly held all = (other : SecurityContext) → In other all → held.name.client_id ≡ other.name.client_id → held ≡ other

found : (held : SecurityContext) (all : List SecurityContext) → In held all → IsOnly held all → find (has_id held.name.client_id) all ≡ Some held
found held [] here only = absurd here
found held (first ∷ all) here only = by (has_id held.name.client_id first) refl (λ h. found held all h (λ other m. only other (inr m)))
  where
    by : (b : Bool) → has_id held.name.client_id first ≡ b → (In held all → find (has_id held.name.client_id) all ≡ Some held)
        → find (has_id held.name.client_id) (first ∷ all) ≡ Some held
    by true is later =
        let same : held ≡ first = only first (inl refl) ((bytes_eq-Decides held.name.client_id first.name.client_id).0 is) in
        rw is (ap (λ (h : SecurityContext). Some h) (sym same))
    by false is later = rw is (later (elsewhere here))
      where
        elsewhere : In held (first ∷ all) → In held all
        elsewhere (inl same) =
            absurd (both_ways (has_id held.name.client_id first) (ap (λ (h : SecurityContext). bytes_eq held.name.client_id h.name.client_id) (sym same) ∙ same_bytes held.name.client_id) is)
        elsewhere (inr later) = later

named_own : (context : Option (List ℕ)) (held : SecurityContext) → held.name.id_context ≡ context → is_named context held ≡ true
named_own None held is = refl
named_own (Some bytes) held is = rw is (same_bytes bytes)

means : (now : _) (held : SecurityContext) (it : Option SecurityContext) → it ≡ Some held → is_live now held ≡ true → if_meant now held.name.id_context it ≡ Some held
means now held it is live = rw (is, live, named_own held.name.id_context held refl) refl

pub returns : goal.returns
returns c = λ now table held is_table here live.
    means now held (with_id held.name.client_id table)
    (found held (contexts table) here (λ other m same. c.one_context.ensures.held table held other is_table here m same))
    ((c.live_in_its_time.ensures held now).1 (live.begun, live.not_over, live.unrevoked, live.young))
