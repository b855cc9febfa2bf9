-- What claims come to, by what was found in their item.
use Rattle.std.proofs.Common.{◌≡◌, ◌≢◌, ◌⊎◌, ◌↔◌, ℕ, List, Option, Some, None, Result, Ok, Err, IfOk, IfSome, IsErr, refl, sym, ap, ◌∙◌, subst}
use Rattle.std.specs.Option.{option_and_then}
use Rattle.osc_model.specs.{HasBegun, IsNotOver}
use Rattle.osc_model.specs.Scope.{Scope}
use Rattle.osc_model.specs.declared.node.Moment.{Moment}
use Rattle.osc_cbor.specs.{DataItem, unsigned, negative, byte_string, text_string, array, map, tag, bool, null, as_bytes, value, IsWhole}
use Rattle.osc_scope.specs.{Entry, IsScope, scope_of}
use Rattle.osc_scope.specs.declared.error.ScopeError.{ScopeError}
use Rattle.osc_scope.specs.declared.error.ScopeError.TheVariants.{Memory}
use Rattle.osc_token.specs.{Dated, IsClaims, AreInTime, AreFor, AreBound, HasScope, ComesTo}
use Rattle.osc_token.specs.Inner.Opening.{answer_of}
use Rattle.osc_token.specs.Inner.Reading.{IsItem, pairs_in, dates_in, material_in}
use Rattle.osc_token.specs.declared.claims.Claims.{Claims}
use Rattle.osc_token.specs.declared.claims.InputMaterial.{InputMaterial}
use Rattle.osc_token.specs.declared.error.TokenError.TheVariants.{BadClaims, NotYet, Expired, Audience, BadScope}
use Rattle.osc_token.specs.declared.judging.Dates.{Dates}
use Rattle.osc_token.proofs.OpeningLemmas.{found_of, only_of, same_some, not_both}
use Rattle.osc_token.proofs.ReadingLemmas.{value_in, dates_are, dates_from, material_is, material_from}

-- ---- the scope

-- no bytes, no scope
pub without_bytes : (d : DataItem) → option_and_then as_bytes (value 9 d) ≡ None → (bytes : List ℕ) (entries : List Entry) → ¬ HasScope (pairs_in d) bytes entries
without_bytes d none bytes entries has =
    not_both _ _ (ap (option_and_then as_bytes) (value_in 9 d ∙ has.scope)) none

module _ {F : Type 0} (d : DataItem) (bytes : List ℕ) (here : option_and_then as_bytes (value 9 d) ≡ Some bytes)
    (read : Result Scope ScopeError) (found : Result (Option Scope) F) (answer : IfOk found (λ scope. scope ≡ answer_of read)) where
  -- what was read of the bytes is the scope ..
  pub scope_of_bytes : (scope : Scope) → found ≡ Ok (Some scope)
      → IfOk read (λ scope. (entries : List Entry) × IsScope bytes entries × (scope ≡ scope_of entries))
      → (entries : List Entry) × HasScope (pairs_in d) bytes entries × (scope ≡ scope_of entries)
  scope_of_bytes scope was reads =
      let is = subst (λ r. IfOk r (λ found. IfSome found (λ scope. (entries : List Entry) × IsScope bytes entries × (scope ≡ scope_of entries)))) was
      (found_of _ read found answer reads) in
      (is.0, record { scope = sym (value_in 9 d) ∙ bytes_are d bytes here; is_scope = is.1 }, is.2)
    where
      bytes_is : (v : DataItem) (b : List ℕ) → as_bytes v ≡ Some b → v ≡ byte_string b
      bytes_is (byte_string a) b e = cc
      bytes_is (unsigned n) b e = cc
      bytes_is (negative n) b e = cc
      bytes_is (text_string a) b e = cc
      bytes_is (array ds) b e = cc
      bytes_is (map ps) b e = cc
      bytes_is (tag n d) b e = cc
      bytes_is (bool x) b e = cc
      bytes_is null b e = cc

      under : (v : Option DataItem) (b : List ℕ) → option_and_then as_bytes v ≡ Some b → v ≡ Some (byte_string b)
      under None b e = cc
      under (Some v) b e = ap Some (bytes_is v b e)

      bytes_are : (d : DataItem) (b : List ℕ) → option_and_then as_bytes (value 9 d) ≡ Some b → value 9 d ≡ Some (byte_string b)
      bytes_are d b e = under (value 9 d) b e

  -- .. and where none was read, they are none
  pub no_scope_bytes : found ≡ Ok None → (IsErr found ↔ (read ≡ Err Memory))
      → ((entries : List Entry) → IsScope bytes entries → (read ≡ Ok (scope_of entries)) ⊎ (read ≡ Err Memory))
      → (others : List ℕ) (entries : List Entry) → ¬ HasScope (pairs_in d) others entries
  no_scope_bytes was memory only others entries has =
      let same : others ≡ bytes = same_some _ _ _ (ap (option_and_then as_bytes) (value_in 9 d ∙ has.scope)) here in
      let is = only_of (scope_of entries) Memory read found answer memory (only entries (subst (λ b. IsScope b entries) same has.is_scope)) in
      not_both _ _ (subst (λ r. IfOk r (λ found. found ≡ Some (scope_of entries))) was is) refl

-- ---- the text

-- where the bytes are no item
pub no_item : (text audience : List ℕ) (now : Moment) → ((d : DataItem) → ¬ IsWhole text d) → ComesTo text audience now (Err BadClaims)
no_item text audience now none = ComesTo.unreadable (λ said r. none (map said.claims) r.whole) refl

module _ (text audience : List ℕ) (now : Moment) (d : DataItem) (is : IsItem text d) where
  -- ---- dates

  pub no_claims : dates_in d ≡ None → ComesTo text audience now (Err BadClaims)
  no_claims none =
      ComesTo.unreadable
      (λ said r. let found = dates_from said.claims said.not_before said.expires r.not_before r.expires in let same = ap dates_in (is.only (map said.claims) r.whole) in cc)
      refl

  module _ (dates : Dates) (found : dates_in d ≡ Some dates) where
    abbrev said : Dated
    said = record { claims = pairs_in d; not_before = dates.not_before; expires = dates.expires }

    pub are_claims : IsClaims text said
    are_claims =
        let are = dates_are d dates found in
        record { whole = subst (λ x. IsWhole text x) are.0 is.whole; not_before = are.1; expires = are.2 }

    pub not_yet : ¬ HasBegun dates.not_before now → ComesTo text audience now (Err NotYet)
    not_yet early = ComesTo.not_yet said are_claims early refl

    module _ (begun : HasBegun dates.not_before now) where
      pub expired : ¬ IsNotOver dates.expires now → ComesTo text audience now (Err Expired)
      expired late = ComesTo.expired said are_claims begun late refl

      module _ (not_over : IsNotOver dates.expires now) where
        in_time : AreInTime text now said
        in_time = record { readable = are_claims; begun = begun; not_over = not_over }

        -- ---- audience, material, scope

        pub for_another : value 3 d ≢ Some (text_string audience) → ComesTo text audience now (Err Audience)
        for_another other = ComesTo.for_another said in_time (λ e. other (value_in 3 d ∙ e)) refl

        module _ (for_it : value 3 d ≡ Some (text_string audience)) where
          are_for : AreFor text audience now said
          are_for = record { in_time = in_time; addressed = sym (value_in 3 d) ∙ for_it }

          pub no_material : material_in d ≡ None → ComesTo text audience now (Err BadClaims)
          no_material none =
              ComesTo.no_material said are_for
              (λ m has. let same = material_from d m has in cc)
              refl

          module _ (m : InputMaterial) (has : material_in d ≡ Some m) where
            are_bound : AreBound text audience now said m
            are_bound = record { for_it = are_for; bound = material_is d m has }

            pub no_scope : ((bytes : List ℕ) (entries : List Entry) → ¬ HasScope (pairs_in d) bytes entries) → ComesTo text audience now (Err BadScope)
            no_scope none = ComesTo.no_scope said m are_bound none refl

            pub granted : (bytes : List ℕ) (entries : List Entry) (claims : Claims) (scope : Scope) → HasScope (pairs_in d) bytes entries
                → claims ≡ record { audience = audience; not_before = dates.not_before; expires = dates.expires; material = m; scope = bytes }
                → scope ≡ scope_of entries → ComesTo text audience now (Ok (claims, scope))
            granted bytes entries claims scope has same are = ComesTo.granted said m bytes entries are_bound has cc
