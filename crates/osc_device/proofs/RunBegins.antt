-- A run begins with a device, whoever else holds tokens of its server.
use Rattle.std.proofs.Common.{◌≡◌, ◌⊎◌, ◌∙◌, ap, sym, subst, refl, ℕ, zero, suc, List, [], ◌∷◌, ◌++◌, length, Some, inl, inr, ⊎_elim, arith}
use Rattle.std.specs.Prelude.{slice_get}
use Rattle.std.proofs.lemmas.Option.{same_Some}
use Rattle.osc_authz.specs.{of_tokens, In}
use Rattle.osc_client.specs.{core as client_core, outstanding}
use Rattle.osc_client.specs.State.{State as Client}
use Rattle.osc_model.specs.Grant.{Grant}
use Rattle.osc_ccm.specs.{Sealings}
use Rattle.osc_cbor.specs.{spelling}
use Rattle.osc_run.specs.{IsNewClient, IsReached, IsStart, IsTextOf, ClientState, Minted}
use Rattle.osc_scope.specs.{Entry, IsScope, scope_of}
use Rattle.osc_server.specs.State.{State as Server}
use Rattle.osc_token.specs.{FitTheirTypes, HasLawfulParts, claims_item}
use Rattle.osc_token.specs.declared.claims.Claims.{Claims}
use Rattle.osc_world.specs.{Beginning, minted_of}
use Rattle.osc_device.specs.{IsBegun, own_claims, AreOthers, IsIn, first_run}
use Rattle.osc_device.specs.State.{State}
use Rattle.osc_device.specs.declared.own_token.OwnToken.{OwnToken}
use Rattle.osc_device.specs.declared.own_token.ServerParts.{ServerParts}

-- ---- one more at the end of a list

in_front : {A : Type 0} (x : A) (xs ys : List A) → In x xs → In x (xs ++ ys)
in_front x [] ys m = absurd m
in_front x (z ∷ xs) ys (inl e) = inl e
in_front x (z ∷ xs) ys (inr m) = inr (in_front x xs ys m)

in_back : {A : Type 0} (x : A) (xs ys : List A) → In x ys → In x (xs ++ ys)
in_back x [] ys m = m
in_back x (z ∷ xs) ys m = inr (in_back x xs ys m)

in_either : {A : Type 0} (x : A) (xs ys : List A) → In x (xs ++ ys) → In x xs ⊎ In x ys
in_either x [] ys m = inr m
in_either x (z ∷ xs) ys (inl e) = inl (inl e)
in_either x (z ∷ xs) ys (inr m) = ⊎_elim (λ (h : In x xs). inl (inr h)) (λ (h : In x ys). inr h) (in_either x xs ys m)

last_of : {A : Type 0} (xs : List A) (x : A) → slice_get (xs ++ x ∷ []) (length xs) ≡ Some x
last_of [] x = refl
last_of (y ∷ xs) x = last_of xs x

at_end : {A : Type 0} (xs : List A) (x y : A) (n : ℕ) → slice_get (xs ++ x ∷ []) n ≡ Some y → (slice_get xs n ≡ Some y) ⊎ ((n ≡ length xs) × (y ≡ x))
at_end [] x y zero e = inr (refl, sym (same_Some _ _ e))
at_end [] x y (suc n) e = absurd (cc)
at_end (z ∷ xs) x y zero e = inl e
at_end (z ∷ xs) x y (suc n) e =
    ⊎_elim (λ (h : slice_get xs n ≡ Some y). inl h) (λ (h : (n ≡ length xs) × (y ≡ x)). inr (ap suc h.0, h.1)) (at_end xs x y n e)

-- ---- the run

fit : (claims : Claims) → HasLawfulParts claims → FitTheirTypes claims
fit claims lawful = record {
  audience = lawful.audience;
  not_before = lawful.not_before;
  expires = lawful.expires;
  id = omega (arith, lawful.id);
  secret = omega (arith, lawful.secret.1);
  salt = omega (arith, lawful.salt);
  id_context = λ bytes is. omega (arith, lawful.id_context bytes is);
  scope = lawful.scope;
}

module _ (is_sealing : Sealings)
    (texts_law : (claims : Claims) (entries : List Entry) (grant : Grant) → FitTheirTypes claims → IsScope claims.scope entries
    → grant.id ≡ claims.material.id → grant.secret ≡ claims.material.secret → grant.scope ≡ scope_of entries → grant.not_before ≡ claims.not_before → grant.expires ≡ claims.expires
    → IsTextOf grant (spelling (claims_item claims)))
    (parts : ServerParts) (own : OwnToken) (device : State) (is : IsBegun is_sealing parts own device) (lawful : HasLawfulParts (own_claims parts own))
    (others : List Minted) (clients : List ClientState) (are : AreOthers others clients) where
  abbrev entries : List Entry
  entries = is.enrols.enrolled.entries

  abbrev one : Minted
  one = minted_of (length clients) (own_claims parts own) entries

  texts : (m : Minted) → In m (others ++ one ∷ []) → IsTextOf m.grant m.text
  texts m there =
      ⊎_elim (λ (h : In m others). are.texts m h)
      (λ (h : In m (one ∷ [])). ⊎_elim
      (λ (e : m ≡ one). subst (λ (n : Minted). IsTextOf n.grant n.text) (sym e)
      (texts_law (own_claims parts own) entries one.grant (fit (own_claims parts own) lawful) is.enrols.enrolled.scope refl refl refl refl refl))
      (λ (e : ⊥). absurd e) h)
      (in_either m others (one ∷ []) there)

  new : IsNewClient (others ++ one ∷ []) (length clients) (client_core device.own)
  new =
      let placed = is.enrols.enrolled.client in
      subst (λ (c : Client). IsNewClient (others ++ one ∷ []) (length clients) (client_core c)) (sym is.own_is) (record {
        holds = record { held = one; granted = in_back one others (one ∷ []) (inl refl); holder = refl; secret = sym placed.desk.secret };
        context = placed.context;
        outstanding = ap (outstanding is.enrols.placed.node.context) placed.waiting;
      })

  more : (number : ℕ) (client : ClientState) → IsNewClient others number client → IsNewClient (others ++ one ∷ []) number client
  more number client before = record {
    holds = record {
      held = before.holds.held;
      granted = in_front before.holds.held others (one ∷ []) before.holds.granted;
      holder = before.holds.holder;
      secret = before.holds.secret;
    };
    context = before.context;
    outstanding = before.outstanding;
  }

  holders : (number : ℕ) (client : ClientState) → slice_get (clients ++ client_core device.own ∷ []) number ≡ Some client → IsNewClient (others ++ one ∷ []) number client
  holders number client there =
      ⊎_elim
      (λ (h : slice_get clients number ≡ Some client). more number client (are.holders number client h))
      (λ (h : (number ≡ length clients) × (client ≡ client_core device.own)).
      subst (λ (n : ℕ). IsNewClient (others ++ one ∷ []) n client) (sym h.0) (subst (IsNewClient (others ++ one ∷ []) (length clients)) (sym h.1) new))
      (at_end clients (client_core device.own) client number there)

  start : IsStart (first_run others clients one parts.tree device)
  start = record {
    texts = texts;
    tree = ap (λ (s : Server). s.tree) is.server ∙ ap (λ (s : Beginning). s.first) is.enrols.is;
    contexts = ap (λ (s : Server). of_tokens s.desk.table) is.server;
    clients = holders;
    notes = refl;
  }

  pub begins : IsReached (first_run others clients one parts.tree device) × IsIn (length clients) device (first_run others clients one parts.tree device)
  begins = (([], start), record { server = refl; own = last_of clients (client_core device.own) })
