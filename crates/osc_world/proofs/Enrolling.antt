-- Clients that are enrolled.
use Rattle.std.proofs.Common.{◌≡◌, ◌⊎◌, ℕ, zero, suc, List, [], ◌∷◌, ◌++◌, length, map, refl, ap, sym, ◌∙◌, subst, Option, Some, None, inl, inr, ⊎_elim}
use Rattle.std.specs.Prelude.{slice_get, option_map}
use Rattle.std.proofs.lemmas.Option.{slice_get-map, same_Some}
use Rattle.osc_authz.specs.{In, of_tokens}
use Rattle.osc_model.specs.Scope.{Scope}
use Rattle.osc_model.specs.Tree.{Tree}
use Rattle.osc_model.specs.declared.node.Peer.{Peer}
use Rattle.osc_ccm.specs.{Sealings}
use Rattle.osc_run.specs.{Holds, IsNewClient, IsStart, IsTextOf, ClientState, Minted}
use Rattle.osc_client.specs.{core, outstanding}
use Rattle.osc_client.specs.State.{State as Client}
use Rattle.osc_proxy.specs.State.{State as Proxy}
use Rattle.osc_authz.specs.declared.rules.ContextRules.{ContextRules}
use Rattle.osc_world.specs.{NodeStates, AreEnrolled, Beginning, Enrols, IsEnrolled, run_with}
use Rattle.osc_world.specs.declared.nodes.Placed.{Placed}
use Rattle.osc_world.specs.declared.start.NewHolder.{NewHolder}

-- ---- one more at the end of a list

in_front : {A : Type 0} (x : A) (xs ys : List A) → In x xs → In x (xs ++ ys)
in_front x [] ys m = absurd m
in_front x (z ∷ xs) ys (inl e) = inl e
in_front x (z ∷ xs) ys (inr m) = inr (in_front x xs ys m)

in_back : {A : Type 0} (x : A) (xs ys : List A) → In x ys → In x (xs ++ ys)
in_back x [] ys m = m
in_back x (z ∷ xs) ys m = inr (in_back x xs ys m)

in_either : {A : Type 0} (x : A) (xs ys : List A) → In x (xs ++ ys) → In x xs ⊎ In x ys
in_either x [] ys m = inr m
in_either x (z ∷ xs) ys (inl e) = inl (inl e)
in_either x (z ∷ xs) ys (inr m) = ⊎_elim (λ (h : In x xs). inl (inr h)) (λ (h : In x ys). inr h) (in_either x xs ys m)

at_end : {A : Type 0} (xs : List A) (x y : A) (n : ℕ) → slice_get (xs ++ x ∷ []) n ≡ Some y → (slice_get xs n ≡ Some y) ⊎ ((n ≡ length xs) × (y ≡ x))
at_end [] x y zero e = inr (refl, sym (same_Some _ _ e))
at_end [] x y (suc n) e = absurd (cc)
at_end (z ∷ xs) x y zero e = inl e
at_end (z ∷ xs) x y (suc n) e =
    ⊎_elim (λ (h : slice_get xs n ≡ Some y). inl h) (λ (h : (n ≡ length xs) × (y ≡ x)). inr (ap suc h.0, h.1)) (at_end xs x y n e)

-- ---- clients

pub none_enrolled : AreEnrolled [] []
none_enrolled = record { texts = λ m there. absurd there; holders = λ number placed there. absurd (cc) }

holds_more : (minted : List Minted) (one : Minted) (number : ℕ) (secret : List ℕ) → Holds minted number secret → Holds (minted ++ one ∷ []) number secret
holds_more minted one number secret h =
    record { held = h.held; granted = in_front h.held minted (one ∷ []) h.granted; holder = h.holder; secret = h.secret }

pub enrolled_more : (is_sealing : Sealings) (key : List ℕ) (holder : NewHolder) (minted : List Minted) (clients : List (Placed Client)) (one : Minted) (placed : Placed Client)
    → AreEnrolled minted clients → IsEnrolled is_sealing key (length clients) holder one placed → IsTextOf one.grant one.text
    → AreEnrolled (minted ++ one ∷ []) (clients ++ placed ∷ [])
enrolled_more is_sealing key holder minted clients one placed old is text = record { texts = texts; holders = holders }
  where
    texts : (m : Minted) → In m (minted ++ one ∷ []) → IsTextOf m.grant m.text
    texts m there =
        ⊎_elim (λ (h : In m minted). old.texts m h)
        (λ (h : In m (one ∷ [])). ⊎_elim (λ (e : m ≡ one). subst (λ n. IsTextOf n.grant n.text) (sym e) text) (λ (e : ⊥). absurd e) h)
        (in_either m minted (one ∷ []) there)

    new : IsNewClient (minted ++ one ∷ []) (length clients) (core placed.node)
    new = record {
      holds = record {
        held = one;
        granted = in_back one minted (one ∷ []) (inl refl);
        holder = ap (λ m. m.grant.holder) is.granted;
        secret = ap (λ m. m.grant.secret) is.granted ∙ sym is.client.desk.secret;
      };
      context = is.client.context;
      outstanding = ap (outstanding placed.node.context) is.client.waiting;
    }

    holders : (number : ℕ) (p : Placed Client) → slice_get (clients ++ placed ∷ []) number ≡ Some p → IsNewClient (minted ++ one ∷ []) number (core p.node)
    holders number p there =
        ⊎_elim
        (λ (h : slice_get clients number ≡ Some p).
        let before = old.holders number p h in
        record { holds = holds_more minted one number p.node.desk.secret before.holds; context = before.context; outstanding = before.outstanding })
        (λ (h : (number ≡ length clients) × (p ≡ placed)).
        subst (λ n. IsNewClient (minted ++ one ∷ []) n (core p.node)) (sym h.0)
        (subst (λ q. IsNewClient (minted ++ one ∷ []) (length clients) (core q.node)) (sym h.1) new))
        (at_end clients placed p number there)

pub enrols : (is_sealing : Sealings) (self : Beginning) (first : Tree) (open_scope : Scope) (key : List ℕ) (old_key : Option (List ℕ)) (audience : List ℕ) (rules : ContextRules) (server_at : Peer)
    (minted minted' : List Minted) (clients clients' : List (Placed Client)) (proxies : List (Placed Proxy)) (holder : NewHolder) (one : Minted) (placed : Placed Client)
    → record { first = first; open_scope = open_scope; key = key; old_key = old_key; audience = audience; rules = rules; server_at = server_at; minted = minted; clients = clients; proxies = proxies } ≡ self
    → IsEnrolled is_sealing key (length clients) holder one placed
    → minted' ≡ minted ++ one ∷ [] → clients' ≡ clients ++ placed ∷ []
    → Enrols is_sealing self holder
    (record { first = first; open_scope = open_scope; key = key; old_key = old_key; audience = audience; rules = rules; server_at = server_at; minted = minted'; clients = clients'; proxies = proxies })
enrols is_sealing self first open_scope key old_key audience rules server_at minted minted' clients clients' proxies holder one placed is enrolled more_minted more_clients =
    subst
    (λ s. Enrols is_sealing s holder
    (record { first = first; open_scope = open_scope; key = key; old_key = old_key; audience = audience; rules = rules; server_at = server_at; minted = minted'; clients = clients'; proxies = proxies }))
    is
    (record {
      minted = one;
      placed = placed;
      enrolled = enrolled;
      is = λ j. record { first = first; open_scope = open_scope; key = key; old_key = old_key; audience = audience; rules = rules; server_at = server_at; minted = more_minted j; clients = more_clients j; proxies = proxies };
    })

-- ---- the start

abbrev core_of : Placed Client → ClientState
core_of placed = core placed.node

of_map : (o : Option (Placed Client)) (client : ClientState) → option_map core_of o ≡ Some client → (placed : Placed Client) × (o ≡ Some placed) × (core_of placed ≡ client)
of_map None client e = absurd (cc)
of_map (Some placed) client e = (placed, refl, same_Some _ _ e)

pub is_start : (minted : List Minted) (first : Tree) (clients : List (Placed Client)) (nodes : NodeStates)
    → AreEnrolled minted clients → nodes.clients ≡ clients → nodes.server.tree ≡ first → nodes.server.desk.table ≡ []
    → IsStart (run_with minted first nodes [])
is_start minted first clients nodes enrolled same tree table = record {
  texts = enrolled.texts;
  tree = tree;
  contexts = ap of_tokens table;
  clients = each;
  notes = refl;
}
  where
    each : (by : ℕ) (client : ClientState) → slice_get (map core_of nodes.clients) by ≡ Some client → IsNewClient minted by client
    each by client there =
        let found = of_map (slice_get nodes.clients by) client (sym (slice_get-map core_of nodes.clients by) ∙ there) in
        subst (λ c. IsNewClient minted by c) found.2 (enrolled.holders by found.0 (ap (λ cs. slice_get cs by) (sym same) ∙ found.1))
