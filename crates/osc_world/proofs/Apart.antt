-- Nodes that are apart: each is found where it is, and steps move none.
use Rattle.std.proofs.Common.{◌≡◌, ◌∙◌, sym, ap, subst, refl, ℕ, zero, suc, Bool, true, false, ◌||◌, List, [], ◌∷◌, ◌++◌, length, map, Option, Some, None, arith}
use Rattle.std.specs.Prelude.{slice_get, slice_set}
use Rattle.std.specs.List.{AllByRecursion, IsDistinct, list_any, position_or_len}
use Rattle.std.proofs.lemmas.Bool.{le-ltb, lt-ltb}
use Rattle.std.proofs.lemmas.List.Folds.{list_any-append}
use Rattle.std.proofs.lemmas.Option.{same_Some, slice_get_within}
use Rattle.osc_model.specs.declared.node.Peer.{Peer}
use Rattle.osc_model.specs.{same_peer}
use Rattle.osc_ccm.specs.{Sealings, Tags}
use Rattle.osc_model.specs.declared.step.Step.{Step}
use Rattle.osc_client.specs.{skipped_to}
use Rattle.osc_client.specs.State.{State as Client}
use Rattle.osc_model.specs.StepNotes.{StepNotes}
use Rattle.osc_run.specs.{Noted}
use Rattle.osc_proxy.specs.State.{State as Proxy}
use Rattle.osc_world.specs.{Deed, Nothing, OfServer, OfClient, OfProxy, NodeStates, StandApart, is_among, node_at, number_at, places, skipped, skipped_at, NodeTakes, Takes, a_node, no_node}
use Rattle.osc_world.specs.declared.nodes.Placed.{Placed}
use Rattle.osc_world.specs.declared.nodes.StepTaken.{StepTaken}
use Rattle.osc_world.specs.declared.nodes.Whose.TheVariants as whose

abbrev of_client : Placed Client → Peer
of_client placed = placed.at

abbrev of_proxy : Placed Proxy → Peer
of_proxy placed = placed.at

-- ---- one of a list is another that is where it stood

same_places : {A : Type 0} (at : A → Peer) (xs : List A) (k : ℕ) (x y : A) → slice_get xs k ≡ Some x → at y ≡ at x → map at (slice_set xs k y) ≡ map at xs
same_places at [] k x y e same = refl
same_places at (z ∷ xs) zero x y e same = ap (λ (a : Peer). a ∷ map at xs) (same ∙ ap at (sym (same_Some z x e)))
same_places at (z ∷ xs) (suc k) x y e same = ap (λ (all : List Peer). at z ∷ all) (same_places at xs k x y e same)

with_clients : (nodes : NodeStates) (clients : List (Placed Client)) → map of_client clients ≡ map of_client nodes.clients
    → StandApart nodes → StandApart (record nodes { clients = clients })
with_clients nodes clients same apart =
    subst (λ (all : List Peer). IsDistinct same_peer (nodes.server_at ∷ (all ++ map of_proxy nodes.proxies))) (sym same) apart

with_proxies : (nodes : NodeStates) (proxies : List (Placed Proxy)) → map of_proxy proxies ≡ map of_proxy nodes.proxies
    → StandApart nodes → StandApart (record nodes { proxies = proxies })
with_proxies nodes proxies same apart =
    subst (λ (all : List Peer). IsDistinct same_peer (nodes.server_at ∷ (map of_client nodes.clients ++ all))) (sym same) apart

-- a step moves no node
none_moves : {S : Type 0} (does : S → Step → S → Type 0) (noted : StepNotes → Noted) (old : List (Placed S)) (number : ℕ) (taken : Option StepTaken) (new : List (Placed S))
    → NodeTakes does noted old number taken new → map (λ (placed : Placed S). placed.at) new ≡ map (λ (placed : Placed S). placed.at) old
none_moves does noted old number taken new (no_node none nothing same) = ap (map (λ placed. placed.at)) same
none_moves does noted old number taken new (a_node placed step node there it taken_is is) =
    ap (map (λ placed. placed.at)) is ∙ same_places (λ placed. placed.at) old number placed (record placed { node = node }) there refl

pub apart_after : (is_sealing : Sealings) (tag : Tags) (old new : NodeStates) (deed : Deed) (taken : Option StepTaken)
    → Takes is_sealing tag old deed taken new → StandApart old → StandApart new
apart_after is_sealing tag old new Nothing taken takes apart = subst StandApart (sym takes.is) apart
apart_after is_sealing tag old new (OfServer task) taken takes apart = subst StandApart (sym takes.is) apart
apart_after is_sealing tag old new (OfClient number task) taken takes apart =
    subst StandApart (sym takes.2) (with_clients old takes.0 (none_moves _ _ old.clients number taken takes.0 takes.1) apart)
apart_after is_sealing tag old new (OfProxy number task) taken takes apart =
    subst StandApart (sym takes.2) (with_proxies old takes.0 (none_moves _ _ old.proxies number taken takes.0 takes.1) apart)

-- nor does a number that is raised
pub apart_skipped : (client number : ℕ) (nodes : NodeStates) → StandApart nodes → StandApart (skipped client number nodes)
apart_skipped client number nodes apart = by (slice_get nodes.clients client) refl
  where
    by : (o : Option (Placed Client)) → slice_get nodes.clients client ≡ o → StandApart (skipped_at client number nodes o)
    by None there = apart
    by (Some placed) there =
        with_clients nodes _ (same_places of_client nodes.clients client placed (record placed { node = skipped_to number placed.node }) there refl) apart

-- ---- who is found

there_too : {A : Type 0} (P : Peer → Type 0) (at : A → Peer) (xs : List A) (ys : List Peer) (k : ℕ) (x : A) → AllByRecursion P (map at xs ++ ys) → slice_get xs k ≡ Some x → P (at x)
there_too P at [] ys k x all e = absurd (cc)
there_too P at (z ∷ xs) ys zero x all e = subst P (ap at (same_Some z x e)) all.0
there_too P at (z ∷ xs) ys (suc k) x all e = there_too P at xs ys k x all.1 e

module _ (itself : (a : Peer) → same_peer a a ≡ true) where
  first_there : {A : Type 0} (at : A → Peer) (xs : List A) (ys : List Peer) (k : ℕ) (x : A) → IsDistinct same_peer (map at xs ++ ys) → slice_get xs k ≡ Some x
      → position_or_len (λ y. same_peer (at y) (at x)) xs ≡ k
  unfolding IsDistinct
  first_there at [] ys k x apart e = absurd (cc)
  first_there at (z ∷ xs) ys zero x apart e =
      let it : same_peer (at z) (at x) ≡ true = ap (λ y. same_peer (at z) (at y)) (sym (same_Some z x e)) ∙ itself (at z) in rw it refl
  first_there at (z ∷ xs) ys (suc k) x apart e =
      let other : same_peer (at z) (at x) ≡ false = there_too (λ (p : Peer). same_peer (at z) p ≡ false) at xs ys k x apart.0 e in
      rw other (omega (arith, first_there at xs ys k x apart.1 e))

  -- what is sent to a client's place comes to that client
  pub stands_there : (nodes : NodeStates) (number : ℕ) (placed : Placed Client) → StandApart nodes → slice_get nodes.clients number ≡ Some placed → node_at nodes placed.at ≡ whose.Client number
  unfolding IsDistinct
  stands_there nodes number placed apart there =
      let others : List Peer = map of_proxy nodes.proxies in
      let not_server : same_peer nodes.server_at placed.at ≡ false = there_too (λ (p : Peer). same_peer nodes.server_at p ≡ false) of_client nodes.clients others number placed apart.0 there in
      let first : position_or_len (λ (p : Placed Client). same_peer p.at placed.at) nodes.clients ≡ number = first_there of_client nodes.clients others number placed apart.1 there in
      let found : number_at nodes.clients placed.at ≡ Some number = rw (first, lt-ltb number (length nodes.clients) (slice_get_within nodes.clients number placed there)) refl in
      rw (not_server, found) refl

-- ---- one more

pub server_alone : (server_at : Peer) → IsDistinct same_peer (places server_at [] [])
unfolding IsDistinct
server_alone server_at = (tt, tt)

either : (a b : Bool) → (a || b) ≡ false → (a ≡ false) × (b ≡ false)
either true b e = absurd (cc)
either false b e = (refl, e)

beside : (P : Peer → Type 0) (xs ys : List Peer) (x : Peer) → P x → AllByRecursion P (xs ++ ys) → AllByRecursion P (xs ++ x ∷ ys)
beside P [] ys x it all = (it, all)
beside P (z ∷ xs) ys x it all = (all.0, beside P xs ys x it all.1)

at_end_of_front : {A : Type 0} (at : A → Peer) (xs : List A) (x : A) (ys : List Peer) → map at (xs ++ x ∷ []) ++ ys ≡ map at xs ++ at x ∷ ys
at_end_of_front at [] x ys = refl
at_end_of_front at (z ∷ xs) x ys = ap (λ (all : List Peer). at z ∷ all) (at_end_of_front at xs x ys)

at_end_of_back : {A : Type 0} (at : A → Peer) (front : List Peer) (xs : List A) (x : A) → front ++ map at (xs ++ x ∷ []) ≡ (front ++ map at xs) ++ at x ∷ []
at_end_of_back at [] [] x = refl
at_end_of_back at [] (z ∷ xs) x = ap (λ (all : List Peer). at z ∷ all) (at_end_of_back at [] xs x)
at_end_of_back at (p ∷ front) xs x = ap (λ (all : List Peer). p ∷ all) (at_end_of_back at front xs x)

no_more : (xs : List Peer) → xs ++ [] ≡ xs
no_more [] = refl
no_more (x ∷ xs) = ap (λ (all : List Peer). x ∷ all) (no_more xs)

module _ (same : (a b : Peer) → same_peer a b ≡ true → a ≡ b) (itself : (a : Peer) → same_peer a a ≡ true) where
  flipped : (a b : Peer) → same_peer a b ≡ false → same_peer b a ≡ false
  flipped a b e = by (same_peer b a) refl
    where
      by : (it : Bool) → same_peer b a ≡ it → same_peer b a ≡ false
      by true is = let bad : true ≡ false = sym (subst (λ (c : Peer). same_peer a c ≡ true) (sym (same b a is)) (itself a)) ∙ e in absurd (cc)
      by false is = is

  all_others : (ys : List Peer) (x : Peer) → is_among x ys ≡ false → AllByRecursion (λ y. same_peer x y ≡ false) ys
  all_others [] x free = tt
  all_others (y ∷ ys) x free =
      let parts = either (same_peer y x) (is_among x ys) free in (flipped y x parts.0, all_others ys x parts.1)

  one_more : (xs ys : List Peer) (x : Peer) → is_among x (xs ++ ys) ≡ false → IsDistinct same_peer (xs ++ ys) → IsDistinct same_peer (xs ++ x ∷ ys)
  unfolding IsDistinct
  one_more [] ys x free apart = (all_others ys x free, apart)
  one_more (z ∷ xs) ys x free apart =
      let parts = either (same_peer z x) (is_among x (xs ++ ys)) free in
      (beside (λ (y : Peer). same_peer z y ≡ false) xs ys x parts.0 apart.0, one_more xs ys x parts.1 apart.1)

  pub one_more_client : (server_at : Peer) (clients : List (Placed Client)) (proxies : List (Placed Proxy)) (placed : Placed Client) → is_among placed.at (places server_at clients proxies) ≡ false
      → IsDistinct same_peer (places server_at clients proxies) → IsDistinct same_peer (places server_at (clients ++ placed ∷ []) proxies)
  one_more_client server_at clients proxies placed free apart =
      subst (λ (all : List Peer). IsDistinct same_peer (server_at ∷ all)) (sym (at_end_of_front of_client clients placed (map of_proxy proxies)))
      (one_more (server_at ∷ map of_client clients) (map of_proxy proxies) placed.at free apart)

  pub one_more_proxy : (server_at : Peer) (clients : List (Placed Client)) (proxies : List (Placed Proxy)) (placed : Placed Proxy) → is_among placed.at (places server_at clients proxies) ≡ false
      → IsDistinct same_peer (places server_at clients proxies) → IsDistinct same_peer (places server_at clients (proxies ++ placed ∷ []))
  one_more_proxy server_at clients proxies placed free apart =
      let all : List Peer = places server_at clients proxies in
      subst (λ (more : List Peer). IsDistinct same_peer (server_at ∷ more)) (sym (at_end_of_back of_proxy (map of_client clients) proxies placed))
      (one_more all [] placed.at
      (subst (λ (xs : List Peer). is_among placed.at xs ≡ false) (sym (no_more all)) free)
      (subst (λ (xs : List Peer). IsDistinct same_peer xs) (sym (no_more all)) apart))

-- ---- whether an address is taken

any_place : {A : Type 0} (at : A → Peer) (it : Peer) (xs : List A) → list_any (λ place. same_peer place it) (map at xs) ≡ list_any (λ x. same_peer (at x) it) xs
any_place at it [] = refl
any_place at it (x ∷ xs) = ap (λ (b : Bool). same_peer (at x) it || b) (any_place at it xs)

pub among_places : (it server_at : Peer) (clients : List (Placed Client)) (proxies : List (Placed Proxy)) → is_among it (places server_at clients proxies)
    ≡ (same_peer server_at it || (list_any (λ (p : Placed Client). same_peer p.at it) clients || list_any (λ (p : Placed Proxy). same_peer p.at it) proxies))
among_places it server_at clients proxies =
    ap (λ (b : Bool). same_peer server_at it || b)
    (list_any-append (λ (place : Peer). same_peer place it) (map of_client clients) (map of_proxy proxies)
    ∙ ap (λ (b : Bool). b || list_any (λ (place : Peer). same_peer place it) (map of_proxy proxies)) (any_place of_client it clients)
    ∙ ap (λ (b : Bool). list_any (λ (p : Placed Client). same_peer p.at it) clients || b) (any_place of_proxy it proxies))

-- no node but a proxy can be there
pub at_a_proxy_alone : (it server_at : Peer) (clients : List (Placed Client)) (proxies : List (Placed Proxy)) (result : Bool) → same_peer server_at it ≡ false
    → list_any (λ (p : Placed Client). same_peer p.at it) clients ≡ false → result ≡ list_any (λ (p : Placed Proxy). same_peer p.at it) proxies
    → result ≡ is_among it (places server_at clients proxies)
at_a_proxy_alone it server_at clients proxies result server client proxy =
    let rest : Bool = list_any (λ (p : Placed Proxy). same_peer p.at it) proxies in
    proxy
    ∙ sym (ap (λ (b : Bool). b || (list_any (λ (p : Placed Client). same_peer p.at it) clients || rest)) server ∙ ap (λ (b : Bool). b || rest) client)
    ∙ sym (among_places it server_at clients proxies)

-- ---- who is found at a proxy's place

all_behind : (P : Peer → Type 0) (xs ys : List Peer) → AllByRecursion P (xs ++ ys) → AllByRecursion P ys
all_behind P [] ys all = all
all_behind P (x ∷ xs) ys all = all_behind P xs ys all.1

apart_behind : (xs ys : List Peer) → IsDistinct same_peer (xs ++ ys) → IsDistinct same_peer ys
unfolding IsDistinct
apart_behind [] ys apart = apart
apart_behind (x ∷ xs) ys apart = apart_behind xs ys apart.1

found_behind : (P : Peer → Type 0) (front : List Peer) (proxies : List (Placed Proxy)) (k : ℕ) (placed : Placed Proxy) → AllByRecursion P (front ++ map of_proxy proxies) → slice_get proxies k ≡ Some placed → P placed.at
found_behind P front proxies k placed all there =
    there_too P of_proxy proxies [] k placed (subst (λ (xs : List Peer). AllByRecursion P xs) (sym (no_more (map of_proxy proxies))) (all_behind P front (map of_proxy proxies) all)) there

none_before : (clients : List (Placed Client)) (proxies : List (Placed Proxy)) (k : ℕ) (placed : Placed Proxy) → IsDistinct same_peer (map of_client clients ++ map of_proxy proxies) → slice_get proxies k ≡ Some placed
    → position_or_len (λ (p : Placed Client). same_peer p.at placed.at) clients ≡ length clients
unfolding IsDistinct
none_before [] proxies k placed apart there = refl
none_before (client ∷ clients) proxies k placed apart there =
    let other : same_peer client.at placed.at ≡ false = found_behind (λ (p : Peer). same_peer client.at p ≡ false) (map of_client clients) proxies k placed apart.0 there in
    rw other (omega (arith, none_before clients proxies k placed apart.1 there))

pub proxy_stands_there : (itself : (a : Peer) → same_peer a a ≡ true) (nodes : NodeStates) (number : ℕ) (placed : Placed Proxy) → StandApart nodes → slice_get nodes.proxies number ≡ Some placed
    → node_at nodes placed.at ≡ whose.Proxy number
unfolding IsDistinct
proxy_stands_there itself nodes number placed apart there =
    let clients : List Peer = map of_client nodes.clients in
    let not_server : same_peer nodes.server_at placed.at ≡ false = found_behind (λ (p : Peer). same_peer nodes.server_at p ≡ false) clients nodes.proxies number placed apart.0 there in
    let none : position_or_len (λ (p : Placed Client). same_peer p.at placed.at) nodes.clients ≡ length nodes.clients = none_before nodes.clients nodes.proxies number placed apart.1 there in
    let no_client : number_at nodes.clients placed.at ≡ None = rw (none, le-ltb (length nodes.clients) (length nodes.clients) (omega arith)) refl in
    let first : position_or_len (λ (p : Placed Proxy). same_peer p.at placed.at) nodes.proxies ≡ number =
    first_there itself of_proxy nodes.proxies [] number placed (subst (λ (xs : List Peer). IsDistinct same_peer xs) (sym (no_more (map of_proxy nodes.proxies))) (apart_behind clients (map of_proxy nodes.proxies) apart.1)) there in
    let found : number_at nodes.proxies placed.at ≡ Some number = rw (first, lt-ltb number (length nodes.proxies) (slice_get_within nodes.proxies number placed there)) refl in
    rw (not_server, no_client, found) refl

pub server_stands_there : (itself : (a : Peer) → same_peer a a ≡ true) (nodes : NodeStates) → node_at nodes nodes.server_at ≡ whose.Server
server_stands_there itself nodes = rw (itself nodes.server_at) refl
