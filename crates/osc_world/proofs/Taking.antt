-- Steps that nodes take.
use Rattle.std.proofs.Common.{◌≡◌, ◌∙◌, ◌≤◌, ℕ, Bool, false, List, length, map, refl, ap, sym, subst, Option, Some, None}
use Rattle.std.proofs.lemmas.List.{length-map}
use Rattle.std.proofs.lemmas.Option.{same_Some}
use Rattle.std.specs.Prelude.{slice_get, slice_set}
use Rattle.osc_model.specs.StepNotes.{StepNotes}
use Rattle.osc_model.specs.declared.node.Moment.{Moment}
use Rattle.osc_model.specs.declared.node.Peer.{Peer}
use Rattle.osc_model.specs.declared.step.Datagram.{Datagram}
use Rattle.osc_model.specs.declared.step.Step.{Step}
use Rattle.osc_ccm.specs.{Sealings}
use Rattle.osc_run.specs.{ProxyStep, ClientStep, ClientRestarted, IsSkipped, Noted, by_server, by_client, by_proxy, ServerStep, ServerRestarted}
use Rattle.osc_server.specs.{core as core_of_server}
use Rattle.osc_server.specs.State.{State as Server}
use Rattle.osc_server.specs.Steps as of_server
use Rattle.osc_client.specs.{restarted, core as core_of_client}
use Rattle.osc_client.specs.State.{State as Client}
use Rattle.osc_client.specs.Steps as of_client
use Rattle.osc_proxy.specs.{restarted as proxy_again}
use Rattle.osc_proxy.specs.State.{State as Proxy}
use Rattle.osc_proxy.specs.Steps as of_proxy
use Rattle.osc_world.specs.Inner.Kinds.{IsSkip, Skips, IsStep, OfServer, OfClient, OfProxy}
use Rattle.osc_world.specs.Inner.Tasks.{most_of, task_of}
use Rattle.osc_world.specs.{sent_from, NodeStates, Does, NodeTakes, ServerTakes, a_node, no_node}
use Rattle.osc_world.specs.declared.event.Event.{Event}
use Rattle.osc_world.specs.declared.jobs.Job.{Job}
use Rattle.osc_world.specs.declared.jobs.Job.TheVariants.{Hear, Tick, StartAgain}
use Rattle.osc_world.specs.declared.nodes.Placed.{Placed}
use Rattle.osc_world.specs.declared.nodes.StepTaken.{StepTaken}

-- ---- what any node does is one step of a run

pub server_kind : (is_sealing : Sealings) (event : Event) (job : Job) (old : Server) (step : Step) (new : Server)
    → Does (of_server.IsStep is_sealing) of_server.again (task_of event job) old step new
    → ServerStep (core_of_server old) event.moment step.notes (core_of_server new)
server_kind is_sealing event (Hear from bytes) old step new it = it.kind
server_kind is_sealing event Tick old step new it = it.kind
server_kind is_sealing event StartAgain old step new it = ServerRestarted (record { noted = ap (λ (s : Step). s.notes) it.told; is = ap core_of_server it.kept })

pub client_kind : (is_sealing : Sealings) (event : Event) (job : Job) (old : Client) (step : Step) (new : Client)
    → Does (of_client.IsStep is_sealing) restarted (task_of event job) old step new
    → ClientStep false (core_of_client old) step.notes (core_of_client new)
client_kind is_sealing event (Hear from bytes) old step new it = it.kind
client_kind is_sealing event Tick old step new it = it.kind
client_kind is_sealing event StartAgain old step new it = ClientRestarted refl (record { noted = ap (λ (s : Step). s.notes) it.told; is = ap core_of_client it.kept })

pub proxy_kind : (event : Event) (job : Job) (old : Proxy) (step : Step) (new : Proxy)
    → Does of_proxy.IsStep proxy_again (task_of event job) old step new → ProxyStep step.notes
proxy_kind event (Hear from bytes) old step new it = it.kind
proxy_kind event Tick old step new it = it.kind
proxy_kind event StartAgain old step new it = record { refused = None; lost = false; noted = ap (λ (s : Step). s.notes) it.told }

-- ---- one node of all

abbrev nodes_of : Peer → Server → List (Placed Client) → List (Placed Proxy) → NodeStates
nodes_of at server clients proxies = record { server_at = at; server = server; clients = clients; proxies = proxies }

-- the server's step
module _ (self : NodeStates) (at : Peer) (old new : Server) (clients : List (Placed Client)) (proxies : List (Placed Proxy)) (noted : Noted) (step : Step)
    (is : nodes_of at old clients proxies ≡ self) (told : noted ≡ by_server step.notes) where
  abbrev server_taken : Option StepTaken
  server_taken = Some (record { at = at; noted = noted; out = step.out })

  taken_by_server : server_taken ≡ Some (record { at = at; noted = by_server step.notes; out = step.out })
  taken_by_server = ap (λ n. Some (record { at = at; noted = n; out = step.out })) told

  pub server_took : (does : Server → Step → Server → Type 0) → does old step new → ServerTakes does self server_taken (nodes_of at new clients proxies)
  server_took does it =
      subst (λ s. ServerTakes does s server_taken (nodes_of at new clients proxies)) is
      (record { step = step; server = new; it_does = it; taken_is = taken_by_server; is = refl })

  pub server_stepped : (now : Moment) → ServerStep (core_of_server old) now step.notes (core_of_server new)
      → IsStep now self server_taken (nodes_of at new clients proxies)
  server_stepped now kind =
      subst (λ s. IsStep now s server_taken (nodes_of at new clients proxies)) is (OfServer step new kind taken_by_server refl)

-- that of the node of this number, of those of one kind
module _ {S : Type 0} (all : List (Placed S)) (number : ℕ) (placed : Placed S) (there : slice_get all number ≡ Some placed) where
  abbrev with_node : S → List (Placed S)
  with_node node = slice_set all number (record { at = placed.at; node = node })

  node_took : (does : S → Step → S → Type 0) (noted : StepNotes → Noted) (node : S) (one : Noted) (step : Step) → one ≡ noted step.notes → does placed.node step node
      → NodeTakes does noted all number (Some (record { at = placed.at; noted = one; out = step.out })) (with_node node)
  node_took does noted node one step told it =
      a_node placed step node there it (ap (λ (n : Noted). Some (record { at = placed.at; noted = n; out = step.out })) told) refl

  few_of_node : (most : S → ℕ) (from : Peer) (out : List Datagram) → length out ≤ most placed.node → length (map (sent_from from) out) ≤ most_of most (slice_get all number)
  few_of_node most from out few =
      subst (λ o. length (map (sent_from from) out) ≤ most_of most o) (sym there)
      (subst (λ n. n ≤ most placed.node) (sym (length-map out (sent_from from))) few)

-- a client's
module _ (self : NodeStates) (at : Peer) (server : Server) (clients : List (Placed Client)) (proxies : List (Placed Proxy)) (number : ℕ) (placed : Placed Client)
    (is : nodes_of at server clients proxies ≡ self) (there : slice_get clients number ≡ Some placed) where
  abbrev with_client : Client → NodeStates
  with_client client = nodes_of at server (with_node clients number placed there client) proxies

  module _ (client : Client) (noted : Noted) (step : Step) (lied : Bool) (told : noted ≡ by_client number lied step.notes) where
    abbrev client_taken : Option StepTaken
    client_taken = Some (record { at = placed.at; noted = noted; out = step.out })

    pub client_took : (does : Client → Step → Client → Type 0) → does placed.node step client
        → (after : List (Placed Client)) × NodeTakes does (by_client number lied) self.clients number client_taken after × (with_client client ≡ record self { clients = after })
    client_took does it =
        subst (λ (s : NodeStates). (after : List (Placed Client)) × NodeTakes does (by_client number lied) s.clients number client_taken after × (with_client client ≡ record s { clients = after })) is
        (with_node clients number placed there client, node_took clients number placed there does (by_client number lied) client noted step told it, refl)

    pub client_stepped : (now : Moment) → ClientStep lied (core_of_client placed.node) step.notes (core_of_client client)
        → IsStep now self client_taken (with_client client)
    client_stepped now kind =
        subst (λ s. IsStep now s client_taken (with_client client)) is
        (OfClient number lied placed (record { at = placed.at; node = client }) step there kind
        (ap (λ (n : Noted). Some (record { at = placed.at; noted = n; out = step.out })) told) refl)

  pub few_of_client : (from : Peer) (out : List Datagram) → length out ≤ of_client.most_sent placed.node
      → length (map (sent_from from) out) ≤ most_of of_client.most_sent (slice_get self.clients number)
  few_of_client from out few =
      subst (λ (s : NodeStates). length (map (sent_from from) out) ≤ most_of of_client.most_sent (slice_get s.clients number)) is
      (few_of_node clients number placed there of_client.most_sent from out few)

  pub client_skipped : (client : Client) → IsSkipped (core_of_client placed.node) (core_of_client client) → IsSkip number self (with_client client)
  client_skipped client kind =
      subst (λ s. IsSkip number s (with_client client)) is (Skips placed (record { at = placed.at; node = client }) there kind refl)

-- a proxy's
module _ (self : NodeStates) (at : Peer) (server : Server) (clients : List (Placed Client)) (proxies : List (Placed Proxy)) (number : ℕ) (placed : Placed Proxy)
    (is : nodes_of at server clients proxies ≡ self) (there : slice_get proxies number ≡ Some placed) where
  abbrev with_proxy : Proxy → NodeStates
  with_proxy proxy = nodes_of at server clients (with_node proxies number placed there proxy)

  module _ (proxy : Proxy) (noted : Noted) (step : Step) (told : noted ≡ by_proxy number step.notes) where
    abbrev proxy_taken : Option StepTaken
    proxy_taken = Some (record { at = placed.at; noted = noted; out = step.out })

    pub proxy_took : (does : Proxy → Step → Proxy → Type 0) → does placed.node step proxy
        → (after : List (Placed Proxy)) × NodeTakes does (by_proxy number) self.proxies number proxy_taken after × (with_proxy proxy ≡ record self { proxies = after })
    proxy_took does it =
        subst (λ (s : NodeStates). (after : List (Placed Proxy)) × NodeTakes does (by_proxy number) s.proxies number proxy_taken after × (with_proxy proxy ≡ record s { proxies = after })) is
        (with_node proxies number placed there proxy, node_took proxies number placed there does (by_proxy number) proxy noted step told it, refl)

    pub proxy_stepped : (now : Moment) → ProxyStep step.notes → IsStep now self proxy_taken (with_proxy proxy)
    proxy_stepped now kind =
        subst (λ s. IsStep now s proxy_taken (with_proxy proxy)) is
        (OfProxy number placed (record { at = placed.at; node = proxy }) step there kind
        (ap (λ (n : Noted). Some (record { at = placed.at; noted = n; out = step.out })) told) refl)

  pub few_of_proxy : (from : Peer) (out : List Datagram) → length out ≤ of_proxy.most_sent placed.node
      → length (map (sent_from from) out) ≤ most_of of_proxy.most_sent (slice_get self.proxies number)
  few_of_proxy from out few =
      subst (λ (s : NodeStates). length (map (sent_from from) out) ≤ most_of of_proxy.most_sent (slice_get s.proxies number)) is
      (few_of_node proxies number placed there of_proxy.most_sent from out few)

-- where nobody is there, nobody does
pub no_client_takes : (self : NodeStates) (does : Client → Step → Client → Type 0) (noted : StepNotes → Noted) (number : ℕ) → slice_get self.clients number ≡ None
    → (after : List (Placed Client)) × NodeTakes does noted self.clients number None after × (self ≡ record self { clients = after })
no_client_takes self does noted number none = (self.clients, no_node none refl refl, refl)

pub no_proxy_takes : (self : NodeStates) (does : Proxy → Step → Proxy → Type 0) (noted : StepNotes → Noted) (number : ℕ) → slice_get self.proxies number ≡ None
    → (after : List (Placed Proxy)) × NodeTakes does noted self.proxies number None after × (self ≡ record self { proxies = after })
no_proxy_takes self does noted number none = (self.proxies, no_node none refl refl, refl)

-- ---- the node that is there

module _ {S : Type 0} (does : S → Step → S → Type 0) (noted : StepNotes → Noted) (old : List (Placed S)) (number : ℕ) (taken : Option StepTaken) (new : List (Placed S)) where
  -- it takes a step
  pub record ItTakes (placed : Placed S) : Type 0 where
    pub step : Step
    pub node : S
    pub it_does : does placed.node step node
    pub taken_is : taken ≡ Some (record { at = placed.at; noted = noted step.notes; out = step.out })
    pub is : new ≡ slice_set old number (record placed { node = node })

  pub it_takes : (placed : Placed S) → slice_get old number ≡ Some placed → NodeTakes does noted old number taken new → ItTakes placed
  it_takes placed there (no_node none nothing same) = let bad : None ≡ Some placed = sym none ∙ there in absurd (cc)
  it_takes placed there (a_node found step node here it taken_is is) =
      subst ItTakes (same_Some found placed (sym here ∙ there))
      (record { step = step; node = node; it_does = it; taken_is = taken_is; is = is })
