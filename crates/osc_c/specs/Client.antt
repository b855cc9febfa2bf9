-- A client by calls.
use Rattle.std.specs.Prelude.{◌≡◌, ℕ, ◌⊎◌, Bool, true, false, ◌↔◌, ◌<◌, ◌≤◌, ◌^◌, List, None, option_map}
use Rattle.osc_model.specs.declared.node.Draw.{Draw}
use Rattle.osc_model.specs.declared.node.Moment.{Moment}
use Rattle.osc_model.specs.declared.node.Peer.{Peer}
use Rattle.osc_model.specs.declared.request.Request.{Request}
use Rattle.osc_model.specs.declared.step.Step.{Step}
use Rattle.osc_message.specs.{fresh, heard, Receives}
use Rattle.osc_message.specs.declared.received.Received.{Received}
use Rattle.osc_authz.specs.{ClientContextState}
use Rattle.osc_authz.specs.declared.granted.ClientDesk.{ClientDesk}
use Rattle.osc_ccm.specs.{Sealings, Tags}
use Rattle.osc_client.specs.{Begins, Requests, Ticks, Asked, IsFree, TakesMemory, acts_at, core, IsStep}
use Rattle.osc_client.specs.State.{State}
use Rattle.osc_run.specs.{ClientStep, Came}
use Rattle.osc_client.specs.declared.route.Route.{Route}
use Rattle.osc_c.specs.Arguments.{IsUnfit, Tells}
use Rattle.osc_c.specs.Ends.{At, DueAt, Ends}
use Rattle.osc_c.specs.Given.{GivenDatagram, GivenGrant, GivenRequest, request_size}
use Rattle.osc_c.specs.Granted.{FitsClient, IsDesk, id_context_of, origin_of}
use Rattle.osc_c.specs.Requests.{IsRequest, MakeARequest}
use Rattle.osc_model.specs.{algorithm_number}
use Rattle.osc_model.specs.declared.algorithm.Algorithm.{Algorithm}
use Rattle.osc_c.specs.Last.{nothing, since}
use Rattle.osc_c.specs.declared.calls.client.ClientNode.{ClientNode}
use Rattle.osc_c.specs.declared.calls.outcome.Outcome.{Outcome}
use Rattle.osc_c.specs.declared.calls.outcome.Outcome.TheVariants.{Done, Nothing}

-- it was granted this, and has done nothing
abbrev pub IsFresh : ClientDesk → Route → ClientNode → Type 0
IsFresh desk way node = node ≡ record {
  client = record { desk = desk; next_hop = way.next_hop; origin = way.origin; context = None; waiting = None; endpoint = fresh };
  last = nothing;
}

-- it was granted this, which makes a client, and has done nothing
pub record IsNewClient (given : GivenGrant) (node : ClientNode) : Type 0 where
  pub desk : ClientDesk
  pub alg : Algorithm
  pub is_desk : IsDesk given.token given.secret given.salt (id_context_of given.has_context given.context) alg desk
  pub is_alg : given.algorithm ≡ algorithm_number alg
  pub fits : FitsClient given
  pub fresh : IsFresh desk (record { next_hop = given.next_hop; origin = origin_of given.host given.port }) node

-- the client makes such a step, and it is the last one
abbrev pub Makes : ClientNode → (State → Step → State → Type 0) → ClientNode → Type 0
Makes old Does new = (step : Step) × Does old.client step new.client × (new.last ≡ since step)

-- a step of a run, as of a holder that keeps the rules
abbrev pub IsOfRun : State → Step → State → Type 0
IsOfRun old step new = ClientStep false (core old) step.notes (core new)

abbrev pub BegunAt : ClientNode → Moment → Draw → ClientNode → Type 0
BegunAt old now draw new = Makes old (λ s step t. Begins s now draw step t × IsOfRun s step t) new

abbrev pub BegunBy : ClientNode → ℕ → Draw → Outcome → ClientNode → Type 0
BegunBy old ms draw outcome new = At ms old outcome new (λ now. old.client.waiting ≡ None) (λ now. BegunAt old now draw new)

abbrev pub TickedAt : ClientNode → Moment → Bool → ClientNode → Type 0
TickedAt old now lost new = Makes old (λ s step t. Ticks s now step t × IsOfRun s step t × (step.notes.lost ≡ lost)) new

abbrev pub TickedBy : ClientNode → ℕ → Outcome → ClientNode → Type 0
TickedBy old ms outcome new = DueAt ms old outcome new (λ now lost. TickedAt old now lost new)

-- it answers these bytes, or reads them, which takes memory
abbrev pub AnswersOrReads : ClientNode → Moment → Peer → List ℕ → Type 0
AnswersOrReads old now from bytes = (received : Received) × Receives bytes received × TakesMemory old.client from (heard old.client.endpoint.seen now from received)

-- these numbers and bytes can be asked
abbrev pub FitsToAsk : GivenRequest → Type 0
FitsToAsk given = (given.ms < 2 ^ 63) × (given.size ≡ request_size) × MakeARequest given.method given.path given.options

-- `is_sealing algorithm` is the relation of the algorithm's cipher
module _ (is_sealing : Sealings) where
  abbrev pub AskedAt : Tags → ClientNode → Asked → ClientNode → Type 0
  AskedAt tag old asked new = Makes old (λ s step t. Requests is_sealing tag s asked step t × IsOfRun s step t) new

  -- nothing hinders the request
  abbrev pub IsBegun : Tags → ClientNode → Request → Draw → Type 0
  IsBegun tag old request draw = (context : ClientContextState) × IsFree is_sealing tag old.client request draw context

  -- A request of these numbers and bytes is asked, or there was no memory for the step; or they make none, or there was no memory for it.
  abbrev pub AskedBy : Tags → ClientNode → GivenRequest → Outcome → ClientNode → Type 0
  AskedBy tag old given outcome new =
      ((now : Moment) × (request : Request) × FitsToAsk given × (now.ms ≡ given.ms) × IsRequest given.method given.path given.options given.payload request
      × Ends old outcome new (IsBegun tag old request given.draw) (AskedAt tag old (record { at = now; draw = given.draw; request = request }) new))
      ⊎ (IsUnfit (FitsToAsk given) outcome × (new ≡ old))

  -- it hears this, whatever is drawn
  abbrev pub HeardAt : ClientNode → Moment → Peer → List ℕ → ClientNode → Type 0
  HeardAt old now from bytes new =
      Makes old (λ s step t. (draw : Draw) → IsStep is_sealing s (Came (record { at = now; from = from; draw = draw; what = bytes })) step t) new

  abbrev pub HeardBy : ClientNode → GivenDatagram → Outcome → ClientNode → Type 0
  HeardBy old given outcome new = At given.ms old outcome new (λ now. AnswersOrReads old now given.from given.bytes) (λ now. HeardAt old now given.from given.bytes new)

-- the first moment is told at which a tick does anything, if one does
abbrev pub TellsDeadline : ClientNode → ℕ → Outcome → ℕ → Type 0
TellsDeadline node old outcome new =
    ((outcome ≡ Done) × ((now : Moment) → (acts_at node.client now ≡ true) ↔ (new ≤ now.ms)))
    ⊎ ((outcome ≡ Nothing) × (new ≡ old) × ((now : Moment) → acts_at node.client now ≡ false))

-- the number that its next request takes is told, where it has a context
abbrev pub TellsContext : ClientNode → ℕ → Outcome → ℕ → Type 0
TellsContext node old outcome new = Tells (option_map (λ context. context.next) node.client.context) old outcome new
