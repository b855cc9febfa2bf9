-- What one part of a lab does and tells.
use Rattle.std.specs.Prelude.{◌≡◌, ◌≢◌, ℕ, Bool, false, List, [], ◌∷◌, ◌++◌, Option, Some, None, map, option_map, option_to_list}
use Rattle.std.specs.Io.KnownBytes.{Appends}
use Rattle.osc_model.specs.declared.node.Draw.{Draw}
use Rattle.osc_model.specs.declared.node.Moment.{Moment}
use Rattle.osc_model.specs.declared.node.Peer.{Peer}
use Rattle.osc_model.specs.declared.step.ClientResult.{ClientResult}
use Rattle.osc_model.specs.declared.step.Datagram.{Datagram}
use Rattle.osc_model.specs.declared.step.Step.{Step}
use Rattle.osc_run.specs.{ClientStep, Cause, Noted, by_client}
use Rattle.osc_run.specs.declared.noted.Actor.{Actor}
use Rattle.osc_client.specs.{core}
use Rattle.osc_client.specs.State.{State as Client}
use Rattle.osc_script.specs.declared.client_name.ClientName.{ClientName}
use Rattle.osc_script.specs.declared.line.Line.{Line}
use Rattle.osc_simulation.specs.{is_sealing, tag_of}
use Rattle.osc_turn.specs.{ClockAndRandomState, Gives, Received, cause_of}
use Rattle.osc_world.specs.{ClientTask, ClientDoes, is_lie}
use Rattle.osc_programs.specs.{IsFault}
use Rattle.osc_programs.specs.declared.ended.Ended.{Ended}
use Rattle.osc_programs.specs.declared.ended.Ended.TheVariants.{Failed}
use Rattle.osc_lab.specs.Lab.{Lab}
use Rattle.osc_lab.specs.Network.{Network, Ports, named}
use Rattle.osc_lab.specs.Telling.{Learnt, all_told, learnt_in}
use Rattle.osc_lab.specs.Turning.{Halts, HandsOver, Leads, LiveLab, TurnsAt, task_of, was_busy}
use Rattle.osc_lab.specs.Whole.{AreAt, IsAt}
use Rattle.osc_lab.specs.declared.nodes.LabNodes.{LabNodes}
use Rattle.osc_lab.specs.declared.port.Known.{Known}
use Rattle.osc_lab.specs.declared.ports.LabPorts.{LabPorts}
use Rattle.osc_lab.specs.declared.ports.Means.{Means}
use Rattle.osc_lab.specs.declared.ports.PacedPort.{PacedPort}

abbrev pub lab_of : LabNodes → Lab
lab_of nodes = record { minted = nodes.minted.items; nodes = nodes.nodes; steps = nodes.notes.steps }

abbrev pub ports_of : {P : Type 0} → LabPorts P → Ports P
ports_of ports = record { server = ports.server; clients = ports.clients.items; proxies = ports.proxies.items }

abbrev pub live : {W P : Type 0} → LabNodes → Means W P → LiveLab P
live nodes means = record { lab = lab_of nodes; ports = ports_of means.ports; supply = means.supply }

abbrev pub network : {P : Type 0} → (P → Option (List (Option Received))) → (P → Option (List Datagram)) → List Known → Network P
network received sent sockets = record { received = received; sent = sent; sockets = sockets }

-- some number of steps leads to where it halts
abbrev pub LeadsTo : {P : Type 0} → Network P → LiveLab P → LiveLab P → Type 0
LeadsTo net first last = (reached : LiveLab _) × Leads net first reached × Halts net reached last

-- ---- where the nodes are at first

module _ {P : Type 0} (opened : P → Type 0) (listens : P → Peer → Type 0) where
  -- a node of this address in the script has a port, and its socket is known
  pub record IsBound (script : Peer) (before after : List Known) (port : PacedPort P) : Type 0 where
    pub known : Known
    pub named : known.script ≡ script
    pub is_at : IsAt opened listens known port
    pub added : after ≡ before ++ known ∷ []

  -- nodes of these addresses have
  pub record AreBound (scripts : List Peer) (before after : List Known) (ports : List (PacedPort P)) : Type 0 where
    pub all : List Known
    pub named : map (λ known. known.script) all ≡ scripts
    pub are_at : AreAt opened listens all ports
    pub added : after ≡ before ++ all

-- ---- what one node does

-- a node at its port, and what hands it moments and draws
pub record AtPort (N P : Type 0) : Type 0 where
  pub node : N
  pub port : PacedPort P
  pub supply : ClockAndRandomState

abbrev pub at_port : {N P : Type 0} → N → PacedPort P → ClockAndRandomState → AtPort N P
at_port node port supply = record { node = node; port = port; supply = supply }

-- and what was noted of all steps so far
pub record Observed (N P : Type 0) : Type 0 where
  pub at : AtPort N P
  pub steps : List Noted

abbrev pub seen : {N P : Type 0} → N → PacedPort P → ClockAndRandomState → List Noted → Observed N P
seen node port supply steps = record { at = at_port node port supply; steps = steps }

-- it took no step, and nothing was sent
pub record Stayed {N P : Type 0} (net : Network P) (old new : Observed N P) : Type 0 where
  pub node : new.at.node ≡ old.at.node
  pub sent : net.sent new.at.port.port ≡ net.sent old.at.port.port
  pub steps : new.steps ≡ old.steps

-- it took a turn
pub record Took {N P : Type 0} (net : Network P) (acts : N → Moment → Bool) (is_step : N → Cause → Step → N → Type 0) (step : Step) (busy : Bool) (old new : AtPort N P) : Type 0 where
  pub now : Moment
  pub draw : Draw
  pub came : Option Received
  pub gives : Gives old.supply now draw new.supply
  pub makes : is_step old.node (cause_of now draw (option_map (named net.sockets) came)) step new.node
  pub turns : TurnsAt net (acts old.node now) now came step.out old.port new.port
  pub is_busy : busy ≡ was_busy old.port.pace.busy_since came

-- which was noted as this actor's
pub record TookTurn {N P : Type 0} (net : Network P) (acts : N → Moment → Bool) (is_step : N → Cause → Step → N → Type 0) (actor : Actor) (busy : Bool) (old new : Observed N P) : Type 0 where
  pub step : Step
  pub took : Took net acts is_step step busy old.at new.at
  pub steps : new.steps ≡ record { actor = actor; lied = false; notes = step.notes } ∷ old.steps

-- it took one, or no step
pub data TookOrStayed {N P : Type 0} (net : Network P) (acts : N → Moment → Bool) (is_step : N → Cause → Step → N → Type 0) (actor : Actor) (old new : Observed N P) : Type 0 where
  took : (busy : Bool) → TookTurn net acts is_step actor busy old new → TookOrStayed net acts is_step actor old new
  stayed : Stayed net old new → TookOrStayed net acts is_step actor old new

-- a step of this actor teaches no client anything
abbrev pub LearnsNothing : Actor → Type 0
LearnsNothing actor = (result : Option ClientResult) → learnt_in actor result ≡ None

-- the client did this, in which its holder doesn't lie, as a step of a run
pub record BeginsBy (task : ClientTask) (old : Client) (step : Step) (new : Client) : Type 0 where
  pub does : ClientDoes is_sealing tag_of task old step new
  pub honest : is_lie task ≡ false
  pub kind : ClientStep false (core old) step.notes (core new)

-- or it was to do nothing
abbrev pub Begins : Option ClientTask → Client → Option Step → Client → Type 0
Begins None old made new = (made ≡ None) × (new ≡ old)
Begins (Some task) old made new = (step : Step) × (made ≡ Some step) × BeginsBy task old step new

-- it took no step
pub record DidNothing {P : Type 0} (old new : Observed Client P) : Type 0 where
  pub node : new.at.node ≡ old.at.node
  pub port : new.at.port ≡ old.at.port
  pub steps : new.steps ≡ old.steps

-- the client of this number did this, which was noted
pub record DidTask {P : Type 0} (net : Network P) (task : ClientTask) (number : ℕ) (old new : Observed Client P) : Type 0 where
  pub step : Step
  pub begins : BeginsBy task old.at.node step new.at.node
  pub hands : HandsOver net step.out old.at.port new.at.port
  pub steps : new.steps ≡ by_client number false step.notes ∷ old.steps

-- or it was to do nothing
abbrev pub Did : {P : Type 0} → Network P → Option ClientTask → ℕ → Observed Client P → Observed Client P → Type 0
Did net None number old new = DidNothing old new
Did net (Some task) number old new = DidTask net task number old new

-- what the line says, at the next moment and with the next draw
pub record DidAsked {P : Type 0} (net : Network P) (asked : Line) (number : ℕ) (old new : Observed Client P) : Type 0 where
  pub now : Moment
  pub draw : Draw
  pub gives : Gives old.at.supply now draw new.at.supply
  pub did : Did net (task_of asked now draw) number old new

-- it did, or took no step
pub data DidOrStayed {P : Type 0} (net : Network P) (asked : Line) (number : ℕ) (old new : Observed Client P) : Type 0 where
  did : DidAsked net asked number old new → DidOrStayed net asked number old new
  idle : Stayed net old new → DidOrStayed net asked number old new

-- ---- what is told

-- Nothing was written, by a fault; of an output that failed nothing is said.
abbrev pub IsUntold : Ended → Option (List ℕ) → Option (List ℕ) → Type 0
IsUntold ended written written_after = IsFault ended × (ended ≢ Failed → Appends written written_after [])

-- clients learnt more than before, and all of that was written, in order
abbrev pub Tells : List ClientName → List Learnt → List Learnt → Option (List ℕ) → Option (List ℕ) → Type 0
Tells clients before after written written_after = (more : List Learnt) × (after ≡ before ++ more) × Appends written written_after (all_told clients more)

-- Where it ends early, all of it was, but for the last result at most; of an output that failed nothing is said.
pub record Stops (ended : Ended) (clients : List ClientName) (before after : List Learnt) (written written_after : Option (List ℕ)) : Type 0 where
  pub fault : IsFault ended
  pub more : List Learnt
  pub untold : Option Learnt
  pub learns : after ≡ before ++ (more ++ option_to_list untold)
  pub tells : ended ≢ Failed → Appends written written_after (all_told clients more)
