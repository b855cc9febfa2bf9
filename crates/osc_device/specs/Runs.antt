-- The runs that a device is in: its server is the run's, and the device itself one of the clients, beside whoever else holds a token.
use Rattle.std.specs.Prelude.{◌≡◌, ◌≢◌, ℕ, false, List, [], ◌∷◌, ◌++◌, Option, Some, None, slice_get}
use Rattle.osc_model.specs.{HaveOwnPaths, IsIsolated, quiet}
use Rattle.osc_model.specs.Tree.{Tree}
use Rattle.osc_model.specs.declared.step.ClientResult.TheVariants as result
use Rattle.osc_model.specs.declared.reply.Reply.{Reply}
use Rattle.osc_model.specs.declared.step.Step.{Step}
use Rattle.osc_authz.specs.{In}
use Rattle.osc_client.specs.{core as client_core}
use Rattle.osc_run.specs.{AreYoung, Acceptance, history, Noted, by_client, by_server, IsReplyOfRequest, IsNewClient, IsReached, IsTextOf, ClientState, Minted, WorldState, grants_of}
use Rattle.osc_run.specs.OneHistory.{OneHistory}
use Rattle.osc_run.specs.Premise.{Premise}
use Rattle.osc_options.specs.{read_request}
use Rattle.osc_server.specs.{core as server_core}
use Rattle.osc_device.specs.State.{State}
use Rattle.osc_device.specs.declared.round.Round.{Round}

-- the device is the server of this run, and the client of this number
pub record IsIn (number : ℕ) (device : State) (w : WorldState) : Type 0 where
  pub server : w.server ≡ server_core device.server
  pub own : slice_get w.clients number ≡ Some (client_core device.own)

-- ---- where they begin

-- others, who may hold tokens of the device's server: each text is that of its grant, and each client holds one and did nothing yet
pub record AreOthers (minted : List Minted) (clients : List ClientState) : Type 0 where
  pub texts : (m : Minted) → In m minted → IsTextOf m.grant m.text
  pub holders : (number : ℕ) (client : ClientState) → slice_get clients number ≡ Some client → IsNewClient minted number client

-- a run before its first step, in which the device comes after these others, with a grant of its own
abbrev pub first_run : List Minted → List ClientState → Minted → Tree → State → WorldState
first_run others clients own first device = record {
  minted = others ++ own ∷ [];
  first = first;
  server = server_core device.server;
  clients = clients ++ client_core device.own ∷ [];
  notes = [];
}

-- ---- what is noted of what a device does, the newest first

abbrev pub of_own : ℕ → Option Step → List Noted
of_own number None = []
of_own number (Some step) = by_client number false step.notes ∷ []

abbrev pub of_server : Option Step → List Noted
of_server None = []
of_server (Some step) = by_server step.notes ∷ []

-- of a round: the device's own step, its server's, and the device's again
abbrev pub noted : ℕ → Round → List Noted
noted number round = of_own number round.learnt ++ of_server round.served ++ of_own number (Some round.begun)

-- of a restart: the device's, and its server's
abbrev pub restarts : ℕ → List Noted
restarts number = by_client number false quiet ∷ by_server quiet ∷ []

-- ---- how runs go on

-- The run goes on by these steps of the device; no other client changes, and its server's rules and what it was granted stay.
pub record GoesOn (number : ℕ) (steps : List Noted) (v : WorldState) (device : State) : Type 0 where
  pub w : WorldState
  pub reached : IsReached w
  pub is_in : IsIn number device w
  pub notes : w.notes ≡ steps ++ v.notes
  pub minted : w.minted ≡ v.minted
  pub first : w.first ≡ v.first
  pub others : (other : ℕ) → other ≢ number → slice_get w.clients other ≡ slice_get v.clients other
  pub rules : w.server.rules ≡ v.server.rules
  pub desk : (before : ClientState) → slice_get v.clients number ≡ Some before → device.own.desk ≡ before.desk

-- so does each run that the device is in
abbrev pub AllGoOn : State → (ℕ → List Noted) → State → Type 0
AllGoOn old steps new = (number : ℕ) (v : WorldState) → IsReached v → IsIn number old v → GoesOn number (steps number) v new

-- ---- what is promised of them

-- Where what is assumed holds, there is one history; and where, besides, no two grants name a common path, each holder, the device as well,
-- is answered as if alone, up to the first answer that is for lack of memory or of room. Where contexts have a greatest age, each entry came
-- less than that after the post that made its context.
pub record KeepsItsPromises (w : WorldState) : Type 0 where
  pub one_history : Premise w.minted w.notes → OneHistory w
  pub young : AreYoung w
  pub own_answers : Premise w.minted w.notes → HaveOwnPaths (grants_of w.minted)
      → IsIsolated read_request w.server.rules.revoked (grants_of w.minted) w.first (history w.notes)

-- what the device learnt: its request was answered by this reply
abbrev pub IsTold : Round → Reply → Type 0
IsTold round reply = (step : Step) × (round.learnt ≡ Some step) × (step.notes.result ≡ Some (result.Answer reply))

-- In each run that the device is in and in which what is assumed holds, a reply that it learns is that of an entry of the history, for a
-- request that it asked.
abbrev pub IsOfAnEntry : State → Round → Type 0
IsOfAnEntry old round =
    (number : ℕ) (v : WorldState) (reply : Reply) → IsReached v → IsIn number old v → IsTold round reply
    → Premise v.minted (noted number round ++ v.notes)
    → (a : Acceptance) × (a.by ≡ number) × (a.reply ≡ reply) × IsReplyOfRequest (noted number round ++ v.notes) a
