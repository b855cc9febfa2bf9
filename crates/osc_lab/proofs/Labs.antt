-- What a lab's nodes did and told, one thing after another.
use Rattle.std.proofs.Common.{◌≡◌, ◌∙◌, ◌+◌, ◌<◌, ◌≤◌, ℕ, suc, Bool, true, false, List, [], ◌∷◌, ◌++◌, length, take, drop, get_or, Option, Some, None, Result, Ok, Err, IfErr, OnErr, OnOk, refl, ap, sym, subst, append_assoc, append-nil, add-one, arith}
use Rattle.std.proofs.lemmas.Grind.{flat_map-append}
use Rattle.std.proofs.lemmas.Bool.{ne_eqb}
use Rattle.std.proofs.Math.Seq.{take-suc}
use Rattle.std.proofs.lemmas.List.{map-set, set-get_or, take_all, take-append-drop}
use Rattle.std.proofs.lemmas.Option.{get_or_from_slice_get, same_Some, slice_get-map}
use Rattle.std.specs.Option.{IfSome}
use Rattle.std.specs.Prelude.{◌↔◌, ◌==◌, ◌||◌, IsErrAnd, IsTrue, map, option_map, slice_get, slice_set, option_to_list}
use Rattle.std.specs.Io.KnownBytes.{Appends}
use Rattle.std.specs.List.{list_all}
use Rattle.osc_client.specs.Hearing as hearing
use Rattle.osc_client.specs.{acts_at, core, IsStep as IsStepOfClient}
use Rattle.osc_client.specs.State.{State as Client}
use Rattle.osc_proxy.specs.State.{State as Proxy}
use Rattle.osc_proxy.specs.{IsStep as IsStepOfProxy, acts as proxy_acts}
use Rattle.osc_server.specs.{core as core_of_server, IsStep as IsStepOfServer, acts as server_acts}
use Rattle.osc_server.specs.State.{State as Server}
use Rattle.osc_model.specs.StepNotes.{StepNotes}
use Rattle.osc_model.specs.declared.request.Request.{Request}
use Rattle.osc_model.specs.declared.step.Datagram.{Datagram}
use Rattle.osc_model.specs.declared.step.Step.{Step}
use Rattle.osc_model.specs.declared.node.Draw.{Draw}
use Rattle.osc_model.specs.declared.node.Moment.{Moment}
use Rattle.osc_run.specs.{ClientStep, history, moment_of, Kept, Noted, by_client, by_proxy, by_server, IsReached, WorldStep, OfServer as ByTheServer, OfClient as ByTheClient, OfProxy as ByTheProxy, ClientState, Minted, WorldState}
use Rattle.osc_run.specs.Premise.{Premise}
use Rattle.osc_run.specs.declared.noted.Actor.{Actor}
use Rattle.osc_run.specs.declared.noted.Actor.TheVariants.{Client as ByClient, Proxy as ByProxy, Server as ByServer}
use Rattle.osc_script.specs.{IsScript}
use Rattle.osc_script.specs.declared.client_name.ClientName.{ClientName}
use Rattle.osc_script.specs.declared.line.Line.{Line}
use Rattle.osc_script.specs.declared.line.Line.TheVariants.{Exchange, Ask}
use Rattle.osc_turn.specs.{ClockAndRandomState, cause_of, grown}
use Rattle.osc_world.specs.{Ask as Asks, ClientTask, Do, NodeStates, Nothing, OfClient, Take, a_node}
use Rattle.osc_world.specs.declared.nodes.Placed.{Placed}
use Rattle.osc_world.specs.declared.nodes.Whose.{Whose}
use Rattle.osc_world.specs.declared.nodes.Whose.TheVariants as whose
use Rattle.osc_simulation.specs.{granted, name_of_number, is_sealing, tag_of, end_text}
use Rattle.osc_programs.specs.{IsFault}
use Rattle.osc_programs.specs.declared.ended.Ended.{Ended}
use Rattle.osc_lab.specs.Inner.Telling.{Begins as Began, BeginsBy, Did, DidAsked, DidOrStayed, IsUntold, LeadsTo, LearnsNothing, Stayed, Stops, Tells, TookOrStayed, TookTurn, did, idle, seen, stayed, took}
use Rattle.osc_lab.specs.{BreaksOff, EndsWith, Goes, HandsOver, Leads, Learnt, LineBegins, LiveLab, Ports, Rules, TakesTurns, TellsLine, TellsLines, ComesOf, Turn, Turns, TurnsAt, WholeTurn, WholeTurns, Prints, acts_of, all_told, begins, client_of, deed_of, is_used, is_waiting, learnt, learnt_by, named, next_turn, next_whole_turn, out_of, posted, rules_of, run_of, sent_by, stays, task_of, then_line, then_turn}
use Rattle.osc_lab.specs.Lab.{Lab}
use Rattle.osc_lab.specs.Network.{Network}
use Rattle.osc_lab.specs.Telling as telling
use Rattle.osc_lab.specs.Turning as turning
use Rattle.osc_lab.specs.declared.ports.PacedPort.{PacedPort}
use Rattle.osc_lab.proofs.Appended.{appends_more}
use Rattle.osc_lab.proofs.LabRuns.{leads_more}

-- ---- what was written

-- nothing more
pub appends_as : (a b : Option (List ℕ)) (some other : List ℕ) → some ≡ other → Appends a b some → Appends a b other
appends_as a b some other e p = subst (λ (bytes : List ℕ). Appends a b bytes) e p

pub all_told_more : (clients : List ClientName) (some more : List Learnt) → all_told clients (some ++ more) ≡ all_told clients some ++ all_told clients more
all_told_more clients some more = flat_map-append (telling.told_text clients) some more

-- ---- what was told

pub tells_none : (clients : List ClientName) (before after : List Learnt) (a b : Option (List ℕ)) → after ≡ before → Appends a b [] → Tells clients before after a b
tells_none clients before after a b e p = ([], e ∙ sym (append-nil before), p)

pub tells_more : (clients : List ClientName) (first between last : List Learnt) (a b c : Option (List ℕ)) → Tells clients first between a b → Tells clients between last b c
    → Tells clients first last a c
tells_more clients first between last a b c p q = (
  p.0 ++ q.0,
  q.1 ∙ ap (λ (all : List Learnt). all ++ q.0) p.1 ∙ append_assoc first p.0 q.0,
  appends_as a c (all_told clients p.0 ++ all_told clients q.0) _ (sym (all_told_more clients p.0 q.0)) (appends_more a b c _ _ p.2 q.2),
)

pub tells_as : (clients : List ClientName) (before before-is after after-is : List Learnt) (a b : Option (List ℕ)) → before ≡ before-is → after ≡ after-is → Tells clients before-is after-is a b
    → Tells clients before after a b
tells_as clients before before-is after after-is a b e f p = (p.0, f ∙ p.1 ∙ ap (λ (all : List Learnt). all ++ p.0) (sym e), p.2)

-- by one step
pub tells_one : (clients : List ClientName) (number : ℕ) (step : Step) (before after : List Noted) (a b : Option (List ℕ)) → after ≡ by_client number false step.notes ∷ before
    → Appends a b (all_told clients (option_to_list (learnt_by number step.notes.result))) → Tells clients (learnt before) (learnt after) a b
tells_one clients number step before after a b e p = (option_to_list (learnt_by number step.notes.result), ap learnt e, p)

-- ---- where it ends early

pub stops_at_once : (ended : Ended) (clients : List ClientName) (before after : List Learnt) (a b : Option (List ℕ)) → IsFault ended → after ≡ before → Appends a b []
    → Stops ended clients before after a b
stops_at_once ended clients before after a b fault e p = record {
  fault = fault;
  more = [];
  untold = None;
  learns = e ∙ sym (append-nil before);
  tells = λ n. p;
}

-- after all was told
pub stops_told : (ended : Ended) (clients : List ClientName) (before after : List Learnt) (a b : Option (List ℕ)) → IsFault ended → Tells clients before after a b
    → Stops ended clients before after a b
stops_told ended clients before after a b fault p = record {
  fault = fault;
  more = p.0;
  untold = None;
  learns = p.1 ∙ ap (λ (all : List Learnt). before ++ all) (sym (append-nil p.0));
  tells = λ n. p.2;
}

-- before the last result was
pub stops_untold : (ended : Ended) (clients : List ClientName) (number : ℕ) (step : Step) (before after : List Noted) (a b : Option (List ℕ))
    → after ≡ by_client number false step.notes ∷ before → IsUntold ended a b → Stops ended clients (learnt before) (learnt after) a b
stops_untold ended clients number step before after a b e p = record {
  fault = p.0;
  more = [];
  untold = learnt_by number step.notes.result;
  learns = ap learnt e;
  tells = p.1;
}

-- how that is where it ends so or goes on
pub stops_if : {T : Type 0} (r : Result T Ended) (clients : List ClientName) (number : ℕ) (notes : StepNotes) (before after : List Noted) (a b : Option (List ℕ))
    → after ≡ by_client number false notes ∷ before → IfErr r (λ ended. IsUntold ended a b) → IfErr r (λ ended. Stops ended clients (learnt before) (learnt after) a b)
stops_if (Ok done) clients number notes before after a b e p = tt
stops_if (Err ended) clients number notes before after a b e p = stops_untold ended clients number (record { out = []; notes = notes }) before after a b e p

pub stops_more : (ended : Ended) (clients : List ClientName) (first between last : List Learnt) (a b c : Option (List ℕ)) → Tells clients first between a b
    → Stops ended clients between last b c → Stops ended clients first last a c
stops_more ended clients first between last a b c p q = record {
  fault = q.fault;
  more = p.0 ++ q.more;
  untold = q.untold;
  learns = q.learns ∙ ap (λ (all : List Learnt). all ++ (q.more ++ option_to_list q.untold)) p.1 ∙ append_assoc first p.0 (q.more ++ option_to_list q.untold)
      ∙ ap (λ (all : List Learnt). first ++ all) (sym (append_assoc p.0 q.more (option_to_list q.untold)));
  tells = λ n. appends_as a c (all_told clients p.0 ++ all_told clients q.more) _ (sym (all_told_more clients p.0 q.more)) (appends_more a b c _ _ p.2 (q.tells n));
}

-- ---- where it halts

module _ {P : Type 0} (net : Network P) where
  pub halts_here : (live : LiveLab P) → LeadsTo net live live
  halts_here live = (live, stays, record { lab = refl; sent = refl })

  -- after steps
  pub halts_then : (first last : LiveLab P) → Leads net first last → LeadsTo net first last
  halts_then first last leads = (last, leads, record { lab = refl; sent = refl })

  pub halts_later : (first between last : LiveLab P) → Leads net first between → LeadsTo net between last → LeadsTo net first last
  halts_later first between last leads further = (further.0, leads_more net first between further.0 leads further.1, further.2)

  -- ---- the whole

  -- the outcome of the lines, and the last lines after it
  pub prints_by : (turns : ℕ) (lines : List Line) (first last : LiveLab P) (a b c : Option (List ℕ))
      → (text : List ℕ) × TellsLines net (rules_of turns lines) first lines text last × Appends a b text
      → (held : Bool) × (IsTrue held ↔ Premise last.lab.minted last.lab.steps) × Appends b c (end_text last.lab.nodes.server.tree (length (history last.lab.steps)) held)
      → (text : List ℕ) × Prints net turns lines first text last × Appends a c text
  prints_by turns lines first last a b c told ends = (
    told.0 ++ end_text last.lab.nodes.server.tree (length (history last.lab.steps)) ends.0,
    record { told = told.0; tells = told.1; held = ends.0; holds = ends.1; is = refl },
    appends_more a b c told.0 (end_text last.lab.nodes.server.tree (length (history last.lab.steps)) ends.0) told.2 ends.2,
  )

-- ---- what one node did

abbrev pub at : List Minted → NodeStates → List Noted → Lab
at minted nodes steps = record { minted = minted; nodes = nodes; steps = steps }

abbrev pub live_at : {P : Type 0} → List Minted → NodeStates → List Noted → Ports P → ClockAndRandomState → LiveLab P
live_at minted nodes steps ports supply = record { lab = at minted nodes steps; ports = ports; supply = supply }

abbrev pub with_node : {S : Type 0} → List (Placed S) → ℕ → Placed S → S → List (Placed S)
with_node all number placed node = slice_set all number (record { at = placed.at; node = node })

abbrev pub with_client : NodeStates → ℕ → Placed Client → Client → NodeStates
with_client nodes number placed client = record nodes { clients = with_node nodes.clients number placed client }

abbrev pub with_proxy : NodeStates → ℕ → Placed Proxy → Proxy → NodeStates
with_proxy nodes number placed proxy = record nodes { proxies = with_node nodes.proxies number placed proxy }

abbrev pub with_client_port : {P : Type 0} → Ports P → ℕ → PacedPort P → Ports P
with_client_port ports number port = record ports { clients = slice_set ports.clients number port }

abbrev pub with_proxy_port : {P : Type 0} → Ports P → ℕ → PacedPort P → Ports P
with_proxy_port ports number port = record ports { proxies = slice_set ports.proxies number port }

set_same : {A : Type 0} (all : List A) (number : ℕ) (item : A) → slice_get all number ≡ Some item → slice_set all number item ≡ all
set_same all number item there = ap (λ it. slice_set all number it) (sym (get_or_from_slice_get all number item item there)) ∙ set-get_or all number item

same_place : {S : Type 0} (all : List (Placed S)) (number : ℕ) (placed : Placed S) (node : S) → slice_get all number ≡ Some placed → node ≡ placed.node
    → with_node all number placed node ≡ all
same_place all number placed node there e =
    ap (λ n. with_node all number placed n) e ∙ set_same all number placed there

-- what is the same of one of these is of all
same_of_all : {A B : Type 0} (of : A → B) (all : List A) (number : ℕ) (old new : A) → slice_get all number ≡ Some old → of new ≡ of old
    → map of (slice_set all number new) ≡ map of all
same_of_all of all number old new there e =
    let known : slice_get (map of all) number ≡ Some (of old) = slice_get-map of all number ∙ ap (option_map of) there in
    map-set of all number new ∙ ap (λ item. slice_set (map of all) number item) (e ∙ sym (get_or_from_slice_get (map of all) number (of old) (of old) known))
    ∙ set-get_or (map of all) number (of old)

grown_none : {A : Type 0} (told : Option (List A)) → told ≡ grown told []
grown_none None = refl
grown_none (Some items) = ap Some (sym (append-nil items))

module _ {P : Type 0} (net : Network P) (minted : List Minted) (nodes : NodeStates) (steps : List Noted) (ports : Ports P) (supply : ClockAndRandomState) where
  -- nothing was done to what was lent
  pub halts_at_client_port : (number : ℕ) (port : PacedPort P) → slice_get ports.clients number ≡ Some port
      → LeadsTo net (live_at minted nodes steps ports supply) (live_at minted nodes steps (with_client_port ports number port) supply)
  halts_at_client_port number port had =
      subst (λ (all : List (PacedPort P)). LeadsTo net (live_at minted nodes steps ports supply) (live_at minted nodes steps (record ports { clients = all }) supply))
      (sym (set_same ports.clients number port had)) (halts_here net (live_at minted nodes steps ports supply))

  pub halts_at_proxy_port : (number : ℕ) (port : PacedPort P) → slice_get ports.proxies number ≡ Some port
      → LeadsTo net (live_at minted nodes steps ports supply) (live_at minted nodes steps (with_proxy_port ports number port) supply)
  halts_at_proxy_port number port had =
      subst (λ (all : List (PacedPort P)). LeadsTo net (live_at minted nodes steps ports supply) (live_at minted nodes steps (record ports { proxies = all }) supply))
      (sym (set_same ports.proxies number port had)) (halts_here net (live_at minted nodes steps ports supply))

  pub halts_at_client : (number : ℕ) (placed : Placed Client) → slice_get nodes.clients number ≡ Some placed
      → LeadsTo net (live_at minted nodes steps ports supply) (live_at minted (with_client nodes number placed placed.node) steps ports supply)
  halts_at_client number placed there =
      subst (λ (all : List (Placed Client)). LeadsTo net (live_at minted nodes steps ports supply) (live_at minted (record nodes { clients = all }) steps ports supply))
      (sym (set_same nodes.clients number placed there)) (halts_here net (live_at minted nodes steps ports supply))

next_reached : (old new : WorldState) → WorldStep old new → IsReached old → IsReached new
next_reached old new step reached = (old ∷ reached.0, (step, reached.1))

abbrev core_of : Placed Client → ClientState
core_of placed = core placed.node

module _ {P : Type 0} (net : Network P) (minted : List Minted) (nodes : NodeStates) (before after : List Noted) (ports : Ports P) (supply later : ClockAndRandomState) where
  abbrev earlier : LiveLab P
  earlier = live_at minted nodes before ports supply

  -- the server took a turn
  module _ (node : Server) (there : node ≡ nodes.server) (server : Server) (port : PacedPort P) where
    abbrev served : LiveLab P
    served = live_at minted (record nodes { server = server }) after (record ports { server = port }) later

    pub server_turned : (busy : Bool) → TookTurn net server_acts (IsStepOfServer is_sealing) ByServer busy (seen node ports.server supply before) (seen server port later after)
        → Turn net whose.Server busy earlier served
    server_turned busy t =
        let cause = cause_of t.took.now t.took.draw (option_map (named net.sockets) t.took.came) in
        let makes : IsStepOfServer is_sealing nodes.server cause t.step server =
        subst (λ (old : Server). IsStepOfServer is_sealing old cause t.step server) there t.took.makes in
        record {
          now = t.took.now;
          draw = t.took.draw;
          came = t.took.came;
          gives = t.took.gives;
          goes = record {
            taken = Some (record { at = nodes.server_at; noted = by_server t.step.notes; out = t.step.out });
            nodes = record nodes { server = server };
            takes = record { step = t.step; server = server; it_does = makes; taken_is = refl; is = refl };
            is = ap (λ (steps : List Noted). at minted (record nodes { server = server }) steps) t.steps;
            runs = λ first reached. next_reached (run_of first (at minted nodes before)) (run_of first (at minted (record nodes { server = server }) after))
                (ByTheServer (moment_of cause) (core_of_server server) t.step.notes makes.kind
                (λ j. record (run_of first (at minted nodes before)) { server = core_of_server server; notes = t.steps j })) reached;
          };
          port = ports.server;
          there = refl;
          after = port;
          at_port = t.took.turns;
          ports = refl;
          is_busy = t.took.is_busy;
        }

    pub server_leads : TookOrStayed net server_acts (IsStepOfServer is_sealing) ByServer (seen node ports.server supply before) (seen server port later after)
        → LeadsTo net earlier served
    server_leads (took busy t) = halts_then net earlier served (then_turn whose.Server busy earlier served stays (server_turned busy t))
    server_leads (stayed s) =
        let same : server ≡ nodes.server = s.node ∙ there in (
          earlier,
          stays,
          record {
            lab = λ j. at minted (record nodes { server = same j }) (s.steps j);
            sent = λ j. record (sent_by net ports) { server = s.sent j };
          },
        )

  -- the proxy of this number did
  module _ (number : ℕ) (placed : Placed Proxy) (there : slice_get nodes.proxies number ≡ Some placed) (proxy : Proxy) (was port : PacedPort P) (had : slice_get ports.proxies number ≡ Some was) where
    abbrev forwarded : LiveLab P
    forwarded = live_at minted (with_proxy nodes number placed proxy) after (with_proxy_port ports number port) later

    pub proxy_turned : (busy : Bool) → TookTurn net (λ state now. proxy_acts now state) IsStepOfProxy (ByProxy number) busy (seen placed.node was supply before) (seen proxy port later after)
        → Turn net (whose.Proxy number) busy earlier forwarded
    proxy_turned busy t =
        let acts : acts_of nodes (whose.Proxy number) t.took.now ≡ proxy_acts t.took.now placed.node =
        ap (λ (it : Option (Placed Proxy)). turning.acts_there (λ state now. proxy_acts now state) it t.took.now) there in
        record {
          now = t.took.now;
          draw = t.took.draw;
          came = t.took.came;
          gives = t.took.gives;
          goes = record {
            taken = Some (record { at = placed.at; noted = by_proxy number t.step.notes; out = t.step.out });
            nodes = with_proxy nodes number placed proxy;
            takes = (with_node nodes.proxies number placed proxy, a_node placed t.step proxy there t.took.makes refl refl, refl);
            is = ap (λ (steps : List Noted). at minted (with_proxy nodes number placed proxy) steps) t.steps;
            runs = λ first reached. next_reached (run_of first (at minted nodes before)) (run_of first (at minted (with_proxy nodes number placed proxy) after))
                (ByTheProxy number t.step.notes t.took.makes.kind (λ j. record (run_of first (at minted nodes before)) { notes = t.steps j })) reached;
          };
          port = was;
          there = had;
          after = port;
          at_port = subst (λ (due : Bool). TurnsAt net due t.took.now t.took.came t.step.out was port) (sym acts) t.took.turns;
          ports = refl;
          is_busy = t.took.is_busy;
        }

    pub proxy_leads : TookOrStayed net (λ state now. proxy_acts now state) IsStepOfProxy (ByProxy number) (seen placed.node was supply before) (seen proxy port later after)
        → LeadsTo net earlier forwarded
    proxy_leads (took busy t) = halts_then net earlier forwarded (then_turn (whose.Proxy number) busy earlier forwarded stays (proxy_turned busy t))
    proxy_leads (stayed s) =
        let all = same_of_all (λ (one : PacedPort P). net.sent one.port) ports.proxies number was port had s.sent in (
          earlier,
          stays,
          record {
            lab = λ j. at minted (record nodes { proxies = same_place nodes.proxies number placed proxy there s.node j }) (s.steps j);
            sent = λ j. record (sent_by net ports) { proxies = all j };
          },
        )

  -- the client of this number did something
  module _ (number : ℕ) (placed : Placed Client) (there : slice_get nodes.clients number ≡ Some placed) (client : Client) (was port : PacedPort P) (had : slice_get ports.clients number ≡ Some was) where
    abbrev asked_of : LiveLab P
    asked_of = live_at minted (with_client nodes number placed client) after (with_client_port ports number port) later

    abbrev goes_by : (task : ClientTask) (step : Step) → BeginsBy task placed.node step client → after ≡ by_client number false step.notes ∷ before
        → Goes (OfClient number task) (at minted nodes before) (at minted (with_client nodes number placed client) after)
    goes_by task step begun e = record {
      taken = Some (record { at = placed.at; noted = by_client number false step.notes; out = step.out });
      nodes = with_client nodes number placed client;
      takes = (
        with_node nodes.clients number placed client,
        a_node placed step client there begun.does
            (ap (λ (lied : Bool). Some (record { at = placed.at; noted = by_client number lied step.notes; out = step.out })) (sym begun.honest)) refl,
        refl,
      );
      is = ap (λ (steps : List Noted). at minted (with_client nodes number placed client) steps) e;
      runs = λ first reached. next_reached (run_of first (at minted nodes before)) (run_of first (at minted (with_client nodes number placed client) after))
          (ByTheClient number false (core placed.node) (core client) step.notes (slice_get-map core_of nodes.clients number ∙ ap (option_map core_of) there) begun.kind
          (λ j. record (run_of first (at minted nodes before)) {
            clients = map-set core_of nodes.clients number (record { at = placed.at; node = client }) j;
            notes = e j;
          })) reached;
    }

    abbrev goes_nowhere : client ≡ placed.node → after ≡ before → Goes Nothing (at minted nodes before) (at minted (with_client nodes number placed client) after)
    goes_nowhere e f =
        let same : at minted (with_client nodes number placed client) after ≡ at minted nodes before =
        λ j. at minted (record nodes { clients = same_place nodes.clients number placed client there e j }) (f j) in
        record {
          taken = None;
          nodes = with_client nodes number placed client;
          takes = record { taken_is = refl; is = λ j. record nodes { clients = same_place nodes.clients number placed client there e j } };
          is = ap (λ (steps : List Noted). at minted (with_client nodes number placed client) steps) f;
          runs = λ first reached. subst (λ (lab : Lab). IsReached (run_of first lab)) (sym same) reached;
        }

    pub client_turned : (busy : Bool) → TookTurn net acts_at (IsStepOfClient is_sealing) (ByClient number) busy (seen placed.node was supply before) (seen client port later after)
        → Turn net (whose.Client number) busy earlier asked_of
    client_turned busy t =
        let acts : acts_of nodes (whose.Client number) t.took.now ≡ acts_at placed.node t.took.now =
        ap (λ (it : Option (Placed Client)). turning.acts_there acts_at it t.took.now) there in
        let cause = cause_of t.took.now t.took.draw (option_map (named net.sockets) t.took.came) in
        record {
          now = t.took.now;
          draw = t.took.draw;
          came = t.took.came;
          gives = t.took.gives;
          goes = goes_by (Do (Take cause)) t.step (record { does = t.took.makes; honest = refl; kind = t.took.makes.kind }) t.steps;
          port = was;
          there = had;
          after = port;
          at_port = subst (λ (due : Bool). TurnsAt net due t.took.now t.took.came t.step.out was port) (sym acts) t.took.turns;
          ports = refl;
          is_busy = t.took.is_busy;
        }

    unmoved : Stayed net (seen placed.node was supply before) (seen client port later after) → LeadsTo net earlier asked_of
    unmoved s =
        let all = same_of_all (λ (one : PacedPort P). net.sent one.port) ports.clients number was port had s.sent in (
          earlier,
          stays,
          record {
            lab = λ j. at minted (record nodes { clients = same_place nodes.clients number placed client there s.node j }) (s.steps j);
            sent = λ j. record (sent_by net ports) { clients = all j };
          },
        )

    pub client_leads : TookOrStayed net acts_at (IsStepOfClient is_sealing) (ByClient number) (seen placed.node was supply before) (seen client port later after)
        → LeadsTo net earlier asked_of
    client_leads (took busy t) = halts_then net earlier asked_of (then_turn (whose.Client number) busy earlier asked_of stays (client_turned busy t))
    client_leads (stayed s) = unmoved s

    begun_by : (task : Option ClientTask) → Did net task number (seen placed.node was supply before) (seen client port later after)
        → (goes : Goes (deed_of number task) (at minted nodes before) (at minted (with_client nodes number placed client) after)) × HandsOver net (out_of goes.taken) was port
    begun_by None d = (
      goes_nowhere d.node d.steps,
      record {
        handed = ap (λ (one : PacedPort P). net.sent one.port) d.port ∙ grown_none (net.sent was.port);
        received = ap (λ (one : PacedPort P). net.received one.port) d.port;
        pace = ap (λ (one : PacedPort P). one.pace) d.port;
      },
    )
    begun_by (Some task) d = (goes_by task d.step d.begins d.steps, d.hands)

    pub client_began : (asked : Line) → DidAsked net asked number (seen placed.node was supply before) (seen client port later after) → LineBegins net asked number earlier asked_of
    client_began asked d =
        let begun = begun_by (task_of asked d.now d.draw) d.did in
        begins (record {
          now = d.now;
          draw = d.draw;
          gives = d.gives;
          goes = begun.0;
          port = was;
          there = had;
          after = port;
          hands = begun.1;
          ports = refl;
        })

    pub began_leads : (asked : Line) → DidOrStayed net asked number (seen placed.node was supply before) (seen client port later after) → LeadsTo net earlier asked_of
    began_leads asked (did d) = halts_then net earlier asked_of (then_line asked number earlier asked_of stays (client_began asked d))
    began_leads asked (idle s) = unmoved s

-- ---- a line

-- where nothing more could be told
pub stops_then : (ended : Ended) (clients : List ClientName) (before after : List Learnt) (a b c : Option (List ℕ)) → Tells clients before after a b → IsUntold ended b c
    → Stops ended clients before after a c
stops_then ended clients before after a b c p u = record {
  fault = u.0;
  more = p.0;
  untold = None;
  learns = p.1 ∙ ap (λ (all : List Learnt). before ++ all) (sym (append-nil p.0));
  tells = λ n. appends_as a c (all_told clients p.0 ++ []) _ (append-nil _) (appends_more a b c _ _ p.2 (u.1 n));
}

module _ {P : Type 0} (net : Network P) where
  pub line_told : (rules : Rules) (asked : Line) (number : ℕ) (old begun new : LiveLab P) (client : List ℕ) (waits : Bool) (a b c d : Option (List ℕ))
      → LineBegins net asked number old begun → Tells rules.clients (learnt old.lab.steps) (learnt begun.lab.steps) a b → TakesTurns net number rules.turns begun new
      → Tells rules.clients (learnt begun.lab.steps) (learnt new.lab.steps) b c
      → client ≡ name_of_number rules.clients number → waits ≡ is_waiting new.lab.nodes.clients number → Appends c d (telling.open_text client waits)
      → (text : List ℕ) × TellsLine net rules asked number old text new × Appends a d text
  line_told rules asked number old begun new client waits a b c d begun_is first taken then e f opens =
      let all = tells_more rules.clients _ _ _ a b c first then in (
        all_told rules.clients all.0 ++ telling.open_text (name_of_number rules.clients number) (is_waiting new.lab.nodes.clients number),
        record { begun = begun; begins = begun_is; takes = taken; more = all.0; learns = all.1; is = refl },
        appends_more a c d _ _ all.2
            (appends_as c d (telling.open_text client waits) _
            (ap (λ (name : List ℕ). telling.open_text name waits) e ∙ ap (λ (w : Bool). telling.open_text (name_of_number rules.clients number) w) f) opens),
      )

  -- ---- one after another

  pub one_more_turn : (who : ℕ → Whose) (first between last : LiveLab P) (n : ℕ) (some busy all : Bool) → all ≡ some || busy → Turns net who first n some between
      → Turn net (who n) busy between last → Turns net who first (n + 1) all last
  one_more_turn who first between last n some busy all e so_far turn =
      subst (λ (k : ℕ). Turns net who first k all last) (sym (add-one n))
      (subst (λ (any : Bool). Turns net who first (suc n) any last) (sym e) (next_turn n some busy between last so_far turn))

  pub one_more_whole : (number : ℕ) (first between last : LiveLab P) (n : ℕ) (busy : Bool) → WholeTurns net number first n between → WholeTurn net busy between last
      → (busy || is_waiting last.lab.nodes.clients number) ≡ true → WholeTurns net number first (n + 1) last
  one_more_whole number first between last n busy so_far whole goes_on =
      subst (λ (k : ℕ). WholeTurns net number first k last) (sym (add-one n)) (next_whole_turn n busy between last so_far whole goes_on)

  both_false : (a b : Bool) → (a || b) ≡ false → (a ≡ false) × (b ≡ false)
  both_false true b e = absurd cc
  both_false false b e = (refl, e)

  -- a last one, in which no node was busy, and after which the client waits for nothing
  pub quiet_at_last : (number most : ℕ) (first between last : LiveLab P) (n : ℕ) (busy : Bool) → n < most → WholeTurns net number first n between → WholeTurn net busy between last
      → (busy || is_waiting last.lab.nodes.clients number) ≡ false → TakesTurns net number most first last
  quiet_at_last number most first between last n busy lt so_far whole e =
      let idle = both_false busy (is_waiting last.lab.nodes.clients number) e in
      turning.rested n between lt so_far (subst (λ (some : Bool). WholeTurn net some between last) idle.0 whole) idle.1

  pub all_turns_taken : (number most n : ℕ) (first last : LiveLab P) → n ≤ most → most ≤ n → WholeTurns net number first n last → TakesTurns net number most first last
  all_turns_taken number most n first last le ge all =
      let same : n ≡ most = omega (arith, le, ge) in
      turning.all_taken (subst (λ (k : ℕ). WholeTurns net number first k last) same all)

  -- one line more
  pub one_more_line : (rules : Rules) (first between last : LiveLab P) (lines : List Line) (i : ℕ) (d next : Line) (a b c : Option (List ℕ))
      → i < length lines → next ≡ get_or lines i d
      → (text : List ℕ) × TellsLines net rules first (take i lines) text between × Appends a b text
      → (text : List ℕ) × ComesOf net rules next (client_of next) between text last × Appends b c text
      → (text : List ℕ) × TellsLines net rules first (take (i + 1) lines) text last × Appends a c text
  one_more_line rules first between last lines i d next a b c lt e p q =
      let more = telling.next_line (take i lines) next p.0 q.0 between last p.1 q.1 in
      let same : take (i + 1) lines ≡ take i lines ++ next ∷ [] = rw (add-one i, take-suc lines i d lt, e) refl in (
        p.0 ++ q.0,
        subst (λ (all : List Line). TellsLines net rules first all (p.0 ++ q.0) last) (sym same) more,
        appends_more a b c p.0 q.0 p.2 q.2,
      )

  -- all of them
  pub all_lines : (turns : ℕ) (clients : List ClientName) (lines : List Line) (i : ℕ) (first last : LiveLab P) (a b : Option (List ℕ)) → clients ≡ granted lines → length lines ≤ i
      → (text : List ℕ) × TellsLines net (record { clients = clients; turns = turns }) first (take i lines) text last × Appends a b text
      → (text : List ℕ) × TellsLines net (rules_of turns lines) first lines text last × Appends a b text
  all_lines turns clients lines i first last a b e le p = (
    p.0,
    subst (λ (names : List ClientName). TellsLines net (record { clients = names; turns = turns }) first lines p.0 last) e
        (subst (λ (all : List Line). TellsLines net (record { clients = clients; turns = turns }) first all p.0 last) (take_all i lines le) p.1),
    p.2,
  )

  -- in these lines it ends early
  pub stops_in : (ended : Ended) (turns : ℕ) (clients : List ClientName) (lines : List Line) (i : ℕ) (first between last : LiveLab P) (a b c : Option (List ℕ))
      → clients ≡ granted lines → (text : List ℕ) × TellsLines net (record { clients = clients; turns = turns }) first (take i lines) text between × Appends a b text
      → LeadsTo net between last → Stops ended clients (learnt between.lab.steps) (learnt last.lab.steps) b c → EndsWith (λ text. BreaksOff net turns lines first text last) ended a c
  stops_in ended turns clients lines i first between last a b c e p leads q = (
    q.fault,
    p.0 ++ all_told (granted lines) q.more,
    record {
      before = take i lines;
      after = drop i lines;
      whole = sym (take-append-drop i lines);
      told = p.0;
      between = between;
      tells = subst (λ (names : List ClientName). TellsLines net (record { clients = names; turns = turns }) first (take i lines) p.0 between) e p.1;
      reached = leads.0;
      leads = leads.1;
      halts = leads.2;
      more = q.more;
      untold = q.untold;
      learns = q.learns;
      is = refl;
    },
    λ n. subst (λ (names : List ClientName). Appends a c (p.0 ++ all_told names q.more)) e (appends_more a b c _ _ p.2 (q.tells n)),
  )

  -- the last lines can't be told
  pub stops_at_end : (ended : Ended) (turns : ℕ) (lines : List Line) (first last : LiveLab P) (a b c : Option (List ℕ))
      → (text : List ℕ) × TellsLines net (rules_of turns lines) first lines text last × Appends a b text → IsUntold ended b c
      → EndsWith (λ text. BreaksOff net turns lines first text last) ended a c
  stops_at_end ended turns lines first last a b c p u = (
    u.0,
    p.0 ++ [],
    record {
      before = lines;
      after = [];
      whole = sym (append-nil lines);
      told = p.0;
      between = last;
      tells = p.1;
      reached = last;
      leads = stays;
      halts = record { lab = refl; sent = refl };
      more = [];
      untold = None;
      learns = sym (append-nil (learnt last.lab.steps));
      is = refl;
    },
    λ n. appends_more a b c p.0 [] p.2 (u.1 n),
  )

-- ---- exits

pub at_exit : {T : Type 0} (r : Result T Ended) (ended : Ended) (Q : Ended → Type 0) → IsErrAnd r (λ e. e ≡ ended) → Q ended → IfErr r Q
at_exit (Ok x) ended Q e q = tt
at_exit (Err e) ended Q is q = subst Q (sym is) q

pub always_ok : {T E : Type 0} (r : Result T E) (P : Type 0) → P → OnOk r P
always_ok (Ok x) P p = p
always_ok (Err e) P p = tt

pub always_err : {T E : Type 0} (r : Result T E) (P : Type 0) → P → OnErr r P
always_err (Ok x) P p = tt
always_err (Err e) P p = p

-- ---- what is noted

pub noted_steps : (kept : Kept) (one is : Noted) (between before : List Noted) (room : ℕ) → kept ≡ record { steps = one ∷ between; room = room } → one ≡ is → between ≡ before
    → kept.steps ≡ is ∷ before
noted_steps kept one is between before room e f h =
    ap (λ (k : Kept). k.steps) e ∙ ap (λ (n : Noted). n ∷ between) f ∙ ap (λ (all : List Noted). is ∷ all) h

pub noted_later : (after between before : List Noted) (one : Noted) → after ≡ one ∷ between → between ≡ before → after ≡ one ∷ before
noted_later after between before one e f = e ∙ ap (λ (all : List Noted). one ∷ all) f

pub nothing_learnt : (after before : List Noted) → after ≡ before → learnt after ≡ learnt before
nothing_learnt after before e = ap (λ (all : List Noted). learnt all) e

-- a step of an actor that teaches nothing
pub taught_nothing : (actor : Actor) (notes : StepNotes) (between before after : List Noted) → LearnsNothing actor
    → after ≡ record { actor = actor; lied = false; notes = notes } ∷ between → between ≡ before → learnt after ≡ learnt before
taught_nothing actor notes between before after nothing e f =
    ap learnt (e ∙ ap (λ (all : List Noted). record { actor = actor; lied = false; notes = notes } ∷ all) f)
    ∙ ap (λ (one : Option Learnt). learnt before ++ option_to_list one) (nothing notes.result) ∙ append-nil (learnt before)

-- ---- what a client did

-- by a line that has it exchange
pub does_exchange : (asked : Line) (name : ClientName) (old new : Client) (now : Moment) (draw : Draw) (step : Step) → asked ≡ Exchange name
    → hearing.Begins old now draw step new → ClientStep false (core old) step.notes (core new) → Began (task_of asked now draw) old (Some step) new
does_exchange asked name old new now draw step is does kind =
    subst (λ (line : Line). Began (task_of line now draw) old (Some step) new) (sym is) (step, refl, record { does = does; honest = refl; kind = kind })

-- by one that has it ask
pub does_ask : (asked : Line) (name : ClientName) (request : Request) (old new : Client) (now : Moment) (draw : Draw) (step : Step) → asked ≡ Ask name request
    → 0 < request.code.0
    → hearing.Requests is_sealing tag_of old (record { at = now; draw = draw; request = request }) step new → ClientStep false (core old) step.notes (core new)
    → Began (task_of asked now draw) old (Some step) new
does_ask asked name request old new now draw step is code does kind =
    let some : (request.code.0 == 0) ≡ false = ne_eqb request.code.0 0 (λ none. omega (arith, none, code)) in
    let task : task_of (Ask name request) now draw ≡ Some (Asks (record { at = now; draw = draw; request = request })) = rw some refl in
    subst (λ (line : Line). Began (task_of line now draw) old (Some step) new) (sym is)
    (subst (λ (t : Option ClientTask). Began t old (Some step) new) (sym task) (step, refl, record { does = does; honest = refl; kind = kind }))

module _ {P : Type 0} (net : Network P) (number : ℕ) (old new : Client) (supply later : ClockAndRandomState) (before after : List Noted) where
  pub began : (between : List Noted) (task : Option ClientTask) (made : Option Step) (step : Step) (was port : PacedPort P) → made ≡ Some step → Began task old made new → HandsOver net step.out was port
      → after ≡ by_client number false step.notes ∷ between → between ≡ before → Did net task number (seen old was supply before) (seen new port later after)
  began between None made step was port is begun hands e f = let bad : None ≡ Some step = sym begun.0 ∙ is in absurd (cc)
  began between (Some task) made step was port is begun hands e f =
      let same : begun.0 ≡ step = same_Some begun.0 step (sym begun.1 ∙ is) in
      record { step = step; begins = subst (λ (s : Step). BeginsBy task old s new) same begun.2; hands = hands; steps = noted_later after between before _ e f }

  pub not_begun : (task : Option ClientTask) (made : Option Step) (was : PacedPort P) → made ≡ None → Began task old made new → after ≡ before
      → Did net task number (seen old was supply before) (seen new was later after)
  not_begun None made was is begun e = record { node = begun.1; port = refl; steps = e }
  not_begun (Some task) made was is begun e = let bad : None ≡ Some begun.0 = sym is ∙ begun.1 in absurd (cc)

-- what was sent beside a turn
pub hands_over : {P : Type 0} (net : Network P) (was : PacedPort P) (port : P) (out shown : List Datagram) → net.sent port ≡ grown (net.sent was.port) (map (posted net.sockets) shown)
    → shown ≡ out → net.received port ≡ net.received was.port → HandsOver net out was (record was { port = port })
hands_over net was port out shown e is f = record {
  handed = e ∙ ap (λ (all : List Datagram). grown (net.sent was.port) (map (posted net.sockets) all)) is;
  received = f;
  pace = refl;
}

-- ---- the script

pub printed_by : (Printed : List Line → Type 0) (script : Option (List ℕ)) (lines : List Line) → IfSome script (λ bytes. IsScript bytes lines) → list_all is_used lines ≡ true
    → Printed lines → IfSome script (λ bytes. (all : List Line) × IsScript bytes all × (list_all is_used all ≡ true) × Printed all)
printed_by Printed None lines says used prints = tt
printed_by Printed (Some bytes) lines says used prints = (lines, says, used, prints)

pub uses : (script : Option (List ℕ)) (lines : List Line) → IfSome script (λ bytes. IsScript bytes lines) → list_all is_used lines ≡ true
    → IfSome script (λ bytes. IsScript bytes lines × (list_all is_used lines ≡ true))
uses None lines says used = tt
uses (Some bytes) lines says used = (says, used)
