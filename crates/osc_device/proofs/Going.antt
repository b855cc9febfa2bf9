-- The runs that a device is in go on with what it does.
use Rattle.std.proofs.Common.{◌≡◌, ◌∙◌, ap, sym, refl, subst, ℕ, false, List, [], ◌∷◌, ◌++◌, Option, Some, Result, Ok, Err}
use Rattle.std.specs.Prelude.{IfOk, OnErr}
use Rattle.std.specs.declared.alloc.AllocError.{AllocError}
use Rattle.std.specs.Prelude.{slice_get, slice_set}
use Rattle.std.proofs.lemmas.List.{append_assoc}
use Rattle.std.proofs.lemmas.Option.{same_Some}
use Rattle.osc_model.specs.Arrival.{Arrival}
use Rattle.osc_model.specs.StepNotes.{StepNotes}
use Rattle.osc_model.specs.declared.node.Draw.{Draw}
use Rattle.osc_model.specs.declared.node.Moment.{Moment}
use Rattle.osc_model.specs.declared.step.Datagram.{Datagram}
use Rattle.osc_model.specs.declared.step.Step.{Step}
use Rattle.osc_ccm.specs.{Sealings}
use Rattle.osc_client.specs.{core as client_core}
use Rattle.osc_client.specs.State.{State as Client}
use Rattle.osc_server.specs.{core as server_core, Hears as ServerHears}
use Rattle.osc_server.specs.State.{State as Server}
use Rattle.osc_run.specs.{ClientStep, ServerStep, Noted, by_client, by_server, IsReached, WorldStep, ClientState, ServerState, WorldState}
use Rattle.osc_run.specs.Runs as run
use Rattle.osc_device.specs.{Carries, ComesBack, HandsOut, HasHeard, Reaches, ServerTakesMemory, at_server, AllGoOn, GoesOn, IsIn, noted, of_own, of_server}
use Rattle.osc_device.specs.State.{State}
use Rattle.osc_device.specs.declared.round.Round.{Round}
use Rattle.osc_device.proofs.Carried.{desk_kept}
use Rattle.osc_device.proofs.Slots.{got_back, others_stay}

-- a run goes on by one step
more : (v w : WorldState) → IsReached v → WorldStep v w → IsReached w
more v w reached step = (v ∷ reached.0, (step, reached.1))

abbrev pub device : Server → Client → State
device server own = record { server = server; own = own }

-- ---- what stays

-- the client of this number is the one that is there
there : (number : ℕ) (v : WorldState) (own before : ClientState) → slice_get v.clients number ≡ Some own → slice_get v.clients number ≡ Some before → own.desk ≡ before.desk
there number v own before is other = ap (λ (c : ClientState). c.desk) (same_Some _ _ (sym is ∙ other))

-- the rules of contexts
rules_kept : (old new : ServerState) (now : Moment) (notes : StepNotes) → ServerStep old now notes new → new.rules ≡ old.rules
rules_kept old new now notes (ServerStep.ServerIdle is) = is.rules
rules_kept old new now notes (ServerStep.Posted is) = is.rules
rules_kept old new now notes (ServerStep.Served is) = is.rules
rules_kept old new now notes (ServerStep.ServerRestarted is) = ap (λ (s : ServerState). s.rules) is.is

pub same_rules : (is_sealing : Sealings) (old new : Server) (sent : Arrival (List Datagram)) (step : Option Step) → Reaches is_sealing old sent step new
    → new.desk.rules ≡ old.desk.rules
same_rules is_sealing old new sent step (Reaches.lost nothing lost) = ap (λ (s : Server). s.desk.rules) lost.1
same_rules is_sealing old new sent step (Reaches.heard one made only some is) = rules_kept (server_core old) (server_core new) sent.at made.notes is.kind

-- ---- each step of the device

pub of_nothing : (number : ℕ) (v : WorldState) (d : State) → IsReached v → IsIn number d v → GoesOn number [] v d
of_nothing number v d reached is_in = record {
  w = v;
  reached = reached;
  is_in = is_in;
  notes = refl;
  minted = refl;
  first = refl;
  others = λ other apart. refl;
  rules = refl;
  desk = λ before is. there number v (client_core d.own) before is_in.own is;
}

pub of_client_step : (number : ℕ) (v : WorldState) (server : Server) (old new : Client) (notes : StepNotes)
    → IsReached v → IsIn number (device server old) v → ClientStep false (client_core old) notes (client_core new)
    → GoesOn number (by_client number false notes ∷ []) v (device server new)
of_client_step number v server old new notes reached is_in kind =
    let after : ClientState = client_core new in
    let w : WorldState = record v { clients = slice_set v.clients number after; notes = by_client number false notes ∷ v.notes } in record {
      w = w;
      reached = more v w reached (run.WorldStep.OfClient number false (client_core old) after notes is_in.own kind refl);
      is_in = record { server = is_in.server; own = got_back v.clients number (client_core old) after is_in.own };
      notes = refl;
      minted = refl;
      first = refl;
      others = λ other apart. others_stay v.clients number after other apart;
      rules = refl;
      desk = λ before is. desk_kept notes (client_core old) after kind ∙ there number v (client_core old) before is_in.own is;
    }

pub of_server_step : (number : ℕ) (v : WorldState) (old new : Server) (own : Client) (now : Moment) (notes : StepNotes)
    → IsReached v → IsIn number (device old own) v → ServerStep (server_core old) now notes (server_core new)
    → GoesOn number (by_server notes ∷ []) v (device new own)
of_server_step number v old new own now notes reached is_in kind =
    let after : ServerState = server_core new in
    let w : WorldState = record v { server = after; notes = by_server notes ∷ v.notes } in record {
      w = w;
      reached = more v w reached
          (run.WorldStep.OfServer now after notes (subst (λ (s : ServerState). ServerStep s now notes after) (sym is_in.server) kind) refl);
      is_in = record { server = refl; own = is_in.own };
      notes = refl;
      minted = refl;
      first = refl;
      others = λ other apart. refl;
      rules = rules_kept (server_core old) after now notes kind ∙ sym (ap (λ (s : ServerState). s.rules) is_in.server);
      desk = λ before is. there number v (client_core own) before is_in.own is;
    }

-- ---- one after another

pub then : (number : ℕ) (steps later : List Noted) (v : WorldState) (middle last : State)
    → (first : GoesOn number steps v middle) → GoesOn number later first.w last → GoesOn number (later ++ steps) v last
then number steps later v middle last first second = record {
  w = second.w;
  reached = second.reached;
  is_in = second.is_in;
  notes = second.notes ∙ ap (λ (ns : List Noted). later ++ ns) first.notes ∙ sym (append_assoc later steps v.notes);
  minted = second.minted ∙ first.minted;
  first = second.first ∙ first.first;
  others = λ other apart. second.others other apart ∙ first.others other apart;
  rules = second.rules ∙ first.rules;
  desk = λ before is. second.desk (client_core middle.own) first.is_in.own ∙ first.desk before is;
}

-- ---- a round

module _ (is_sealing : Sealings) where
  reached_server : (number : ℕ) (v : WorldState) (old new : Server) (own : Client) (sent : Arrival (List Datagram)) (step : Option Step)
      → Reaches is_sealing old sent step new → IsReached v → IsIn number (device old own) v
      → GoesOn number (of_server step) v (device new own)
  reached_server number v old new own sent step (Reaches.lost nothing lost) reached is_in =
      subst (λ (s : Option Step). GoesOn number (of_server s) v (device new own)) (sym lost.0)
      (subst (λ (s : Server). GoesOn number [] v (device s own)) (sym lost.1) (of_nothing number v (device old own) reached is_in))
  reached_server number v old new own sent step (Reaches.heard one made only some is) reached is_in =
      subst (λ (s : Option Step). GoesOn number (of_server s) v (device new own)) (sym some)
      (of_server_step number v old new own sent.at made.notes reached is_in is.kind)

  came_back : (number : ℕ) (v : WorldState) (server : Server) (old new : Client) (now : Moment) (draw : Draw) (served step : Option Step)
      → ComesBack is_sealing old now served step new → IsReached v → IsIn number (device server old) v
      → GoesOn number (of_own number step) v (device server new)
  came_back number v server old new now draw served step (ComesBack.lost nothing lost) reached is_in =
      subst (λ (s : Option Step). GoesOn number (of_own number s) v (device server new)) (sym lost.0)
      (subst (λ (c : Client). GoesOn number [] v (device server c)) (sym lost.1) (of_nothing number v (device server old) reached is_in))
  came_back number v server old new now draw served step (ComesBack.heard answer one made some only told steps) reached is_in =
      subst (λ (s : Option Step). GoesOn number (of_own number s) v (device server new)) (sym told)
      (of_client_step number v server old new made.notes reached is_in (steps draw).kind)

  pub of_round : (number : ℕ) (v : WorldState) (old : Client) (between : State) (now : Moment) (draw : Draw) (round : Round) (new : State)
      → IsReached v → IsIn number (device between.server old) v
      → ClientStep false (client_core old) round.begun.notes (client_core between.own)
      → Carries is_sealing between now draw round new
      → GoesOn number (noted number round) v new
  of_round number v old between now draw round new reached is_in kind carries =
      let server = between.server in
      let begun = between.own in
      let first = of_client_step number v server old begun round.begun.notes reached is_in kind in
      let second = reached_server number first.w server new.server begun (at_server now draw round.begun.out) round.served carries.reaches first.reached first.is_in in
      let third = came_back number second.w new.server begun new.own now draw round.served round.learnt carries.comes_back second.reached second.is_in in
      then number (of_own number (Some round.begun)) (of_own number round.learnt ++ of_server round.served) v (device server begun) new first
      (then number (of_server round.served) (of_own number round.learnt) first.w (device new.server begun) new second third)

-- ---- what comes from others, and a restart

abbrev HeardLaw : Type 0
HeardLaw = (old new : State) (now : Moment) (notes : StepNotes)
    → ServerStep (server_core old.server) now notes (server_core new.server) → new.own ≡ old.own → AllGoOn old (λ number. by_server notes ∷ []) new

-- what its server did is a step, and a part of each run
pub heard : (is_sealing : Sealings) → HeardLaw → (old : State) (inside new : Server) (own : Client) (came : Arrival (List ℕ)) (result : Result Step AllocError)
    → device inside own ≡ old → IfOk result (λ step. ServerHears is_sealing inside came step new)
    → IfOk result (λ step. ServerStep (server_core inside) came.at step.notes (server_core new))
    → OnErr result (new ≡ inside) → OnErr result (ServerTakesMemory inside came)
    → HandsOut {E = AllocError} (HasHeard is_sealing old came) (ServerTakesMemory old.server came) old result (device new own)
heard is_sealing law old inside new own came (Ok step) is hears kind err needs_memory =
    subst (λ (o : State). HandsOut {E = AllocError} (HasHeard is_sealing o came) (ServerTakesMemory o.server came) o (Ok step) (device new own)) is (
      record { made = record { makes = hears; kind = kind }; own = refl; run = law (device inside own) (device new own) came.at step.notes kind refl },
      tt,
    )
heard is_sealing law old inside new own came (Err error) is hears kind err needs_memory =
    subst (λ (o : State). HandsOut {E = AllocError} (HasHeard is_sealing o came) (ServerTakesMemory o.server came) o (Err error) (device new own)) is
    (tt, (ap (λ (s : Server). device s own) err, needs_memory))
