-- A step of a world is one of its run.
use Rattle.std.proofs.Common.{◌≡◌, ℕ, List, [], ◌∷◌, ◌++◌, refl, ap, sym, ◌∙◌, subst, Option}
use Rattle.std.specs.Prelude.{slice_set, option_map}
use Rattle.std.proofs.lemmas.List.{map-set}
use Rattle.std.proofs.lemmas.Option.{slice_get-map}
use Rattle.osc_model.specs.Tree.{Tree}
use Rattle.osc_model.specs.declared.node.Moment.{Moment}
use Rattle.osc_ccm.specs.{Sealings, Tags}
use Rattle.osc_run.specs.{Noted, by_server, by_client, by_proxy, IsReached, WorldStep, OfServer as ByTheServer, OfClient as ByTheClient, OfProxy as ByTheProxy, Skipped, ClientState, Minted, WorldState}
use Rattle.osc_server.specs.{core as core_of_server}
use Rattle.osc_client.specs.{core as core_of_client}
use Rattle.osc_client.specs.State.{State as Client}
use Rattle.osc_world.specs.{LogState, IsKept, delivered, sent_by, steps_with, recorded, NodeStates, deed_of, Takes, State, Happens, Happen, run_with, world_of}
use Rattle.osc_world.specs.Inner.Kinds.{IsSkip, IsStep, OfNobody, OfServer, OfClient, OfProxy, Skips, Stays}
use Rattle.osc_world.specs.declared.event.Event.{Event}
use Rattle.osc_world.specs.declared.log.Record.{Record}
use Rattle.osc_world.specs.declared.log.SentDatagram.{SentDatagram}
use Rattle.osc_world.specs.declared.nodes.Placed.{Placed}
use Rattle.osc_world.specs.declared.nodes.StepTaken.{StepTaken}

pub leads : (v w : WorldState) → WorldStep v w → IsReached v → IsReached w
leads v w step reached = (v ∷ reached.0, (step, reached.1))

abbrev core_of : Placed Client → ClientState
core_of placed = core_of_client placed.node

pub goes_on : (minted : List Minted) (first : Tree) (old new : NodeStates) (steps : List Noted) (now : Moment) (taken : Option StepTaken)
    → IsStep now old taken new → IsReached (run_with minted first old steps) → IsReached (run_with minted first new (steps_with taken steps))
goes_on minted first old new steps now taken (OfNobody none same) reached =
    subst (λ t. IsReached (run_with minted first new (steps_with t steps))) (sym none)
    (subst (λ n. IsReached (run_with minted first n steps)) (sym same) reached)
goes_on minted first old new steps now taken (OfServer step server kind took is) reached =
    subst (λ t. IsReached (run_with minted first new (steps_with t steps))) (sym took)
    (subst (λ n. IsReached (run_with minted first n (by_server step.notes ∷ steps))) (sym is)
    (leads (run_with minted first old steps) (run_with minted first (record old { server = server }) (by_server step.notes ∷ steps))
    (ByTheServer now (core_of_server server) step.notes kind refl) reached))
goes_on minted first old new steps now taken (OfClient number lied before after step there kind took is) reached =
    subst (λ t. IsReached (run_with minted first new (steps_with t steps))) (sym took)
    (subst (λ n. IsReached (run_with minted first n (by_client number lied step.notes ∷ steps))) (sym is)
    (leads (run_with minted first old steps)
    (run_with minted first (record old { clients = slice_set old.clients number after }) (by_client number lied step.notes ∷ steps))
    (ByTheClient number lied (core_of before) (core_of after) step.notes
    (slice_get-map core_of old.clients number ∙ ap (option_map core_of) there)
    kind
    (λ j. record (run_with minted first old steps) { clients = map-set core_of old.clients number after j; notes = by_client number lied step.notes ∷ steps }))
    reached))
goes_on minted first old new steps now taken (OfProxy number before after step there kind took is) reached =
    subst (λ t. IsReached (run_with minted first new (steps_with t steps))) (sym took)
    (subst (λ n. IsReached (run_with minted first n (by_proxy number step.notes ∷ steps))) (sym is)
    (leads (run_with minted first old steps)
    (run_with minted first (record old { proxies = slice_set old.proxies number after }) (by_proxy number step.notes ∷ steps))
    (ByTheProxy number step.notes kind refl) reached))

pub reached_after : (minted : List Minted) (first : Tree) (old new : NodeStates) (steps same later : List Noted) (now : Moment) (taken : Option StepTaken)
    → IsStep now old taken new → same ≡ steps → later ≡ steps_with taken same
    → IsReached (run_with minted first old steps) → IsReached (run_with minted first new later)
reached_after minted first old new steps same later now taken step is more reached =
    subst (λ l. IsReached (run_with minted first new l)) (sym (more ∙ ap (steps_with taken) is)) (goes_on minted first old new steps now taken step reached)

pub skips_on : (minted : List Minted) (first : Tree) (old new : NodeStates) (steps : List Noted) (number : ℕ)
    → IsSkip number old new → IsReached (run_with minted first old steps) → IsReached (run_with minted first new steps)
skips_on minted first old new steps number (Stays same) reached = subst (λ n. IsReached (run_with minted first n steps)) (sym same) reached
skips_on minted first old new steps number (Skips before after there kind is) reached =
    subst (λ n. IsReached (run_with minted first n steps)) (sym is)
    (leads (run_with minted first old steps) (run_with minted first (record old { clients = slice_set old.clients number after }) steps)
    (Skipped number (core_of before) (core_of after) (slice_get-map core_of old.clients number ∙ ap (option_map core_of) there) kind
    (λ j. record (run_with minted first old steps) { clients = map-set core_of old.clients number after j }))
    reached)

pub happened : (is_sealing : Sealings) (tag : Tags) (self : State) (minted : List Minted) (first : Tree) (old new : NodeStates)
    (log same later : LogState) (event : Event) (taken : Option StepTaken)
    → world_of minted first old log ≡ self
    → same.sent ≡ log.sent → same.steps ≡ log.steps → same.records ≡ log.records
    → Takes is_sealing tag old (deed_of old same.sent event) taken new
    → IsKept same event.what taken later
    → Happens is_sealing tag self event (world_of minted first new later)
happened is_sealing tag self minted first old new log same later event taken is sent steps records takes kept =
    subst (λ s. Happens is_sealing tag s event (world_of minted first new later)) is
    (record {
      taken = taken;
      nodes = new;
      takes = subst (λ s. Takes is_sealing tag old (deed_of old s event) taken new) sent takes;
      is = λ j. record {
        minted = minted;
        first = first;
        nodes = new;
        sent = (kept.sent ∙ ap (λ s. delivered event.what s ++ sent_by taken) sent) j;
        steps = (kept.steps ∙ ap (steps_with taken) steps) j;
        records = (kept.records ∙ recorded_same same.sent log.sent same.steps log.steps same.records log.records taken sent steps records) j;
      };
    })
  where
    recorded_same : (sent sent' : List SentDatagram) (steps steps' : List Noted) (records records' : List Record) (taken : Option StepTaken)
        → sent ≡ sent' → steps ≡ steps' → records ≡ records'
        → records ++ recorded sent steps taken ∷ [] ≡ records' ++ recorded sent' steps' taken ∷ []
    recorded_same sent sent' steps steps' records records' taken s t r = λ j. r j ++ recorded (s j) (t j) taken ∷ []

-- one event more
pub happen_more : (is_sealing : Sealings) (tag : Tags) (old mid new : State) (events : List Event) (event : Event)
    → Happen is_sealing tag old events mid → Happens is_sealing tag mid event new → Happen is_sealing tag old (events ++ event ∷ []) new
happen_more is_sealing tag old mid new [] event is happens = (new, subst (λ m. Happens is_sealing tag m event new) is happens, refl)
happen_more is_sealing tag old mid new (first ∷ events) event h happens = (h.0, h.1, happen_more is_sealing tag h.0 mid new events event h.2 happens)
