-- A device by calls.
use Rattle.std.specs.Prelude.{◌≡◌, ℕ, ◌⊎◌, Bool, true, false, bytes_eq, ◌↔◌, ◌≤◌, List, [], ◌∷◌, ◌++◌}
use Rattle.osc_model.specs.{v4_prefix}
use Rattle.osc_model.specs.Arrival.{Arrival}
use Rattle.osc_model.specs.declared.node.Draw.{Draw}
use Rattle.osc_model.specs.declared.node.Moment.{Moment}
use Rattle.osc_model.specs.declared.node.Peer.{Peer}
use Rattle.osc_model.specs.declared.step.Step.{Step}
use Rattle.osc_message.specs.{after_tick, fresh_with}
use Rattle.osc_ccm.specs.{Sealings}
use Rattle.osc_client.specs.{acts_at, restarted, IsStep as IsOwnStep}
use Rattle.osc_client.specs.State.{State as Own}
use Rattle.osc_server.specs.{IsStep}
use Rattle.osc_device.specs.{Carries, AllGoOn, IsOfAnEntry, ServerTakesMemory, noted, restarts}
use Rattle.osc_device.specs.State.{State}
use Rattle.osc_run.specs.{Came, Due, by_server}
use Rattle.osc_turn.specs.Kept.{IsChangeOf}
use Rattle.osc_device.specs.declared.round.Round.{Round}
use Rattle.osc_c.specs.Ends.{At, DueAt, Stays}
use Rattle.osc_c.specs.Given.{GivenDatagram, came_at}
use Rattle.osc_c.specs.Last.{entry_in, nothing, since, since_tick}
use Rattle.osc_c.specs.declared.calls.device.DeviceNode.{DeviceNode}
use Rattle.osc_c.specs.declared.calls.outcome.Outcome.{Outcome}
use Rattle.osc_c.specs.declared.calls.outcome.Outcome.TheVariants.{BadArgument, Done, Nothing}

-- the server starts again without contexts, and the device itself without its own
abbrev pub restarted_device : State → State
restarted_device old = record {
  server = record old.server { desk = record old.server.desk { table = [] }; endpoint = fresh_with old.server.endpoint.pace.more };
  own = restarted old.own;
}

-- it starts again so, and each run goes on by that
abbrev pub Restarts : DeviceNode → DeviceNode → Type 0
Restarts old new = (new ≡ record { device = restarted_device old.device; last = nothing }) × ((now : Moment) → AllGoOn old.device restarts new.device)

-- 0.0.0.0, from which no datagram comes: the device's own place
abbrev pub is_nowhere : Peer → Bool
is_nowhere from = bytes_eq from.address (v4_prefix ++ 0 ∷ 0 ∷ 0 ∷ 0 ∷ [])

-- so, unless it came from nowhere: then nothing changes
abbrev pub UnlessNowhere : Bool → DeviceNode → Outcome → DeviceNode → Type 0 → Type 0
UnlessNowhere true old outcome new Does = Stays BadArgument old outcome new
UnlessNowhere false old outcome new Does = Does

-- `is_sealing algorithm` is the relation of the algorithm's cipher
module _ (is_sealing : Sealings) where
  -- The server hears these bytes, and its step is the last one; the device itself isn't changed by it. Each run goes on by that step. Of its resources
  -- that of the path alone has changed which the step says.
  pub record HeardAt (old : DeviceNode) (came : Arrival (List ℕ)) (new : DeviceNode) : Type 0 where
    pub step : Step
    pub is_step : IsStep is_sealing old.device.server (Came came) step new.device.server
    pub own : new.device.own ≡ old.device.own
    pub last : new.last ≡ since step
    pub run : AllGoOn old.device (λ number. by_server step.notes ∷ []) new.device
    pub change : IsChangeOf step.notes.served old.device.server.tree new.device.server.tree

  -- What the server doesn't answer takes no memory.
  abbrev pub HeardBy : DeviceNode → GivenDatagram → Draw → Outcome → DeviceNode → Type 0
  HeardBy old given draw outcome new =
      UnlessNowhere (is_nowhere given.from) old outcome new
      (At given.ms old outcome new (λ now. ServerTakesMemory old.device.server (came_at given now draw)) (λ now. HeardAt old (came_at given now draw) new))

  -- The device itself ticks, what it sends is carried to its server and back, and nothing goes to others; what it learns is kept to be told. Each
  -- run goes on by these steps, and a reply that it learns is that of an entry of the history. Of its resources that of the path alone has changed which the
  -- server's step says.
  pub record TickedAt (old : DeviceNode) (now : Moment) (server_draw : Draw) (lost : Bool) (new : DeviceNode) : Type 0 where
    pub round : Round
    pub loses : round.begun.notes.lost ≡ lost
    pub ticked : Own
    pub ticks : (draw : Draw) → IsOwnStep is_sealing old.device.own (Due now draw) round.begun ticked
    pub carries : Carries is_sealing (record { server = record old.device.server { endpoint = after_tick now old.device.server.endpoint }; own = ticked })
        now server_draw round new.device
    pub last : new.last ≡ since_tick round
    pub run : AllGoOn old.device (λ number. noted number round) new.device
    pub entry : IsOfAnEntry old.device round
    pub change : IsChangeOf (entry_in round.served) old.device.server.tree new.device.server.tree

  abbrev pub TickedBy : DeviceNode → ℕ → Draw → Outcome → DeviceNode → Type 0
  TickedBy old ms draw outcome new = DueAt ms old outcome new (λ now lost. TickedAt old now draw lost new)

-- the first moment is told at which a tick does anything for the device itself, if one does
abbrev pub TellsDeadline : DeviceNode → ℕ → Outcome → ℕ → Type 0
TellsDeadline node old outcome new =
    ((outcome ≡ Done) × ((now : Moment) → (acts_at node.device.own now ≡ true) ↔ (new ≤ now.ms)))
    ⊎ ((outcome ≡ Nothing) × (new ≡ old) × ((now : Moment) → acts_at node.device.own now ≡ false))
