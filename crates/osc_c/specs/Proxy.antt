-- A proxy by calls.
use Rattle.std.specs.Prelude.{◌≡◌, ℕ, ◌-◌, ◌⊎◌, Bool, true, false, ◌↔◌, ◌≤◌, List, [], ◌∷◌, ◌++◌, ⊤}
use Rattle.osc_model.specs.Arrival.{Arrival}
use Rattle.osc_model.specs.declared.node.Draw.{Draw}
use Rattle.osc_model.specs.declared.node.Moment.{Moment}
use Rattle.osc_model.specs.declared.step.Step.{Step}
use Rattle.osc_message.specs.{fresh_with}
use Rattle.osc_client.specs.{IsHost}
use Rattle.osc_proxy.specs.{none_open, Hears, restarted, acts}
use Rattle.osc_proxy.specs.Hearing.{MayBeAnswered}
use Rattle.osc_proxy.specs.State.{State}
use Rattle.osc_proxy.specs.Ticks.{Ticks}
use Rattle.osc_proxy.specs.declared.targets.Target.{Target}
use Rattle.osc_c.specs.Ends.{At, IsDue, IsNoMoment, Stays}
use Rattle.osc_c.specs.Given.{GivenDatagram, came_at}
use Rattle.osc_c.specs.Last.{since}
use Rattle.osc_c.specs.Settings.{SettingsState}
use Rattle.osc_c.specs.declared.calls.outcome.Outcome.{Outcome}
use Rattle.osc_c.specs.declared.calls.outcome.Outcome.TheVariants.{BadArgument, Done, NoMemory, NotNow, Nothing}
use Rattle.osc_c.specs.declared.calls.proxy.Forwarding.{Forwarding}
use Rattle.osc_c.specs.declared.calls.proxy.Forwarding.TheVariants.{Setting, Running}
use Rattle.osc_c.specs.declared.calls.proxy.ProxyNode.{ProxyNode}

-- the proxy that it is: before its first event it has its settings alone
abbrev pub proxy_of : Forwarding → State
proxy_of (Setting settings) = record { targets = settings.targets; exchanges = none_open; endpoint = fresh_with settings.more }
proxy_of (Running proxy) = proxy

abbrev pub IsRunning : Forwarding → Type 0
IsRunning forwarding = forwarding ≡ Running (proxy_of forwarding)

abbrev pub restarted_from : Forwarding → Forwarding
restarted_from (Setting settings) = Setting settings
restarted_from (Running proxy) = Running (restarted proxy)

-- To run takes memory; a proxy that runs takes it for what it may answer, and for no tick.
abbrev pub HearsInMemory : Forwarding → Arrival (List ℕ) → Type 0
HearsInMemory (Setting settings) came = ⊤
HearsInMemory (Running proxy) came = MayBeAnswered proxy came

abbrev pub TicksInMemory : Forwarding → Type 0
TicksInMemory (Setting settings) = ⊤
TicksInMemory (Running proxy) = ⊥

-- A target is added after the others before the first event, where there is memory for it; and none after it.
abbrev pub AddsTargetTo : Target → Forwarding → ProxyNode → Outcome → ProxyNode → Type 0
AddsTargetTo target (Setting settings) old outcome new =
    ((outcome ≡ Done) × (new ≡ record old { forwarding = Setting (record settings { targets = settings.targets ++ target ∷ [] }) }))
    ⊎ Stays NoMemory old outcome new
AddsTargetTo target (Running proxy) old outcome new = Stays NotNow old outcome new

-- It has a host that a request can name (RFC 7252 section 5.10); else nothing changes.
abbrev pub AddsTarget : Target → ProxyNode → Outcome → ProxyNode → Type 0
AddsTarget target old outcome new =
    (IsHost target.host × AddsTargetTo target old.forwarding old outcome new) ⊎ (¬ (IsHost target.host) × Stays BadArgument old outcome new)

-- So many of its own confirmable messages may be outstanding to a peer, as long as none to it is lost, from before the first event on; and not after it.
abbrev pub PacesBy : ℕ → Forwarding → ProxyNode → Outcome → ProxyNode → Type 0
PacesBy most (Setting settings) old outcome new = (outcome ≡ Done) × (new ≡ record old { forwarding = Setting (record settings { more = most - 1 }) })
PacesBy most (Running proxy) old outcome new = Stays NotNow old outcome new

-- It is 1 to 16 (RFC 7252 section 4.7); else nothing changes.
abbrev pub IsPace : ℕ → Type 0
IsPace most = (1 ≤ most) × (most ≤ 16)

abbrev pub Paces : ℕ → ProxyNode → Outcome → ProxyNode → Type 0
Paces most old outcome new = (IsPace most × PacesBy most old.forwarding old outcome new) ⊎ (¬ (IsPace most) × Stays BadArgument old outcome new)

-- the proxy makes a step of this kind, and it is the last one
abbrev pub Makes : ProxyNode → (State → Step → State → Type 0) → ProxyNode → Type 0
Makes old Does new = (step : Step) × Does (proxy_of old.forwarding) step (proxy_of new.forwarding) × IsRunning new.forwarding × (new.last ≡ since step)

abbrev pub HeardAt : ProxyNode → Arrival (List ℕ) → ProxyNode → Type 0
HeardAt old came new = Makes old (λ s step t. Hears s came step t) new

abbrev pub HeardBy : ProxyNode → GivenDatagram → Draw → Outcome → ProxyNode → Type 0
HeardBy old given draw outcome new =
    At given.ms old outcome new (λ now. HearsInMemory old.forwarding (came_at given now draw)) (λ now. HeardAt old (came_at given now draw) new)

abbrev pub TickedAt : ProxyNode → Moment → Draw → Bool → ProxyNode → Type 0
TickedAt old now draw lost new = Makes old (λ s step t. Ticks s now draw step t × (step.notes.lost ≡ lost)) new

-- what is due is done; or it takes memory, of which there was none, and nothing changes
abbrev pub TicksOr : ProxyNode → Moment → Draw → Outcome → ProxyNode → Type 0
TicksOr old now draw outcome new =
    IsDue outcome (λ lost. TickedAt old now draw lost new) ⊎ (Stays NoMemory old outcome new × TicksInMemory old.forwarding)

abbrev pub TickedBy : ProxyNode → ℕ → Draw → Outcome → ProxyNode → Type 0
TickedBy old ms draw outcome new = ((now : Moment) × (now.ms ≡ ms) × TicksOr old now draw outcome new) ⊎ IsNoMoment ms old outcome new

-- the first moment is told at which a tick does anything, if one does
abbrev pub TellsDeadline : ProxyNode → ℕ → Outcome → ℕ → Type 0
TellsDeadline node old outcome new =
    ((outcome ≡ Done) × ((now : Moment) → (acts now (proxy_of node.forwarding) ≡ true) ↔ (new ≤ now.ms)))
    ⊎ ((outcome ≡ Nothing) × (new ≡ old) × ((now : Moment) → acts now (proxy_of node.forwarding) ≡ false))
