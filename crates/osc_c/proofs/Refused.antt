-- Where nothing was begun, nothing has changed.
use Rattle.std.proofs.Common.{◌≡◌, ◌≢◌, ◌∙◌, ◌==◌, ℕ, inl, inr, ap, refl, subst, sym, List, [], ◌∷◌, Option, None, Some, if◌then◌else◌}
use Rattle.std.proofs.lemmas.Bool.{cases_Bool, eqb-true}
use Rattle.osc_model.specs.Arrival.{Arrival}
use Rattle.osc_model.specs.declared.node.Draw.{Draw}
use Rattle.osc_model.specs.declared.node.Moment.{Moment}
use Rattle.osc_model.specs.declared.step.ClientResult.{ClientResult}
use Rattle.osc_model.specs.declared.step.ClientResult.TheVariants.{Made, Answer, Unverified, TimedOut, Refused}
use Rattle.osc_model.specs.declared.step.Datagram.{Datagram}
use Rattle.osc_model.specs.declared.step.Step.{Step}
use Rattle.osc_ccm.specs.{Sealings, Tags}
use Rattle.osc_client.specs.{Asked, Asks, Exchanges, IsRefused}
use Rattle.osc_client.specs.State.{State as Own}
use Rattle.osc_server.specs.State.{State as Server}
use Rattle.osc_device.specs.{AskedOfServer, AsksItsServer, Carries, ComesBack, Reaches, asked_by, at_server}
use Rattle.osc_device.specs.State.{State}
use Rattle.osc_device.specs.declared.round.Round.{Round}
use Rattle.osc_c.specs.{LastStep, since_own, IsRefusal, is_refused_by, last_after, begun_as, learnt_as, refused_as, told_by, told_of}
use Rattle.osc_c.specs.declared.calls.device.DeviceNode.{DeviceNode}
use Rattle.osc_c.specs.declared.calls.outcome.Outcome.TheVariants as outcome
use Rattle.osc_c.specs.declared.calls.round.Told.{Told}

-- ---- it is told so where nothing was begun alone

learnt_none : (learnt : Option ClientResult) → IsRefusal (learnt_as learnt).outcome → ⊥
learnt_none (Some Made) is = is
learnt_none (Some (Answer reply)) is = is
learnt_none (Some (Unverified code)) is = is
learnt_none (Some TimedOut) is = is
learnt_none (Some (Refused number)) is = is
learnt_none None is = is

step_none : (learnt : Option Step) → IsRefusal (begun_as learnt).outcome → ⊥
step_none (Some step) is = learnt_none step.notes.result is
step_none None is = is

refused_by : (result : Option ClientResult) (learnt : Option Step) → IsRefusal (told_by result learnt).outcome → (number : ℕ) × (result ≡ Some (Refused number))
refused_by (Some (Refused number)) learnt is = (number, refl)
refused_by (Some Made) learnt is = absurd (step_none learnt is)
refused_by (Some (Answer reply)) learnt is = absurd (step_none learnt is)
refused_by (Some (Unverified code)) learnt is = absurd (step_none learnt is)
refused_by (Some TimedOut) learnt is = absurd (step_none learnt is)
refused_by None learnt is = absurd (step_none learnt is)

-- ---- and as too long where the client said so alone

number_is : (number : ℕ) → refused_as number ≡ outcome.TooLong → number ≡ 14
number_is number is =
    elim (cases_Bool (number == 14)) [
      | inl long ↦ eqb-true number 14 long
      | inr not_long ↦ elim (cases_Bool (number == 17)) [
        | inl busy ↦ let wrong : outcome.Busy ≡ outcome.TooLong = rw (not_long, busy) at is in absurd cc
        | inr idle ↦ elim (cases_Bool (number == 18)) [
          | inl over ↦ let wrong : outcome.Exhausted ≡ outcome.TooLong = rw (not_long, idle, over) at is in absurd cc
          | inr lasts ↦ let wrong : outcome.NoContext ≡ outcome.TooLong = rw (not_long, idle, lasts) at is in absurd cc
        ]
      ]
    ]

pub never_too_long : (round : Round) (told : Told) → told ≡ told_of round → round.begun.notes.result ≢ Some (Refused 14) → told.outcome ≢ outcome.TooLong
never_too_long round told is_told fits is =
    let same : (told_of round).outcome ≡ outcome.TooLong = sym (ap (λ (t : Told). t.outcome) is_told) ∙ is in
    let why = refused_by round.begun.notes.result round.learnt (subst IsRefusal (sym same) tt) in
    let number : why.0 ≡ 14 = number_is why.0 (sym (ap (λ (result : Option ClientResult). (told_by result round.learnt).outcome) why.1) ∙ same) in
    fits (why.1 ∙ ap (λ (n : ℕ). Some (Refused n)) number)

-- ---- then nothing is carried

module _ (is_sealing : Sealings) where
  stays : (old : Server) (sent : Arrival (List Datagram)) (step : Option Step) (new : Server) → sent.what ≡ []
      → Reaches is_sealing old sent step new → (step ≡ None) × (new ≡ old)
  stays old sent step new none (Reaches.lost why is) = is
  stays old sent step new none (Reaches.heard one made is_one is does) = let wrong : [] ≡ one ∷ [] = sym none ∙ is_one in absurd cc

  stays_own : (old : Own) (now : Moment) (served step : Option Step) (new : Own) → served ≡ None → ComesBack is_sealing old now served step new → new ≡ old
  stays_own old now served step new none (ComesBack.lost why is) = is.1
  stays_own old now served step new none (ComesBack.heard answer one made is_served is_one is does) = let wrong : None ≡ Some answer = sym none ∙ is_served in absurd cc

  carried : (old : State) (own : Own) (now : Moment) (draw : Draw) (round : Round) (new : State) → round.begun.out ≡ [] → own ≡ old.own
      → Carries is_sealing (record old { own = own }) now draw round new → new ≡ old
  carried old own now draw round new none same carries =
      let server = stays old.server (at_server now draw round.begun.out) round.served new.server none carries.reaches in
      let owns = stays_own own now round.served round.learnt new.own server.0 carries.comes_back ∙ same in
      (λ i. record { server = server.1 i; own = owns i })

  module _ (old : State) (now : Moment) (round : Round) (new : State) (number : ℕ) where
    refused_own : (own : Own) → IsRefused number old.own round.begun own → (draw : Draw) → Carries is_sealing (record old { own = own }) now draw round new → new ≡ old
    refused_own own it draw carries = carried old own now draw round new (ap (λ (s : Step). s.out) it.told) it.kept carries

  asks_kept : (tag : Tags) (old : State) (asked : Asked) (draw : Draw) (round : Round) (new : State) (number : ℕ)
      → round.begun.notes.result ≡ Some (Refused number) → (own : Own) → Asks is_sealing tag old.own asked round.begun own
      → Carries is_sealing (record old { own = own }) asked.at draw round new → new ≡ old
  asks_kept tag old asked draw round new number told own (Asks.hindered n why refused) carries = refused_own old asked.at round new n own refused draw carries
  asks_kept tag old asked draw round new number told own (Asks.asks context protected free protects spells step opened) carries =
      let none = sym (ap (λ (s : Step). s.notes.result) step) ∙ told in absurd cc

  pub asked_kept : (tag : Tags) (old : State) (asked : AskedOfServer) (round : Round) (new : State) (number : ℕ)
      → round.begun.notes.result ≡ Some (Refused number) → AsksItsServer is_sealing tag old asked round new → new ≡ old
  asked_kept tag old asked round new number told it = asks_kept tag old (asked_by asked) asked.server_draw round new number told it.own it.requests.asks it.carries

  pub begun_kept : (old : State) (now : Moment) (draw server_draw : Draw) (round : Round) (new : State) (number : ℕ)
      → round.begun.notes.result ≡ Some (Refused number) → (begun : Own) → Exchanges old.own now draw round.begun begun
      → Carries is_sealing (record old { own = begun }) now server_draw round new → new ≡ old
  begun_kept old now draw server_draw round new number told begun (Exchanges.busy why refused) carries = refused_own old now round new 17 begun refused server_draw carries
  begun_kept old now draw server_draw round new number told begun (Exchanges.too_long why long refused) carries = refused_own old now round new 14 begun refused server_draw carries
  begun_kept old now draw server_draw round new number told begun (Exchanges.begins idle fits spells step opened) carries =
      let none = sym (ap (λ (s : Step). s.notes.result) step) ∙ told in absurd cc

-- ---- and so the node is as it was

pub kept : (old : DeviceNode) (device : State) (last : LastStep) (round : Round) (told : Told)
    → told ≡ told_of round → last ≡ last_after round old.last
    → ((number : ℕ) → round.begun.notes.result ≡ Some (Refused number) → device ≡ old.device)
    → IsRefusal told.outcome → record { device = device; last = last } ≡ old
kept old device last round told is_told is_last same is =
    let why = refused_by round.begun.notes.result round.learnt (subst (λ (t : Told). IsRefusal t.outcome) is_told is) in
    let devices = same why.0 why.1 in
    let lasts : last ≡ old.last = is_last ∙ ap (λ (result : Option ClientResult). if is_refused_by result then old.last else since_own round) why.1 in
    (λ i. record { device = devices i; last = lasts i })
