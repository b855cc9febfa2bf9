-- What each call makes of a device.
use Rattle.std.specs.Prelude.{◌≡◌, ◌≢◌, ℕ, false, List, [], ◌∷◌, Option, Some, None, Result, IfOk, OnErr}
use Rattle.osc_model.specs.Refusals as refusal
use Rattle.osc_model.specs.{is_revoked, revocation_of}
use Rattle.osc_model.specs.Arrival.{Arrival}
use Rattle.osc_model.specs.declared.node.Draw.{Draw}
use Rattle.osc_model.specs.declared.node.Moment.{Moment}
use Rattle.osc_model.specs.declared.step.ClientResult.TheVariants as result
use Rattle.osc_model.specs.declared.step.Step.{Step}
use Rattle.osc_message.specs.{after_tick}
use Rattle.osc_ccm.specs.{Sealings, Tags}
use Rattle.osc_scope.specs.{Entry}
use Rattle.osc_authz.specs.{ClientContextState}
use Rattle.osc_token.specs.declared.claims.Claims.{Claims}
use Rattle.osc_run.specs.{Came, ClientStep, Due, by_server}
use Rattle.osc_client.specs.{Begins, core as client_core, IsFree, IsStep as IsClientStep, restarted}
use Rattle.osc_client.specs.State.{State as Client}
use Rattle.osc_server.specs.{again, IsStep as IsServerStep}
use Rattle.osc_device.specs.Answered.{IsAnsweredWhereReady, IsOpen, IsWhole, MayOpen, MayReturn}
use Rattle.osc_device.specs.Carrying.{AskedOfServer, AsksItsServer, Carries, asked_by}
use Rattle.osc_device.specs.Runs.{AllGoOn, IsOfAnEntry, noted, restarts}
use Rattle.osc_device.specs.State.{State}
use Rattle.osc_device.specs.declared.draws.OwnDraws.{OwnDraws}
use Rattle.osc_device.specs.declared.round.Round.{Round}
use Rattle.osc_device.specs.declared.ruling.Ruled.{Ruled}

-- What the call makes is handed out; or there was no memory for a step, where it `Lacks` some, and all is as before.
abbrev pub HandsOut : {T E : Type 0} → (T → State → Type 0) → Type 0 → State → Result T E → State → Type 0
HandsOut Makes Lacks old result new = IfOk result (λ made. Makes made new) × OnErr result ((new ≡ old) × Lacks)

-- it started again
pub record HasRestarted (old new : State) : Type 0 where
  pub server : new.server ≡ again old.server
  pub own : new.own ≡ restarted old.own
  pub run : (now : Moment) → AllGoOn old restarts new

-- `is_sealing algorithm` is the relation of the algorithm's cipher
module _ (is_sealing : Sealings) where
  -- its server heard this
  pub record HasHeard (old : State) (came : Arrival (List ℕ)) (step : Step) (new : State) : Type 0 where
    pub made : IsServerStep is_sealing old.server (Came came) step new.server
    pub own : new.own ≡ old.own
    pub run : AllGoOn old (λ number. by_server step.notes ∷ []) new

  -- a moment came
  pub record HasTicked (old : State) (now : Moment) (server_draw : Draw) (round : Round) (new : State) : Type 0 where
    pub ticked : Client
    pub begun : (draw : Draw) → IsClientStep is_sealing old.own (Due now draw) round.begun ticked
    pub carries : Carries is_sealing (record { server = record old.server { endpoint = after_tick now old.server.endpoint }; own = ticked })
        now server_draw round new
    pub run : AllGoOn old (λ number. noted number round) new
    pub entry : IsOfAnEntry old round

  -- it posted its token
  pub record HasPosted (old : State) (now : Moment) (draws : OwnDraws) (round : Round) (new : State) : Type 0 where
    pub posting : Client
    pub begins : Begins old.own now draws.own round.begun posting
    pub kind : ClientStep false (client_core old.own) round.begun.notes (client_core posting)
    pub carries : Carries is_sealing (record old { own = posting }) now draws.server round new
    -- where it may, and no step wants memory
    pub made : (claims : Claims) (entries : List Entry) → MayOpen is_sealing old now draws.own claims entries → IsWhole round → IsOpen now entries new
    -- a place is kept for it, so no others keep it out
    pub place : (claims : Claims) (entries : List Entry) → MayReturn is_sealing old now draws.own claims entries → IsWhole round → IsOpen now entries new
    -- its post is never too long for a datagram
    pub fits : round.begun.notes.result ≢ Some (result.Refused refusal.datagram_too_long)
    pub run : AllGoOn old (λ number. noted number round) new

  -- it asked its server for this
  pub record HasAsked (tag : Tags) (old : State) (asked : AskedOfServer) (round : Round) (new : State) : Type 0 where
    pub asks : AsksItsServer is_sealing tag old asked round new
    pub answered : IsAnsweredWhereReady old (asked_by asked) round new
    pub run : AllGoOn old (λ number. noted number round) new
    pub entry : IsOfAnEntry old round

  -- nothing hinders this request
  abbrev pub IsUnhindered : Tags → State → AskedOfServer → Type 0
  IsUnhindered tag old asked = (context : ClientContextState) × IsFree is_sealing tag old.own asked.request asked.draw context

  -- It asked its server for this on the path that stands for this token id, and tells whether its tokens are revoked then; or it asked for
  -- nothing, where none does.
  abbrev pub HasRuled : Tags → State → List ℕ → (List ℕ → AskedOfServer) → Option Ruled → State → Type 0
  HasRuled tag old id asked_on None new = (revocation_of old.server.desk.rules.revoked id ≡ None) × (new ≡ old)
  HasRuled tag old id asked_on (Some ruled) new =
      (path : List ℕ) × (revocation_of old.server.desk.rules.revoked id ≡ Some path) × HasAsked tag old (asked_on path) ruled.round new
      × (ruled.is_revoked ≡ is_revoked new.server.desk.rules.revoked new.server.tree id)
