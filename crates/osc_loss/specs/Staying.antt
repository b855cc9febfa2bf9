-- A context that stays at a server, with a number fresh in it, while whatever else comes there: what is asked of that.
use Rattle.std.specs.Prelude.{◌≡◌, ◌≢◌, ℕ, ◌+◌, ◌<◌, List, [], ◌∷◌, Some, None}
use Rattle.osc_model.specs.StepNotes.{StepNotes}
use Rattle.osc_model.specs.declared.node.Moment.{Moment}
use Rattle.osc_model.specs.declared.step.Entry.{Entry}
use Rattle.osc_model.specs.declared.step.Step.{Step}
use Rattle.osc_ccm.specs.{Sealings}
use Rattle.osc_window.specs.{IsFresh, width}
use Rattle.osc_authz.specs.{In, IsLive, OfToken, of_tokens}
use Rattle.osc_server.specs.State.{State as Server}
use Rattle.osc_server.specs.{standing_of}
use Rattle.osc_rounds.specs.{Ends, IsLawfulServer, Route}
use Rattle.osc_loss.specs.Road.{AtServer, Event, Goes, Happening, OtherAtServer}
use Rattle.osc_loss.specs.Session.{RequestOnItsWay}

-- the server has a context of the request's name, which this token id's token made, and in it the request's number is fresh
pub record HasFresh (request : RequestOnItsWay) (token : List ℕ) (server : Server) : Type 0 where
  pub context : OfToken
  pub here : In context (of_tokens server.desk.table)
  pub its_token : context.token ≡ token
  pub one_name : context.held.name ≡ request.name
  pub fresh : IsFresh context.held.window request.number

-- ---- what else comes

-- A step of the server makes no context of this token id, and serves no request under another context of it. Under the request's own context
-- it serves another number, none that is so much greater that the window forgets the request's.
pub record LeavesContext (request : RequestOnItsWay) (token : List ℕ) (notes : StepNotes) : Type 0 where
  pub posted : notes.drawn ≢ None → notes.holder ≢ Some token
  pub served : (entry : Entry) → notes.served ≡ Some entry → notes.holder ≡ Some token → entry.context ≡ request.name
  pub number : (entry : Entry) → notes.served ≡ Some entry → entry.context ≡ request.name
      → (entry.number ≢ request.number) × (entry.number < request.number + width)

-- each does, before the first copy comes
abbrev pub AreLeavingContextBy : RequestOnItsWay → List ℕ → Event → Step → Type 0 → Type 0
AreLeavingContextBy request token (AtServer now draw sent) step later = Unit {0}
AreLeavingContextBy request token (OtherAtServer came) step later = LeavesContext request token step.notes × later
AreLeavingContextBy request token event step later = later

abbrev pub AreLeavingContext : RequestOnItsWay → List ℕ → List Happening → Type 0
AreLeavingContext request token [] = Unit {0}
AreLeavingContext request token (happening ∷ later) = AreLeavingContextBy request token happening.event happening.step (AreLeavingContext request token later)

-- ---- its contexts live

-- What is true of each server is of this one, and its context of the request's name lives.
pub record IsLiveThere (request : RequestOnItsWay) (server : Server) (now : Moment) : Type 0 where
  pub lawful : IsLawfulServer server
  pub live : (context : OfToken) → In context (of_tokens server.desk.table) → context.held.name ≡ request.name → IsLive (standing_of server now) context.held

-- `is_sealing algorithm` is the relation of the algorithm's cipher
module _ (is_sealing : Sealings) where
  -- so it is whenever something comes to the server, up to the first copy
  abbrev pub StaysLiveBy : RequestOnItsWay → Ends → Event → Ends → Type 0 → Type 0
  StaysLiveBy request old (AtServer now draw sent) next later = IsLiveThere request old.server now
  StaysLiveBy request old (OtherAtServer came) next later = IsLiveThere request old.server came.at × (IsLawfulServer next.server × later)
  StaysLiveBy request old event next later = later

  abbrev pub StaysLive : RequestOnItsWay → (route : Route) (old : Ends) (all : List Happening) (new : Ends) → Goes is_sealing route old all new → Type 0
  StaysLive request route old [] new goes = Unit {0}
  StaysLive request route old (happening ∷ later) new goes =
      StaysLiveBy request old happening.event goes.0 (StaysLive request route goes.0 later new goes.2)
