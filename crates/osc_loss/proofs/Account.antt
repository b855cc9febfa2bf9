-- The account of a round over a network that loses: a small machine of what the server gave, and of whether the client waits, beside both ends
-- as they are. Both ends do as it says.
use Rattle.std.specs.Prelude.{◌≡◌, ◌+◌, List, [], ◌∷◌, ◌++◌, Option, Some, None}
use Rattle.osc_model.specs.{sends}
use Rattle.osc_model.specs.declared.node.Draw.{Draw}
use Rattle.osc_model.specs.declared.node.Moment.{Moment}
use Rattle.osc_model.specs.declared.step.Step.{Step}
use Rattle.osc_message.specs.{Sent, outstanding_due}
use Rattle.osc_message.specs.declared.due.Due.{Due}
use Rattle.osc_message.specs.declared.due.Due.TheVariants.{Keep, Send, GiveUp}
use Rattle.osc_ccm.specs.{Sealings}
use Rattle.osc_authz.specs.{ClientContextState}
use Rattle.osc_server.specs.State.{State as Server}
use Rattle.osc_rounds.specs.{Ends}
use Rattle.osc_loss.specs.Road.{AtClient, AtServer, ClientTick, Event, Goes, Happening, Happens, OtherAtClient, OtherAtServer, Road, ServerTick}
use Rattle.osc_loss.specs.Round.{Given, GivesUp, SendsDue, reply_of, request_of}
use Rattle.osc_loss.proofs.Ticking.{open_as}

-- what the server gave, once it has taken the message up; while the client waits, when its message first went out and how often it was
-- retransmitted since; and the client's context
pub record Account : Type 0 where
  pub given : Option Given
  pub asking : Option Sent
  pub context : Option ClientContextState

abbrev pub account_of : Option Given → Option Sent → Option ClientContextState → Account
account_of given asking context = record { given = given; asking = asking; context = context }

module _ (is_sealing : Sealings) (Makes : Server → Moment → Draw → Step → Server → Given → Type 0) (Keeps : Given → Option ClientContextState → Type 0) (road : Road) where
  -- a copy of the message comes to the server: the first is taken up, and each later one is answered by the same bytes again
  abbrev pub ServerAnswers : Ends → Moment → Draw → Account → Option Given → Step → Ends → Account → Type 0
  ServerAnswers ends now draw old None step next new =
      (given : Given) × (server : Server) × Makes ends.server now draw step server given
      × (next ≡ record ends { server = server; replies = step.out ++ ends.replies })
      × (new ≡ record old { given = Some given })
  ServerAnswers ends now draw old (Some given) step next new = (step ≡ sends (reply_of road given ∷ [])) × (new ≡ old)

  -- a reply comes to the client: the first is its answer, and a later one leads to nothing
  abbrev pub ClientLearns : Account → Option Sent → Step → Account → Type 0
  ClientLearns old None step new = (step.notes.result ≡ None) × (new ≡ old)
  ClientLearns old (Some sent) step new =
      (given : Given) × (old.given ≡ Some given) × (step ≡ given.told)
      × ((context : Option ClientContextState) × Keeps given context × (new ≡ record old { asking = None; context = context }))

  -- a tick of the client, by what is due: nothing; the same datagram goes out again; or the client gives up
  abbrev pub ClientDoes : Account → Sent → Due → Step → Account → Type 0
  ClientDoes old sent Keep step new = SendsDue [] step × (new ≡ old)
  ClientDoes old sent Send step new = SendsDue (request_of road ∷ []) step × (new ≡ record old { asking = Some (record sent { repeats = sent.repeats + 1 }) })
  ClientDoes old sent GiveUp step new = GivesUp step × (new ≡ record old { asking = None })

  abbrev pub ClientTicksSo : Moment → Account → Option Sent → Step → Account → Type 0
  ClientTicksSo now old None step new = SendsDue [] step × (new ≡ old)
  ClientTicksSo now old (Some sent) step new = ClientDoes old sent (outstanding_due now (open_as road sent) sent) step new

  abbrev pub ComesTo : Ends → Account → Event → Step → Ends → Account → Type 0
  ComesTo ends old (ClientTick now) step next new = ClientTicksSo now old old.asking step new
  ComesTo ends old (ServerTick now) step next new = (step ≡ sends []) × (new ≡ old)
  ComesTo ends old (AtServer now draw sent) step next new = ServerAnswers ends now draw old old.given step next new
  ComesTo ends old (AtClient now draw sent) step next new = ClientLearns old old.asking step new
  ComesTo ends old (OtherAtServer came) step next new = new ≡ old
  ComesTo ends old (OtherAtClient came) step next new = (step.notes.result ≡ None) × (new ≡ old)

  -- what all of it comes to
  abbrev pub IsAccount : Ends → Account → List Happening → Ends → Account → Type 0
  IsAccount ends old [] last new = (last ≡ ends) × (new ≡ old)
  IsAccount ends old (happening ∷ later) last new =
      (mid : Ends) × (next : Account) × Happens is_sealing road.route ends happening.event happening.step mid
      × ComesTo ends old happening.event happening.step mid next × IsAccount mid next later last new

  pub goes_of : (all : List Happening) (ends : Ends) (old : Account) (last : Ends) (new : Account) → IsAccount ends old all last new
      → Goes is_sealing road.route ends all last
  goes_of [] ends old last new is = is.0
  goes_of (happening ∷ later) ends old last new is = (is.0, is.2, goes_of later is.0 is.1 last new is.4)
