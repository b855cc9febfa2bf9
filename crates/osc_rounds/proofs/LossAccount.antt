-- The account of a round over a network that loses: a small machine of what the server gave, and of whether the client waits. Both ends do as it says.
use Rattle.std.specs.Prelude.{◌≡◌, ◌+◌, List, [], ◌∷◌, Option, Some, None}
use Rattle.osc_model.specs.{sends}
use Rattle.osc_model.specs.declared.node.Moment.{Moment}
use Rattle.osc_model.specs.declared.step.Step.{Step}
use Rattle.osc_coap.specs.{spelling}
use Rattle.osc_message.specs.{Open, Sent, datagram}
use Rattle.osc_message.specs.Ticks.{outstanding_due}
use Rattle.osc_message.specs.declared.due.Due.{Due}
use Rattle.osc_message.specs.declared.due.Due.TheVariants.{Keep, Send, GiveUp}
use Rattle.osc_rounds.specs.Loss.{AtClient, AtServer, ClientTick, Event, Given, GivesUp, Happening, IsServedAt, OnTheRoad, SendsDue, ServerTick, answering, request_of}

-- the account of a round: what the server gave, once it has served; and, while the client waits, when its message first went out and how
-- often it was retransmitted since
pub record Account : Type 0 where
  pub given : Option Given
  pub asking : Option Sent

-- when the request has just gone out
abbrev pub first_account : OnTheRoad → Account
first_account road = record { given = None; asking = Some (record { at = road.went; repeats = 0 }) }

-- the message as the client keeps it
abbrev pub open_as : OnTheRoad → Sent → Open
open_as road sent =
    record { to = road.way.server_at; id = road.message.id; timeout = road.timeout; bytes = spelling road.message; sent = Some sent }

-- a copy of the request comes to the server: the first is served, and each later one is answered by the same bytes again
abbrev pub ServerAnswers : OnTheRoad → Moment → Account → Option Given → Step → Account → Type 0
ServerAnswers road now old None step new = (given : Given) × IsServedAt road now given step × (new ≡ record old { given = Some given })
ServerAnswers road now old (Some given) step new = (step ≡ sends (datagram road.way.at given.answer ∷ [])) × (new ≡ old)

-- a reply comes to the client: the first is its answer, and a later one leads to nothing
abbrev pub ClientLearns : OnTheRoad → Account → Option Sent → Step → Account → Type 0
ClientLearns road old None step new = (step ≡ sends []) × (new ≡ old)
ClientLearns road old (Some sent) step new =
    (given : Given) × (old.given ≡ Some given) × (step ≡ answering road given) × (new ≡ record old { asking = None })

-- a tick of the client, by what is due: nothing; the same datagram goes out again; or the client gives up
abbrev pub ClientDoes : OnTheRoad → Account → Sent → Due → Step → Account → Type 0
ClientDoes road old sent Keep step new = SendsDue [] step × (new ≡ old)
ClientDoes road old sent Send step new = SendsDue (request_of road ∷ []) step × (new ≡ record old { asking = Some (record sent { repeats = sent.repeats + 1 }) })
ClientDoes road old sent GiveUp step new = GivesUp step × (new ≡ record old { asking = None })

abbrev pub ClientTicksSo : OnTheRoad → Moment → Account → Option Sent → Step → Account → Type 0
ClientTicksSo road now old None step new = SendsDue [] step × (new ≡ old)
ClientTicksSo road now old (Some sent) step new = ClientDoes road old sent (outstanding_due now (open_as road sent) sent) step new

abbrev pub ComesTo : OnTheRoad → Account → Event → Step → Account → Type 0
ComesTo road old (ClientTick now) step new = ClientTicksSo road now old old.asking step new
ComesTo road old (ServerTick now) step new = (step ≡ sends []) × (new ≡ old)
ComesTo road old (AtServer now draw sent) step new = ServerAnswers road now old old.given step new
ComesTo road old (AtClient now draw sent) step new = ClientLearns road old old.asking step new

-- what all of it comes to
abbrev pub IsAccount : OnTheRoad → Account → List Happening → Account → Type 0
IsAccount road old [] new = new ≡ old
IsAccount road old (happening ∷ later) new =
    (next : Account) × ComesTo road old happening.event happening.step next × IsAccount road next later new
