-- A request in a session: what the server has to be when the first copy comes, what it then makes of it, and what is promised.
use Rattle.std.specs.Prelude.{◌≡◌, ℕ, List, [], ◌∷◌, Option, Some, None}
use Rattle.osc_model.specs.{quiet}
use Rattle.osc_model.specs.declared.context.ContextName.{ContextName}
use Rattle.osc_model.specs.declared.node.Draw.{Draw}
use Rattle.osc_model.specs.declared.node.Moment.{Moment}
use Rattle.osc_model.specs.declared.reply.Reply.{Reply}
use Rattle.osc_model.specs.declared.step.ClientResult.TheVariants as result
use Rattle.osc_model.specs.declared.step.Step.{Step}
use Rattle.osc_coap.specs.Message.{Message}
use Rattle.osc_message.specs.{datagram, timeout_of}
use Rattle.osc_options.specs.{reply_text}
use Rattle.osc_ccm.specs.{Sealings}
use Rattle.osc_window.specs.{IsFresh}
use Rattle.osc_authz.specs.{ClientContextState, In, IsLive, contexts}
use Rattle.osc_authz.specs.SecurityContext.{SecurityContext}
use Rattle.osc_run.specs.{response_note}
use Rattle.osc_server.specs.State.{State as Server}
use Rattle.osc_server.specs.{standing_of}
use Rattle.osc_client.specs.State.{State as Client}
use Rattle.osc_client.specs.{Asked}
use Rattle.osc_rounds.specs.{IsLawfulServer, IsServed, Route}
use Rattle.osc_loss.specs.Road.{Road}
use Rattle.osc_loss.specs.Round.{Given, IsAnsweredWhateverComes}

-- a request on its way: the client that has asked and the server then; the way; the name of its context, its number and its text
pub record RequestOnItsWay : Type 0 where
  pub asked : Client
  pub server : Server
  pub route : Route
  pub name : ContextName
  pub number : ℕ
  pub text : List ℕ

-- The server, of which is true what is of each, has a context of this name, live, and the number is fresh in it.
pub record MayServe (request : RequestOnItsWay) (server : Server) (now : Moment) (draw : Draw) : Type 0 where
  pub lawful : IsLawfulServer server
  pub held : SecurityContext
  pub here : In held (contexts server.desk.table)
  pub one_name : held.name ≡ request.name
  pub live : IsLive (standing_of server now) held
  pub fresh : IsFresh held.window request.number

-- the reply is what the client learns
abbrev pub answering : RequestOnItsWay → Reply → Step
answering request reply = record {
  out = [];
  notes = record quiet { opens = Some (response_note request.name request.number None (reply_text reply)); result = Some (result.Answer reply) };
}

-- the client's context stays
abbrev pub KeepsContext : RequestOnItsWay → Given → Option ClientContextState → Type 0
KeepsContext request given context = context ≡ request.asked.context

-- `is_sealing algorithm` is the relation of the algorithm's cipher
module _ (is_sealing : Sealings) where
  -- It is served under a context of its name: applied to the resources under that context's scope, as one entry, and one protected reply goes
  -- out, which is what the client learns.
  pub record IsServedAs (request : RequestOnItsWay) (message : Message) (old : Server) (now : Moment) (draw : Draw) (step : Step) (new : Server) (given : Given) : Type 0 where
    pub held : SecurityContext
    pub one_name : held.name ≡ request.name
    pub is : IsServed is_sealing old (record { at = now; from = request.route.at; draw = draw; what = message })
        (record { held = held; number = request.number; text = request.text }) step new
    pub given_is : given ≡ record { answer = is.answer; server = new; now = now; told = answering request is.reply }

  abbrev pub road_of : RequestOnItsWay → Asked → Message → Road
  road_of request asks message = record { route = request.route; message = message; went = asks.at; timeout = timeout_of asks.draw }

  -- One datagram goes to the server, and nothing is served by that; and whatever comes to both ends then, it is answered.
  pub record IsAskedInASession (request : RequestOnItsWay) (client : Client) (asks : Asked) (first : Step) : Type 0 where
    pub message : Message
    pub out : first.out ≡ datagram client.next_hop message ∷ []
    pub unserved : first.notes.served ≡ None
    pub goes : IsAnsweredWhateverComes is_sealing (IsServedAs request message) (KeepsContext request) (road_of request asks message)
        (record { client = request.asked; server = request.server; requests = first.out; replies = [] }) (MayServe request)
