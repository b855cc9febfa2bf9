-- What a client keeps.
use Rattle.std.specs.Prelude.{ℕ, max, Option, Some, None, option_map}
use Rattle.osc_model.specs.declared.node.Peer.{Peer}
use Rattle.osc_authz.specs.{ClientContextState}
use Rattle.osc_authz.specs.declared.granted.ClientDesk.{ClientDesk}
use Rattle.osc_message.specs.{EndpointState}
use Rattle.osc_run.specs.{ClientState, Outstanding, Nothing, Exchange as OpenExchange, Ask as AskOf}
use Rattle.osc_client.specs.Route.{HostAndPort}
use Rattle.osc_client.specs.declared.waiting.Awaited.{Awaited}
use Rattle.osc_client.specs.declared.waiting.Awaited.TheVariants.{Exchange, Ask}
use Rattle.osc_client.specs.declared.waiting.Waiting.{Waiting}

-- what was granted; to whom it sends; the server behind it, where that is a proxy; its security context; what it waits for, one
-- thing at most; and the message layer
pub record State : Type 0 where
  pub desk : ClientDesk
  pub next_hop : Peer
  pub origin : Option HostAndPort
  pub context : Option ClientContextState
  pub waiting : Option Waiting
  pub endpoint : EndpointState

-- what waits, as a run knows it: a protected request was sealed under the context that the client has
abbrev pub outstanding_of : Option ClientContextState → Awaited → Outstanding
outstanding_of context (Exchange begun) = OpenExchange begun
outstanding_of (Some context) (Ask ask) = AskOf (record { context = context.name; number = ask.number })
outstanding_of None (Ask ask) = Nothing

abbrev pub outstanding : Option ClientContextState → Option Waiting → Outstanding
outstanding context None = Nothing
outstanding context (Some waiting) = outstanding_of context waiting.what

-- what a run knows of it
abbrev pub core : State → ClientState
core state = record { desk = state.desk; context = state.context; outstanding = outstanding state.context state.waiting }

-- the number that is taken next is raised to this one, where there is a context; a lower one changes nothing
abbrev pub raised_to : ℕ → ClientContextState → ClientContextState
raised_to number context = record context { next = max context.next number }

abbrev pub skipped_to : ℕ → State → State
skipped_to number state = record state { context = option_map (raised_to number) state.context }
