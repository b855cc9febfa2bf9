-- What a client keeps true of its parts.
use Rattle.std.specs.Prelude.{◌≡◌, ◌≢◌, ◌≤◌, true, ℕ, List, [], length, Option, Some, None, IfSome}
use Rattle.std.specs.List.{AllByRecursion}
use Rattle.osc_model.specs.declared.node.Peer.{Peer}
use Rattle.osc_authz.specs.{ClientContextState}
use Rattle.osc_authz.specs.declared.granted.ClientDesk.{ClientDesk}
use Rattle.osc_coap.specs.Message.{Message}
use Rattle.osc_message.specs.{Open, is_named}
use Rattle.osc_model.specs.declared.context.ContextName.{ContextName}
use Rattle.osc_ccm.specs.{Tags}
use Rattle.osc_protect.specs.{plain_bytes, request_length}
use Rattle.osc_protect.specs.declared.request.RequestSize.{RequestSize}
use Rattle.osc_context.specs.{greatest_number}
use Rattle.osc_client.specs.Case.{counts}
use Rattle.osc_client.specs.declared.case.ResponseCase.{ResponseCase}
use Rattle.osc_client.specs.declared.case.ResponseCase.TheVariants.{Counted}
use Rattle.osc_client.specs.declared.answering.AnswerEffect.{AnswerEffect}
use Rattle.osc_client.specs.declared.answering.AnswerEffect.TheVariants.{Stays}
use Rattle.osc_client.specs.declared.asking.AskRoom.{AskRoom}
use Rattle.osc_client.specs.declared.waiting.Awaited.{Awaited}
use Rattle.osc_client.specs.declared.waiting.Awaited.TheVariants.{Exchange, Ask}
use Rattle.osc_client.specs.declared.waiting.Waiting.{Waiting}

-- no message is open but that of what waits
abbrev pub KeepsOwn : Peer → Option Waiting → List Open → Type 0
KeepsOwn next_hop None sending = sending ≡ []
KeepsOwn next_hop (Some waiting) sending = AllByRecursion (λ message. is_named next_hop waiting.id message ≡ true) sending

-- a request waits under the context that the client has
abbrev pub NeedsContext : Option ClientContextState → Awaited → Type 0
NeedsContext context (Exchange begun) = Unit {0}
NeedsContext context (Ask ask) = context ≢ None

-- a request's number is one that may be taken
abbrev pub IsLawful : Awaited → Type 0
IsLawful (Exchange begun) = Unit {0}
IsLawful (Ask ask) = ask.number ≤ greatest_number

abbrev pub HasContext : Option ClientContextState → Option Waiting → Type 0
HasContext context None = Unit {0}
HasContext context (Some waiting) = NeedsContext context waiting.what × IsLawful waiting.what

-- the context was made of what was granted
abbrev pub IsOfGrant : ClientDesk → Option ClientContextState → Type 0
IsOfGrant desk context = IfSome context (λ made. made.name.id_context ≡ desk.id_context)

-- how long a request is, protected at the next number under this context
abbrev pub size_for : (tag : Tags) → ClientContextState → Message → RequestSize
size_for tag context plain = record { plaintext = length (plain_bytes plain); message = request_length tag context.name context.next plain }

-- the room that a request takes, protected at this number under the context of this name
abbrev pub room_for : (tag : Tags) → ContextName → ℕ → Message → AskRoom
room_for tag name number plain = record {
  seal = record { name = name; number = number; most = length (plain_bytes plain) };
  datagram = request_length tag name number plain;
}

-- an outcome that leaves nothing open
abbrev pub IsEnd : AnswerEffect → Type 0
IsEnd (Stays opened) = ⊥
IsEnd outcome = Unit {0}

-- a response that counts does so for what waits
abbrev pub AsksFor : Peer → Peer → Option Waiting → Message → ResponseCase → Type 0
AsksFor next_hop from waiting message Counted = counts next_hop from message waiting ≡ true
AsksFor next_hop from waiting message case = Unit {0}
