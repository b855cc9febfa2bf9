-- What happens by a line of a script, in a world that sent these datagrams.
use Rattle.std.specs.Prelude.{ℕ, zero, suc, List, length, Option, Some, None, slice_get}
use Rattle.osc_model.specs.declared.request.Request.{Request}
use Rattle.osc_coap.specs.{payload_of, plaintext_spelling}
use Rattle.osc_options.specs.{path_options}
use Rattle.osc_run.specs.declared.noted.Actor.{Actor}
use Rattle.osc_run.specs.declared.noted.Actor.TheVariants as actor
use Rattle.osc_script.specs.{address_of}
use Rattle.osc_script.specs.declared.node.NodeName.{NodeName}
use Rattle.osc_script.specs.declared.node.NodeName.TheVariants as node
use Rattle.osc_script.specs.declared.line.Change.{Change}
use Rattle.osc_script.specs.declared.line.Line.{Line}
use Rattle.osc_script.specs.declared.line.Line.TheVariants as line
use Rattle.osc_world.specs.declared.event.What.{What}
use Rattle.osc_world.specs.declared.event.What.TheVariants.{Exchange, Ask, Lie, Tick, Restart, Deliver, Inject}
use Rattle.osc_world.specs.declared.log.SentDatagram.{SentDatagram}
use Rattle.osc_simulation.specs.Copies.{altered, grafted}
use Rattle.osc_simulation.specs.Names.{Names, number_of, proxy_number}

-- the number in the world of the datagram K, which a script counts from 1; for 0, the number of the next one
abbrev pub datagram_number : List SentDatagram → ℕ → ℕ
datagram_number sent zero = length sent
datagram_number sent (suc before) = before

abbrev pub datagram_of : List SentDatagram → ℕ → Option SentDatagram
datagram_of sent k = slice_get sent (datagram_number sent k)

-- nothing comes to anyone: what would be the next datagram wasn't sent
abbrev pub nothing_comes : List SentDatagram → What
nothing_comes sent = Deliver (length sent)

-- these bytes come from the datagram's sender to its addressee
abbrev pub comes_like : List SentDatagram → SentDatagram → Option (List ℕ) → What
comes_like sent datagram None = nothing_comes sent
comes_like sent datagram (Some bytes) = Inject datagram.from datagram.to bytes

-- a copy of it with these bytes changed, if it was sent and has them
abbrev pub what_altered : List SentDatagram → List Change → Option SentDatagram → What
what_altered sent changes None = nothing_comes sent
what_altered sent changes (Some datagram) = comes_like sent datagram (altered changes datagram.bytes)

-- the header and the token of one with the options and the payload of another, if both were sent
abbrev pub what_grafted : List SentDatagram → Option SentDatagram → Option SentDatagram → What
what_grafted sent (Some header) (Some body) = comes_like sent header (Some (grafted header.bytes body.bytes))
what_grafted sent header body = nothing_comes sent

-- the plaintext of a request by its method, path and payload, which are all that a line says of it (RFC 8613 section 5.3)
abbrev pub text_of : Request → List ℕ
text_of request = plaintext_spelling (record { code = request.code.0; options = path_options request.path; payload = payload_of request.payload })

-- the node of this name; the stranger isn't one
abbrev pub actor_of : Names → NodeName → Option Actor
actor_of names node.Server = Some actor.Server
actor_of names (node.Client client) = Some (actor.Client (number_of names.clients client))
actor_of names (node.Proxy proxy) = Some (actor.Proxy (proxy_number names.proxies proxy))
actor_of names node.Stranger = None

-- the stranger does nothing
abbrev pub ticks : List SentDatagram → Option Actor → What
ticks sent None = nothing_comes sent
ticks sent (Some node) = Tick node

abbrev pub restarts : List SentDatagram → Option Actor → What
restarts sent None = nothing_comes sent
restarts sent (Some node) = Restart node

-- what happens by a line that is one event, and none of the others
abbrev pub what_of : Names → List SentDatagram → Line → Option What
what_of names sent (line.Exchange client) = Some (Exchange (number_of names.clients client))
what_of names sent (line.Ask client request) = Some (Ask (number_of names.clients client) request)
what_of names sent (line.Tick node) = Some (ticks sent (actor_of names node))
what_of names sent (line.Restart node) = Some (restarts sent (actor_of names node))
what_of names sent (line.Deliver datagram) = Some (Deliver (datagram_number sent datagram))
what_of names sent (line.Alter datagram changes) = Some (what_altered sent changes (datagram_of sent datagram))
what_of names sent (line.Graft header body) = Some (what_grafted sent (datagram_of sent header) (datagram_of sent body))
what_of names sent (line.Inject from to bytes) = Some (Inject (address_of from) (address_of to) bytes)
what_of names sent (line.Lie client number request) = Some (Lie (number_of names.clients client) number (text_of request))
what_of names sent other = None
