-- The JSON objects by which a node tells what a turn did: one for each datagram that its step sends.
use Rattle.std.specs.Prelude.{ℕ, List, Option, Some, None, Result, Ok, Err, codes}
use Rattle.hex.specs.Hex.{encode_lower}
use Rattle.serde_json.specs.Data.{Members, number, put, string, unsigned}
use Rattle.osc_model.specs.{method_of, peer_text}
use Rattle.osc_model.specs.StepNotes.{StepNotes}
use Rattle.osc_model.specs.declared.code.Code.{Code}
use Rattle.osc_model.specs.declared.node.Peer.{Peer}
use Rattle.osc_model.specs.declared.request.Request.{Request}
use Rattle.osc_model.specs.declared.step.Datagram.{Datagram}
use Rattle.osc_model.specs.declared.step.Entry.{Entry}
use Rattle.osc_model.specs.declared.step.RefusedRequest.{RefusedRequest}
use Rattle.osc_model.specs.{code_text}
use Rattle.osc_log.specs.Kinds.{kind_level, kind_words}
use Rattle.osc_log.specs.Line.{begun_members, object_line}
use Rattle.osc_log.specs.Turns.{Telling, Turn, code_in}
use Rattle.osc_log.specs.Words.{method_text, path_text, why_words}
use Rattle.osc_log.specs.declared.kind.Kind.{Kind}

-- "level", "peer" and "time"
abbrev pub to_peer : List ℕ → List ℕ → Peer → Members
to_peer time level peer = put (codes "peer") (string (peer_text peer)) (begun_members time level)

abbrev pub with_code : ℕ → Members → Members
with_code code members = put (codes "code") (string (code_text code)) members

-- "token": the id of the token in hexadecimal, where there is one
abbrev pub with_token : Option (List ℕ) → Members → Members
with_token None members = members
with_token (Some id) members = put (codes "token") (string (encode_lower id)) members

-- "method" and "path", where what was opened is a request
abbrev pub with_asked : Result Request Code → Members → Members
with_asked (Ok request) members = put (codes "path") (string (path_text request.path)) (put (codes "method") (string (method_text request.code (method_of request.code))) members)
with_asked (Err why) members = members

-- "reason": its number, where it has one
abbrev pub with_reason : Option ℕ → Members → Members
with_reason None members = members
with_reason (Some reason) members = put (codes "reason") (number (unsigned reason)) members

abbrev pub served_members : Option (List ℕ) → Entry → Members → Members
served_members holder entry members = with_code entry.reply.code.0 (with_asked entry.request (with_token holder members))

abbrev pub refused_members : RefusedRequest → Members → Members
refused_members refused members =
    put (codes "why") (string (why_words refused.code refused.reason)) (with_reason refused.reason (with_code refused.code.0 members))

-- what the step refused or served, or else the code of what it sent
abbrev pub what_members_of : Telling → Datagram → Option RefusedRequest → Option Entry → Option (List ℕ) → Members
what_members_of telling datagram (Some refused) served holder = refused_members refused (to_peer telling.time (codes "refused") datagram.to)
what_members_of telling datagram None (Some entry) holder = served_members holder entry (to_peer telling.time (codes "served") datagram.to)
what_members_of telling datagram None None holder = with_code (code_in datagram.bytes) (to_peer telling.time (codes "sent") datagram.to)

abbrev pub what_members : Telling → Datagram → StepNotes → Members
what_members telling datagram notes = what_members_of telling datagram notes.refused notes.served notes.holder

-- the line of a datagram of a turn
abbrev pub line_text : Telling → Turn → Datagram → List ℕ
line_text telling turn datagram = object_line (what_members telling datagram turn.step.notes)

-- "left_out": how many lines were, and "what": of which kind
abbrev pub left_out_text : List ℕ → Kind → ℕ → List ℕ
left_out_text time kind count =
    object_line (put (codes "what") (string (kind_words kind)) (put (codes "left_out") (number (unsigned count)) (begun_members time (kind_level kind))))
