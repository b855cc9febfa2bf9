-- The lines of text by which a node tells what a turn did: one for each datagram that its step sends.
use Rattle.std.specs.Prelude.{ℕ, List, [], ◌∷◌, ◌++◌, Option, Some, None, Result, Ok, Err, codes, decimal}
use Rattle.hex.specs.Hex.{encode_lower}
use Rattle.osc_model.specs.{method_of, peer_text}
use Rattle.osc_model.specs.StepNotes.{StepNotes}
use Rattle.osc_model.specs.declared.code.Code.{Code}
use Rattle.osc_model.specs.declared.node.Moment.{Moment}
use Rattle.osc_model.specs.declared.node.Peer.{Peer}
use Rattle.osc_model.specs.declared.request.Request.{Request}
use Rattle.osc_model.specs.declared.step.Datagram.{Datagram}
use Rattle.osc_model.specs.declared.step.Entry.{Entry}
use Rattle.osc_model.specs.declared.step.RefusedRequest.{RefusedRequest}
use Rattle.osc_log.specs.LineEnd.{line}
use Rattle.osc_model.specs.{code_text}
use Rattle.osc_log.specs.Kinds.{kind_words}
use Rattle.osc_log.specs.Turns.{Turn, code_in}
use Rattle.osc_log.specs.Words.{code_words, method_text, path_text, reason_words}
use Rattle.osc_log.specs.declared.kind.Kind.{Kind}

-- WHY (NUMBER), or WHY where the code tells it
abbrev pub why_text : Code → Option ℕ → List ℕ
why_text why None = code_words why.0
why_text why (Some number) = reason_words number ++ codes " (" ++ decimal number ++ codes ")"

-- refused CODE: WHY
abbrev pub refused_text : RefusedRequest → List ℕ
refused_text refused = codes "refused " ++ code_text refused.code.0 ++ codes ": " ++ why_text refused.code refused.reason

-- METHOD PATH, or what is told of a text that is no request
abbrev pub asked_text : Result Request Code → List ℕ
asked_text (Ok request) = method_text request.code (method_of request.code) ++ codes " " ++ path_text request.path
asked_text (Err why) = codes "what is no request"

-- served METHOD PATH: CODE
abbrev pub served_text : Entry → List ℕ
served_text entry = codes "served " ++ asked_text entry.request ++ codes ": " ++ code_text entry.reply.code.0

-- sent CODE
abbrev pub sent_text : List ℕ → List ℕ
sent_text bytes = codes "sent " ++ code_text (code_in bytes)

-- an id in hexadecimal, or - where it has no byte
abbrev pub id_text : List ℕ → List ℕ
id_text [] = codes "-"
id_text (byte ∷ bytes) = encode_lower (byte ∷ bytes)

-- by ID, where a token's is known
abbrev pub by_text : Option (List ℕ) → List ℕ
by_text None = []
by_text (Some id) = codes " by " ++ id_text id

-- what a step refused or served, or else the code of what it sent, and by whose token
abbrev pub what_text_of : Option RefusedRequest → Option Entry → Option (List ℕ) → List ℕ → List ℕ
what_text_of (Some refused) served holder bytes = refused_text refused
what_text_of None (Some entry) holder bytes = served_text entry ++ by_text holder
what_text_of None None holder bytes = sent_text bytes ++ by_text holder

abbrev pub what_text : StepNotes → List ℕ → List ℕ
what_text notes bytes = what_text_of notes.refused notes.served notes.holder bytes

-- MOMENT A.B.C.D:PORT
abbrev pub who_text : Moment → Peer → List ℕ
who_text now peer = decimal now.ms ++ codes " " ++ peer_text peer ++ codes " "

-- MOMENT A.B.C.D:PORT WHAT
abbrev pub line_text : Turn → Datagram → List ℕ
line_text turn datagram = line (who_text turn.now datagram.to ++ what_text turn.step.notes datagram.bytes)

-- MOMENT left out N KIND
abbrev pub left_out_text : Moment → Kind → ℕ → List ℕ
left_out_text now kind count = line (decimal now.ms ++ codes " left out " ++ decimal count ++ codes " " ++ kind_words kind)
