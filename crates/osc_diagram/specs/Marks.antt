-- What is drawn of a script that was done.
use Rattle.std.specs.Prelude.{ℕ, ◌+◌, ◌-◌, ◌==◌, ◌&&◌, if◌then◌else◌, not, List, [], ◌∷◌, ◌++◌, drop, take, flat_map, length, Option, Some, None, option_and_then, option_map, slice_get}
use Rattle.osc_diagram.specs.declared.chart.chart.Mark.{Mark}
use Rattle.osc_diagram.specs.declared.chart.chart.Mark.TheVariants as mark
use Rattle.osc_diagram.specs.declared.chart.chart.Way.TheVariants.{Sent}
use Rattle.osc_model.specs.declared.code.Code.{Code}
use Rattle.osc_model.specs.declared.node.Moment.{Moment}
use Rattle.osc_model.specs.declared.step.ClientResult.{ClientResult}
use Rattle.osc_model.specs.declared.step.Entry.{Entry}
use Rattle.osc_model.specs.declared.step.Note.{Note}
use Rattle.osc_run.specs.{Noted}
use Rattle.osc_run.specs.declared.noted.Actor.{Actor}
use Rattle.osc_run.specs.declared.noted.Actor.TheVariants as actor
use Rattle.osc_script.specs.{address_of}
use Rattle.osc_script.specs.declared.client_name.ClientName.{ClientName}
use Rattle.osc_script.specs.declared.node.NodeName.{NodeName}
use Rattle.osc_script.specs.declared.node.NodeName.TheVariants.{Server, Client}
use Rattle.osc_simulation.specs.{learnt_text, sent_at, served_words, step_at}
use Rattle.osc_world.specs.declared.log.Record.{Record}
use Rattle.osc_world.specs.declared.log.SentDatagram.{SentDatagram}
use Rattle.osc_diagram.specs.Scenes.{has}
use Rattle.osc_diagram.specs.declared.play.Played.{Played}
use Rattle.osc_diagram.specs.declared.scene.Scene.{Scene}

abbrev pub note_at : NodeName → List ℕ → Mark
note_at node text = mark.Note (address_of node) text

-- ---- what was served and learnt

-- at the server
abbrev pub served_mark : Played → Entry → Mark
served_mark run entry = note_at Server (served_words run.names.clients run.stage.world.minted entry)

abbrev pub served_marks : Played → Option Entry → List Mark
served_marks run None = []
served_marks run (Some entry) = served_mark run entry ∷ []

-- at the client whose step it was
abbrev pub learnt_mark : ClientName → ClientResult → Mark
learnt_mark client learnt = note_at (Client client) (learnt_text learnt)

abbrev pub client_of : Played → Actor → Option ClientName
client_of run (actor.Client number) = slice_get run.names.clients number
client_of run other = None

abbrev pub learnt_at : Option ClientName → Option ClientResult → List Mark
learnt_at (Some client) (Some learnt) = learnt_mark client learnt ∷ []
learnt_at client learnt = []

abbrev pub learnt_marks : Played → Actor → Option ClientResult → List Mark
learnt_marks run actor learnt = learnt_at (client_of run actor) learnt

abbrev pub step_marks : Played → Option Noted → List Mark
step_marks run None = []
step_marks run (Some step) = served_marks run step.notes.served ++ learnt_marks run step.actor step.notes.result

-- ---- what was sent

-- a plaintext begins with its code (RFC 8613 section 5.3)
abbrev pub first_code : List ℕ → Option Code
first_code plaintext = option_map (λ code. record { 0 = code }) (slice_get plaintext 0)

abbrev pub sealed_code : Option Note → Option Code
sealed_code seals = option_and_then (λ note. first_code note.plaintext) seals

-- the code in what the step sealed, where the event sent one datagram
abbrev pub inner_of : Option Noted → List SentDatagram → Option Code
inner_of step sent = if length sent == 1 then option_and_then (λ step. sealed_code step.notes.seals) step else None

-- The datagram of this number, from 0, of which the first is drawn as 1: it arrives unless it waits still or is lost.
abbrev pub arrow : List ℕ → Moment → Option Code → ℕ → SentDatagram → Mark
arrow lost moment inner number datagram = mark.Arrow (record {
  way = Sent (number + 1);
  moment = moment;
  from = datagram.from;
  to = datagram.to;
  bytes = datagram.bytes;
  inner = inner;
  arrives = not datagram.waits && not (has lost number);
})

-- datagrams that are numbered as they are sent, of which the first has this number
abbrev pub arrows : List ℕ → Moment → Option Code → ℕ → List SentDatagram → List Mark
arrows lost moment inner number [] = []
arrows lost moment inner number (datagram ∷ datagrams) = arrow lost moment inner number datagram ∷ arrows lost moment inner (number + 1) datagrams

abbrev pub sent_marks : Played → Moment → Option Noted → Record → List Mark
sent_marks run moment step event =
    arrows run.lost.items moment (inner_of step (sent_at event run.stage.world.sent)) event.first (sent_at event run.stage.world.sent)

-- ---- an event, and all

-- what was served, what a client learnt, and each datagram that was sent, in order
abbrev pub event_marks : Played → Moment → Record → List Mark
event_marks run moment event =
    step_marks run (step_at event.step run.stage.world.steps) ++ sent_marks run moment (step_at event.step run.stage.world.steps) event

abbrev pub events_marks : Played → Moment → List Record → List Mark
events_marks run moment events = flat_map (event_marks run moment) events

-- the records of this number and after it, up to another
abbrev pub between : ℕ → ℕ → List Record → List Record
between first end records = take (end - first) (drop first records)

abbrev pub events_of : Scene → List Record → List Record
events_of scene records = between scene.first scene.end records

abbrev pub before_marks : Option Mark → List Mark
before_marks None = []
before_marks (Some mark) = mark ∷ []

-- what comes before a line's events, and then those
abbrev pub scene_marks : Played → Scene → List Mark
scene_marks run scene = before_marks scene.before ++ events_marks run scene.moment (events_of scene run.stage.world.records)

abbrev pub scenes_marks : Played → List Scene → List Mark
scenes_marks run scenes = flat_map (scene_marks run) scenes

abbrev pub marks_of : Played → List Mark
marks_of run = scenes_marks run run.scenes.items
