-- What the lines of a script add to its diagram.
use Rattle.std.specs.Prelude.{◌≡◌, ℕ, ◌+◌, ◌==◌, ◌||◌, Bool, true, false, not, if◌then◌else◌, List, [], ◌∷◌, ◌++◌, filter, length, Option, Some, None, codes, slice_get}
use Rattle.std.specs.List.{list_any}
use Rattle.std.specs.Option.{option_map_or}
use Rattle.osc_diagram.specs.declared.chart.chart.Mark.{Mark}
use Rattle.osc_diagram.specs.declared.chart.chart.Mark.TheVariants as mark
use Rattle.osc_diagram.specs.declared.chart.chart.Way.{Way}
use Rattle.osc_diagram.specs.declared.chart.chart.Way.TheVariants.{Again, Forged}
use Rattle.osc_model.specs.declared.node.Moment.{Moment}
use Rattle.osc_model.specs.declared.node.Peer.{Peer}
use Rattle.osc_script.specs.{address_of}
use Rattle.osc_script.specs.declared.line.Line.{Line}
use Rattle.osc_script.specs.declared.line.Line.TheVariants as line
use Rattle.osc_script.specs.declared.node.NodeName.{NodeName}
use Rattle.osc_simulation.specs.{Does, datagram_number, what_of}
use Rattle.osc_simulation.specs.Names.{Names}
use Rattle.osc_simulation.specs.declared.stage.Stage.{Stage}
use Rattle.osc_world.specs.declared.event.What.{What}
use Rattle.osc_world.specs.declared.event.What.TheVariants.{Deliver, Inject}
use Rattle.osc_world.specs.declared.log.SentDatagram.{SentDatagram}
use Rattle.osc_diagram.specs.declared.scene.Scene.{Scene}

abbrev pub has : List ℕ → ℕ → Bool
has numbers number = list_any (λ other. other == number) numbers

-- ---- what no node sends then

-- a datagram comes, by the network
abbrev pub comes : Way → Moment → Peer → Peer → List ℕ → Option Mark
comes way moment from to bytes =
    Some (mark.Arrow (record { way = way; moment = moment; from = from; to = to; bytes = bytes; inner = None; arrives = true }))

-- one that was sent, of this number from 0, comes again where it neither waits nor was lost
abbrev pub comes_again : Moment → List ℕ → ℕ → SentDatagram → Option Mark
comes_again moment lost number datagram =
    if datagram.waits || has lost number then None else comes (Again (number + 1)) moment datagram.from datagram.to datagram.bytes

abbrev pub again_of : Moment → List ℕ → ℕ → Option SentDatagram → Option Mark
again_of moment lost number None = None
again_of moment lost number (Some datagram) = comes_again moment lost number datagram

abbrev pub came_again : Stage → List ℕ → ℕ → Option Mark
came_again stage lost number = again_of stage.moment lost number (slice_get stage.world.sent number)

abbrev pub came : Stage → List ℕ → What → Option Mark
came stage lost (Inject from to bytes) = comes Forged stage.moment from to bytes
came stage lost (Deliver datagram) = came_again stage lost datagram
came stage lost other = None

abbrev pub came_of : Stage → List ℕ → Option What → Option Mark
came_of stage lost None = None
came_of stage lost (Some what) = came stage lost what

abbrev pub came_by : Names → Stage → List ℕ → Line → Option Mark
came_by names stage lost said = came_of stage lost (what_of names stage.world.sent said)

-- ---- what is drawn before the events of a line

abbrev pub starts_again : NodeName → Option Mark
starts_again node = Some (mark.Note (address_of node) (codes "starts again"))

-- a moment, a node that starts again, or a datagram that no node sends then
abbrev pub before_of : Names → Stage → List ℕ → Line → Option Mark
before_of names stage lost (line.At moment) = Some (mark.Time moment)
before_of names stage lost (line.Restart node) = starts_again node
before_of names stage lost other = came_by names stage lost other

-- ---- what is lost

abbrev pub waits : List SentDatagram → ℕ → Bool
waits sent number = option_map_or (λ datagram. datagram.waits) (slice_get sent number) false

-- a datagram is dropped, if it waits
abbrev pub with_lost : List SentDatagram → ℕ → List ℕ → List ℕ
with_lost sent number lost = if waits sent number then lost ++ number ∷ [] else lost

abbrev pub without : ℕ → List ℕ → List ℕ
without number numbers = filter (λ other. not (other == number)) numbers

-- the datagrams that were dropped and didn't come since, by their numbers from 0
abbrev pub lost_after : List SentDatagram → Line → List ℕ → List ℕ
lost_after sent (line.Drop datagram) lost = with_lost sent (datagram_number sent datagram) lost
lost_after sent (line.Deliver datagram) lost = without (datagram_number sent datagram) lost
lost_after sent other lost = lost

-- ---- line by line

-- how far a script has come: its stage, and what is lost
pub record Place : Type 0 where
  pub stage : Stage
  pub lost : List ℕ

-- a line is done, and this is its scene
pub record Plays (names : Names) (old : Place) (said : Line) (scene : Scene) (new : Place) : Type 0 where
  pub quiet : Bool
  pub does : Does names old.stage said quiet new.stage
  pub lost : new.lost ≡ lost_after old.stage.world.sent said old.lost
  pub before : scene.before ≡ before_of names old.stage old.lost said
  pub moment : scene.moment ≡ new.stage.moment
  pub first : scene.first ≡ length old.stage.world.records
  pub end : scene.end ≡ length new.stage.world.records

-- lines one after another, with a scene for each
abbrev pub PlayAll : Names → Place → List Line → List Scene → Place → Type 0
PlayAll names old [] scenes last = (scenes ≡ []) × (last ≡ old)
PlayAll names old (said ∷ lines) scenes last =
    (scene : Scene) × (rest : List Scene) × (next : Place) × Plays names old said scene next × PlayAll names next lines rest last × (scenes ≡ scene ∷ rest)
