-- What a lab tells.
use Rattle.std.specs.Prelude.{◌≡◌, ◌≢◌, ◌↔◌, ℕ, Bool, true, false, IsTrue, List, [], ◌∷◌, ◌++◌, Option, Some, None, codes, length, option_to_list}
use Rattle.std.specs.List.{flat_map}
use Rattle.std.specs.Io.KnownBytes.{Appends}
use Rattle.osc_model.specs.declared.step.ClientResult.{ClientResult}
use Rattle.osc_run.specs.{history, Noted, collected}
use Rattle.osc_run.specs.Premise.{Premise}
use Rattle.osc_run.specs.declared.noted.Actor.{Actor}
use Rattle.osc_run.specs.declared.noted.Actor.TheVariants.{Client as ByClient}
use Rattle.osc_script.specs.declared.client_name.ClientName.{ClientName}
use Rattle.osc_script.specs.declared.line.Line.{Line}
use Rattle.osc_script.specs.declared.line.Line.TheVariants.{Exchange, Ask}
use Rattle.osc_simulation.specs.{granted, name_of_number, number_of, learnt_text, line, end_text}
use Rattle.osc_programs.specs.{IsFault}
use Rattle.osc_programs.specs.declared.ended.Ended.{Ended}
use Rattle.osc_programs.specs.declared.ended.Ended.TheVariants.{Failed}
use Rattle.osc_lab.specs.Lab.{is_waiting}
use Rattle.osc_lab.specs.Network.{Network}
use Rattle.osc_lab.specs.Turning.{Halts, Leads, LineBegins, LiveLab, TakesTurns}

-- ---- what is told

-- a client, by its number, and what it learnt
pub record Learnt : Type 0 where
  pub client : ℕ
  pub result : ClientResult

abbrev pub learnt_by : ℕ → Option ClientResult → Option Learnt
learnt_by number None = None
learnt_by number (Some result) = Some (record { client = number; result = result })

-- of a step: no other node learns
abbrev pub learnt_in : Actor → Option ClientResult → Option Learnt
learnt_in (ByClient number) result = learnt_by number result
learnt_in actor result = None

-- what clients learnt by these steps, the oldest first
abbrev pub learnt : List Noted → List Learnt
learnt steps = collected (λ step. learnt_in step.actor step.notes.result) steps

-- CLIENT RESULT
abbrev pub told_text : List ClientName → Learnt → List ℕ
told_text clients one = line (name_of_number clients one.client ++ codes " " ++ learnt_text one.result)

abbrev pub all_told : List ClientName → List Learnt → List ℕ
all_told clients all = flat_map (told_text clients) all

-- CLIENT open, where it waits still
abbrev pub open_text : List ℕ → Bool → List ℕ
open_text client true = line (client ++ codes " open")
open_text client false = []

-- ---- the lines of a script

-- the client that a line has do something
abbrev pub client_of : Line → Option ClientName
client_of (Exchange client) = Some client
client_of (Ask client request) = Some client
client_of other = None

-- the clients of a lab, by their numbers, and the most whole turns after a line that has one of them do something
pub record Rules : Type 0 where
  pub clients : List ClientName
  pub turns : ℕ

abbrev pub rules_of : ℕ → List Line → Rules
rules_of turns lines = record { clients = granted lines; turns = turns }

module _ {P : Type 0} (net : Network P) where
  -- The outcome of one of those, whose client has this number: it begins, and then the nodes take whole turns, as many as there may be as long
  -- as it waits or a node was busy. What clients learn by that is told, in order, and then that the line's client waits still, where it does.
  pub record TellsLine (rules : Rules) (asked : Line) (number : ℕ) (old : LiveLab P) (text : List ℕ) (new : LiveLab P) : Type 0 where
    pub begun : LiveLab P
    pub begins : LineBegins net asked number old begun
    pub takes : TakesTurns net number rules.turns begun new
    pub more : List Learnt
    pub learns : learnt new.lab.steps ≡ learnt old.lab.steps ++ more
    pub is : text ≡ all_told rules.clients more ++ open_text (name_of_number rules.clients number) (is_waiting new.lab.nodes.clients number)

  -- the outcome of a line, by the client that it has do something: other lines set the lab up
  abbrev pub ComesOf : Rules → Line → Option ClientName → LiveLab P → List ℕ → LiveLab P → Type 0
  ComesOf rules asked None old text new = (text ≡ []) × (new ≡ old)
  ComesOf rules asked (Some client) old text new = TellsLine rules asked (number_of rules.clients client) old text new

  -- one line after another
  pub data TellsLines (rules : Rules) (first : LiveLab P) : List Line → List ℕ → LiveLab P → Type 0 where
    no_line : TellsLines rules first [] [] first
    next_line : (lines : List Line) (next : Line) (text some : List ℕ) (between last : LiveLab P) → TellsLines rules first lines text between
        → ComesOf rules next (client_of next) between some last → TellsLines rules first (lines ++ next ∷ []) (text ++ some) last

  -- All that a lab prints: the outcome of the lines, and after it the last lines, by what its nodes noted.
  pub record Prints (turns : ℕ) (lines : List Line) (first : LiveLab P) (text : List ℕ) (last : LiveLab P) : Type 0 where
    pub told : List ℕ
    pub tells : TellsLines (rules_of turns lines) first lines told last
    pub held : Bool
    pub holds : IsTrue held ↔ Premise last.lab.minted last.lab.steps
    pub is : text ≡ told ++ end_text last.lab.nodes.server.tree (length (history last.lab.steps)) held

  -- What a lab printed that ends early: the outcome of the lines before, and of the next one all that clients learnt but the last result at
  -- most.
  pub record BreaksOff (turns : ℕ) (lines : List Line) (first : LiveLab P) (text : List ℕ) (last : LiveLab P) : Type 0 where
    pub before : List Line
    pub after : List Line
    pub whole : lines ≡ before ++ after
    pub told : List ℕ
    pub between : LiveLab P
    pub tells : TellsLines (rules_of turns lines) first before told between
    pub reached : LiveLab P
    pub leads : Leads net between reached
    pub halts : Halts net reached last
    pub more : List Learnt
    pub untold : Option Learnt
    pub learns : learnt last.lab.steps ≡ learnt between.lab.steps ++ (more ++ option_to_list untold)
    pub is : text ≡ told ++ all_told (granted lines) more

-- It ended early, by a fault, with such a text written; of an output that failed nothing is said.
abbrev pub EndsWith : (List ℕ → Type 0) → Ended → Option (List ℕ) → Option (List ℕ) → Type 0
EndsWith IsText ended written written_after = IsFault ended × (text : List ℕ) × IsText text × (ended ≢ Failed → Appends written written_after text)
