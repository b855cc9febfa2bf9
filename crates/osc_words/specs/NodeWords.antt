-- What the values of the options of `osc server` and `osc proxy` stand for.
use Rattle.std.specs.Prelude.{◌≡◌, ◌≤◌, ℕ, List, Option, Some, None, if◌then◌else◌, codes}
use Rattle.std.specs.Str.{bytes_eq}
use Rattle.clap.specs.Words.{Row}
use Rattle.osc_script.specs.{SpellsNumber}
use Rattle.osc_words.specs.NamedOptions.{value_of}
use Rattle.osc_words.specs.Options.{is_set}
use Rattle.osc_words.specs.Values.{IsGiven, SpellsTurns}
use Rattle.osc_words.specs.declared.named_option.NamedOption.{NamedOption}
use Rattle.osc_words.specs.declared.named_option.NamedOption.TheVariants.{NodeConfig, NodeCounters, NodeLog}
use Rattle.osc_words.specs.declared.node_words.LogForm.{LogForm}
use Rattle.osc_words.specs.declared.node_words.LogForm.TheVariants.{Text, Json}
use Rattle.osc_words.specs.declared.node_words.NodeWords.{NodeWords}

-- the form of this name, if there is one
abbrev pub log_form_named : List ℕ → Option LogForm
log_form_named text = if bytes_eq text (codes "text") then Some Text else if bytes_eq text (codes "json") then Some Json else None

abbrev pub SpellsLogForm : List ℕ → LogForm → Type 0
SpellsLogForm text form = log_form_named text ≡ Some form

-- a number of seconds, 1 to 4294967295
pub record SpellsCounters (text : List ℕ) (seconds : ℕ) : Type 0 where
  pub number : SpellsNumber text seconds
  pub least : 1 ≤ seconds
  pub most : seconds ≤ 4294967295

-- After how many seconds a log tells its counters: as it is given, beside the log alone, and an hour where it isn't.
abbrev pub AreCounters : Option (List ℕ) → Option (List ℕ) → ℕ → Type 0
AreCounters log None seconds = seconds ≡ 3600
AreCounters (Some log) (Some text) seconds = SpellsCounters text seconds
AreCounters None (Some text) seconds = ⊥

abbrev pub SayCounters : List Row → ℕ → Type 0
SayCounters rows seconds = AreCounters (value_of NodeLog rows) (value_of NodeCounters rows) seconds

-- `--turns` of this node is this option
pub record AreNodeWords (turns_option : NamedOption) (rows : List Row) (words : NodeWords) : Type 0 where
  pub turns : SpellsTurns (value_of turns_option rows) words.turns
  pub log : IsGiven SpellsLogForm (value_of NodeLog rows) words.log
  pub counters : SayCounters rows words.counters
  pub check : words.check ≡ is_set (codes "check") rows
  pub config : words.config ≡ value_of NodeConfig rows
