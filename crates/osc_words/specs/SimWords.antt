-- What the values of the options of `osc sim` stand for.
use Rattle.std.specs.Prelude.{◌≡◌, List, ℕ, Option, Some, None, if◌then◌else◌, codes}
use Rattle.std.specs.Str.{bytes_eq}
use Rattle.clap.specs.Words.{Row}
use Rattle.osc_words.specs.NamedOptions.{value_of}
use Rattle.osc_words.specs.Options.{is_set}
use Rattle.osc_words.specs.Values.{IsGiven, SpellsClient}
use Rattle.osc_words.specs.declared.named_option.NamedOption.TheVariants.{SimOnly, SimDiagram, SimPcap}
use Rattle.osc_words.specs.declared.sim_words.DiagramForm.{DiagramForm}
use Rattle.osc_words.specs.declared.sim_words.DiagramForm.TheVariants.{Text, Svg}
use Rattle.osc_words.specs.declared.sim_words.SimWords.{SimWords}

-- the form of this name, if there is one
abbrev pub form_named : List ℕ → Option DiagramForm
form_named text = if bytes_eq text (codes "text") then Some Text else if bytes_eq text (codes "svg") then Some Svg else None

abbrev pub SpellsForm : List ℕ → DiagramForm → Type 0
SpellsForm text form = form_named text ≡ Some form

pub record AreSimWords (rows : List Row) (words : SimWords) : Type 0 where
  pub bytes : words.bytes ≡ is_set (codes "bytes") rows
  pub lines : words.lines ≡ is_set (codes "lines") rows
  pub only : IsGiven SpellsClient (value_of SimOnly rows) words.only
  pub diagram : IsGiven SpellsForm (value_of SimDiagram rows) words.diagram
  pub pcap : words.pcap ≡ value_of SimPcap rows
