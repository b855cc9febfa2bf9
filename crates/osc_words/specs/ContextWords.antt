-- What the values of the options of `osc context` stand for.
use Rattle.std.specs.Prelude.{◌≡◌, ℕ, List, Option, Some, None, if◌then◌else◌, codes}
use Rattle.std.specs.Str.{bytes_eq}
use Rattle.clap.specs.Words.{Row}
use Rattle.osc_words.specs.NamedOptions.{value_of}
use Rattle.osc_words.specs.Times.{SpellsPatience}
use Rattle.osc_words.specs.Values.{IsGiven}
use Rattle.osc_words.specs.declared.named_option.NamedOption.TheVariants as option
use Rattle.osc_words.specs.declared.context_words.ContextForm.{ContextForm}
use Rattle.osc_words.specs.declared.context_words.ContextForm.TheVariants.{Libcoap, Aiocoap, Json}
use Rattle.osc_words.specs.declared.context_words.ContextWords.{ContextWords}

-- the form of this name, if there is one
abbrev pub context_form_named : List ℕ → Option ContextForm
context_form_named text =
    if bytes_eq text (codes "libcoap") then Some Libcoap
    else if bytes_eq text (codes "aiocoap") then Some Aiocoap
    else if bytes_eq text (codes "json") then Some Json
    else None

abbrev pub SpellsContextForm : List ℕ → ContextForm → Type 0
SpellsContextForm text form = context_form_named text ≡ Some form

pub record AreContextWords (rows : List Row) (words : ContextWords) : Type 0 where
  pub form : IsGiven SpellsContextForm (value_of option.ContextForm rows) (Some words.form)
  pub patience : SpellsPatience (value_of option.ContextTimeout rows) words.patience
  pub out : words.out ≡ value_of option.ContextOut rows
  pub config : words.config ≡ value_of option.NodeConfig rows
