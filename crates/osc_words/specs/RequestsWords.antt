-- What the values of the options of `osc client` stand for where its requests are in a file.
use Rattle.std.specs.Prelude.{◌≡◌, List, Some, codes}
use Rattle.clap.specs.Words.{Row}
use Rattle.osc_script.specs.{SpellsNumber}
use Rattle.osc_words.specs.ClientWords.{SaysPatience}
use Rattle.osc_words.specs.NamedOptions.{value_of}
use Rattle.osc_words.specs.Options.{is_set}
use Rattle.osc_words.specs.Values.{IsGiven}
use Rattle.osc_words.specs.declared.client_option.ClientOption.{ClientOption}
use Rattle.osc_words.specs.declared.client_option.ClientOption.TheVariants.{Turns, Timeout, Config, Requests, Every}
use Rattle.osc_words.specs.declared.named_option.NamedOption.TheVariants.{Client}
use Rattle.osc_words.specs.declared.requests_words.RequestsWords.{RequestsWords}

-- what an option says of the client
abbrev pub Says : List Row → ClientOption → RequestsWords → Type 0
Says rows Turns words = SaysPatience rows words.patience
Says rows Timeout words = SaysPatience rows words.patience
Says rows Requests words = value_of (Client Requests) rows ≡ Some words.requests
Says rows Every words = IsGiven SpellsNumber (value_of (Client Every) rows) words.every
Says rows Config words = words.config ≡ value_of (Client Config) rows
Says rows option words = Unit {0}

-- what each option says of the client is so, and each flag
pub record AreRequestsWords (rows : List Row) (words : RequestsWords) : Type 0 where
  pub options : (option : ClientOption) → Says rows option words
  pub again : words.again ≡ is_set (codes "again") rows
  pub check : words.check ≡ is_set (codes "check") rows

-- an option says nothing: it has no value that it may have
abbrev pub SaysNothing : List Row → ClientOption → Type 0
SaysNothing rows option = (words : RequestsWords) → ¬ Says rows option words
