-- What the reading of words gives, part by part.
use Rattle.std.specs.Prelude.{◌≡◌, ◌⊎◌, ◌||◌, ℕ, Bool, true, false, List, MatchResult, Option, Some, Result, codes, is_some, not}
use Rattle.std.specs.Option.{option_map_or}
use Rattle.std.specs.Str.{bytes_eq}
use Rattle.clap.specs.Words.{Row, Text}
use Rattle.osc_words.specs.ClientWords as client
use Rattle.osc_words.specs.Command.{AreWords, HasNothing, HasNotOne}
use Rattle.osc_words.specs.Choices.{IsNotOne, command_of}
use Rattle.osc_words.specs.ContextWords.{SpellsContextForm}
use Rattle.osc_words.specs.NamedOptions as named
use Rattle.osc_words.specs.NodeWords.{SayCounters, SpellsLogForm}
use Rattle.osc_words.specs.Options.{value_of}
use Rattle.osc_words.specs.RequestsWords as requests
use Rattle.osc_words.specs.Sources.{file_option_of, option_of}
use Rattle.osc_words.specs.Times.{SpellsPatience}
use Rattle.osc_words.specs.TokenWords as token
use Rattle.osc_words.specs.Values.{IsGiven, SpellsTurns}
use Rattle.osc_words.specs.declared.choice.Choice.TheVariants.{Hidden, Patience}
use Rattle.osc_words.specs.declared.client_option.ClientOption.TheVariants.{Turns, Timeout}
use Rattle.osc_words.specs.declared.hidden_option.HiddenOption.{HiddenOption}
use Rattle.osc_words.specs.declared.named_option.NamedOption.{NamedOption}
use Rattle.osc_words.specs.declared.named_option.NamedOption.TheVariants.{Client, ContextForm, ContextTimeout, NodeCounters, NodeLog, Token}
use Rattle.osc_words.specs.declared.times.Patience.{Patience as AnyPatience}
use Rattle.osc_words.specs.declared.words.Words.{Words}
use Rattle.osc_words.specs.declared.words.WordsError.{WordsError}
use Rattle.osc_words.specs.declared.words.WordsError.TheVariants.{Clap, Value, NotOne, Unread, Memory}

-- an option is refused since nothing is such
abbrev pub IsRefusalOf : {X : Type 0} → NamedOption → (X → Type 0) → WordsError → Type 0
IsRefusalOf option P (Clap error) = ⊥
IsRefusalOf {X} option P (Value refused) = (refused ≡ option) × ((x : X) → ¬ P x)
IsRefusalOf option P (NotOne hidden) = ⊥
IsRefusalOf option P (Unread hidden) = ⊥
IsRefusalOf option P Memory = Unit {0}

-- a node's `--turns`, which is this option, is refused, or its `--log`, or its `--counters`
abbrev pub IsNodeRefusal : NamedOption → List Row → WordsError → Type 0
IsNodeRefusal turns rows error =
    IsRefusalOf turns (SpellsTurns (named.value_of turns rows)) error
    ⊎ (IsRefusalOf NodeLog (IsGiven SpellsLogForm (named.value_of NodeLog rows)) error ⊎ IsRefusalOf NodeCounters (SayCounters rows) error)

-- a value that others should not see is in this file, or in none and is given
abbrev pub IsInOne : HiddenOption → List Row → Option (List ℕ) → Type 0
IsInOne option rows file =
    (value_of (file_option_of option) rows ≡ file) × (is_some (value_of (option_of option) rows) ≡ not (is_some file))

-- both options of it are given, or neither
abbrev pub IsNotOneOf : HiddenOption → List Row → WordsError → Type 0
IsNotOneOf option rows (NotOne refused) = (refused ≡ Hidden option) × IsNotOne rows (Hidden option)
IsNotOneOf option rows Memory = Unit {0}
IsNotOneOf option rows error = ⊥

-- an option of these of `osc token` says nothing
abbrev pub IsRefusal : List Row → WordsError → Type 0
IsRefusal rows (Value (Token option)) = token.SaysNothing rows option
IsRefusal rows (NotOne choice) = (command_of choice ≡ codes "token") × IsNotOne rows choice
IsRefusal rows Memory = Unit {0}
IsRefusal rows error = ⊥

-- of these of `osc client`
abbrev pub IsClientRefusal : List Row → WordsError → Type 0
IsClientRefusal rows (Value (Client option)) = client.SaysNothing rows option
IsClientRefusal rows (NotOne choice) = (command_of choice ≡ codes "client") × IsNotOne rows choice
IsClientRefusal rows Memory = Unit {0}
IsClientRefusal rows error = ⊥

-- neither of the options of patience says anything, or they aren't given as they have to be
abbrev pub IsPatienceRefusal : List Row → WordsError → Type 0
IsPatienceRefusal rows (Value option) = ((option ≡ Client Turns) ⊎ (option ≡ Client Timeout)) × ((patience : AnyPatience) → ¬ client.SaysPatience rows patience)
IsPatienceRefusal rows (NotOne choice) = (choice ≡ Patience) × IsNotOne rows Patience
IsPatienceRefusal rows Memory = Unit {0}
IsPatienceRefusal rows error = ⊥

-- an option says nothing where a file of requests is named
abbrev pub IsRequestsRefusal : List Row → WordsError → Type 0
IsRequestsRefusal rows (Value (Client option)) = requests.SaysNothing rows option
IsRequestsRefusal rows (NotOne choice) = (choice ≡ Patience) × IsNotOne rows Patience
IsRequestsRefusal rows Memory = Unit {0}
IsRequestsRefusal rows error = ⊥

-- the form of a context is refused, or how long one waits for it
abbrev pub IsContextRefusal : List Row → WordsError → Type 0
IsContextRefusal rows error =
    IsRefusalOf ContextForm (λ form. IsGiven SpellsContextForm (named.value_of ContextForm rows) (Some form)) error
    ⊎ IsRefusalOf ContextTimeout (SpellsPatience (named.value_of ContextTimeout rows)) error

abbrev pub IsRefusalIn : Option (Text × List Row) → WordsError → Type 0
IsRefusalIn entered (Clap error) = ⊥
IsRefusalIn entered (Value refused) = HasNothing entered refused
IsRefusalIn entered (NotOne choice) = HasNotOne entered choice
IsRefusalIn entered (Unread option) = ⊥
IsRefusalIn entered Memory = Unit {0}

-- the name of a subcommand of the program
abbrev pub is_subcommand : Text → Bool
is_subcommand name = bytes_eq name (codes "sim") || bytes_eq name (codes "token") || bytes_eq name (codes "key") || bytes_eq name (codes "store") || bytes_eq name (codes "server")
    || bytes_eq name (codes "proxy") || bytes_eq name (codes "client") || bytes_eq name (codes "context") || bytes_eq name (codes "lab")

-- a subcommand of the program was entered
abbrev pub IsKnown : Option (Text × List Row) → Type 0
IsKnown entered = option_map_or (λ entered. is_subcommand entered.0) entered false ≡ true

-- the subcommand that was entered, with its rows, asks for what was read, or has this refused
abbrev pub IsReadFrom : Option (Text × List Row) → Result Words WordsError → Type 0
IsReadFrom entered result = MatchResult result (AreWords entered) (IsRefusalIn entered)
