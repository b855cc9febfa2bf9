-- The command line, and what its words stand for.
use Rattle.std.specs.Prelude.{◌≡◌, ◌⊎◌, ℕ, ◌<◌, true, false, List, [], ◌∷◌, Option, Some, None, codes, fold}
use Rattle.clap.specs.Words.{App, IsAmong, Row, Text, fault_of, kind_of, new_app, subcommand_of, with_rule, with_subcommand}
use Rattle.clap.specs.declared.error.Error.{Error}
use Rattle.clap.specs.declared.error.kind.ErrorKind.{ErrorKind}
use Rattle.clap.specs.declared.error.kind.ErrorKind.TheVariants as kind
use Rattle.osc_script.specs.{SpellsNumber}
use Rattle.osc_script.specs.declared.client_name.ClientName.{ClientName}
use Rattle.osc_words.specs.ClientOptions as of_client
use Rattle.osc_words.specs.ClientWords as client
use Rattle.osc_words.specs.Choices.{AsksMany, AsksOne, IsNotOne, command_of, not_one_text}
use Rattle.osc_words.specs.ContextWords.{AreContextWords, SpellsContextForm}
use Rattle.osc_words.specs.NamedOptions.{refusal_text, unread_text, value_of}
use Rattle.osc_words.specs.NodeWords.{AreNodeWords, SayCounters, SpellsLogForm}
use Rattle.osc_words.specs.Options.{flag_rule, form_rule, is_set, option_rule, value_rule, word_rule}
use Rattle.osc_words.specs.RequestsWords as requests
use Rattle.osc_words.specs.SimWords.{AreSimWords, SpellsForm}
use Rattle.osc_words.specs.StoreWords.{AreStoreWords}
use Rattle.osc_words.specs.Times.{SpellsPatience}
use Rattle.osc_words.specs.TokenWords as token
use Rattle.osc_words.specs.Values.{IsGiven, SpellsClient, SpellsTurns}
use Rattle.osc_words.specs.declared.client_option.ClientOption.{ClientOption}
use Rattle.osc_words.specs.declared.client_option.ClientOption.TheVariants as client_option
use Rattle.osc_words.specs.declared.choice.Choice.{Choice}
use Rattle.osc_words.specs.declared.context_words.ContextForm.{ContextForm}
use Rattle.osc_words.specs.declared.named_option.NamedOption.{NamedOption}
use Rattle.osc_words.specs.declared.named_option.NamedOption.TheVariants as option
use Rattle.osc_words.specs.declared.node_words.LogForm.{LogForm}
use Rattle.osc_words.specs.declared.sim_words.DiagramForm.{DiagramForm}
use Rattle.osc_words.specs.declared.times.Patience.{Patience}
use Rattle.osc_words.specs.declared.token_option.TokenOption.{TokenOption}
use Rattle.osc_words.specs.declared.token_option.TokenOption.TheVariants as token_option
use Rattle.osc_words.specs.declared.words.Words.{Words}
use Rattle.osc_words.specs.declared.words.Words.TheVariants.{Sim, Token, Key, Store, Server, Proxy, Client, Requests, Context, Lab}
use Rattle.osc_words.specs.declared.words.WordsError.{WordsError}
use Rattle.osc_words.specs.declared.words.WordsError.TheVariants.{Clap, Value, NotOne, Unread, Memory}

-- osc sim [--bytes] [--lines] [--only CLIENT] [--diagram[=FORM]] [--pcap FILE]
abbrev pub sim_app : App
sim_app =
    with_rule (with_rule (with_rule (with_rule (with_rule (new_app (codes "sim")) (flag_rule (codes "bytes"))) (flag_rule (codes "lines"))) (value_rule (codes "only") false))
    (form_rule (codes "diagram") (codes "text"))) (value_rule (codes "pcap") false)

abbrev pub token_options : List TokenOption
token_options =
    token_option.Key ∷ token_option.KeyFile ∷ token_option.Audience ∷ token_option.Id ∷ token_option.Secret ∷ token_option.SecretFile ∷ token_option.Scope ∷ token_option.Salt
    ∷ token_option.Context ∷ token_option.Algorithm ∷ token_option.Expires ∷ token_option.Lasts ∷ token_option.NotBefore ∷ token_option.Iv ∷ []

-- osc token --key HEX | --key-file FILE --aud TEXT --id HEX --secret HEX | --secret-file FILE --scope TEXT [--salt HEX] [--context HEX] [--alg N] [--exp N | --for TIME] [--nbf N] [--iv HEX]
abbrev pub token_app : App
token_app = fold (λ app option. with_rule app (option_rule option)) (new_app (codes "token")) token_options

-- osc key
abbrev pub key_app : App
key_app = new_app (codes "key")

-- osc store [--dump] [--until-damage] [--backup TO] FILE
abbrev pub store_app : App
store_app =
    with_rule (with_rule (with_rule (with_rule (new_app (codes "store")) (flag_rule (codes "dump"))) (flag_rule (codes "until-damage"))) (value_rule (codes "backup") false))
    (word_rule (codes "file"))

-- osc NAME [--config FILE] [--check] [--turns N] [--log[=FORM]] [--counters SECONDS]
abbrev pub node_app : Text → App
node_app name =
    with_rule (with_rule (with_rule (with_rule (with_rule (new_app name) (value_rule (codes "config") false)) (flag_rule (codes "check"))) (value_rule (codes "turns") false))
    (form_rule (codes "log") (codes "text"))) (value_rule (codes "counters") false)

-- osc lab --turns N [--ipv6]
abbrev pub lab_app : App
lab_app = with_rule (with_rule (new_app (codes "lab")) (value_rule (codes "turns") true)) (flag_rule (codes "ipv6"))

abbrev pub client_options : List ClientOption
client_options =
    client_option.Turns ∷ client_option.Timeout ∷ client_option.Method ∷ client_option.Path ∷ client_option.Payload ∷ client_option.Text ∷ client_option.PayloadFile
    ∷ client_option.Format ∷ client_option.Config ∷ client_option.Requests ∷ client_option.Every ∷ []

-- osc client --turns N | --timeout SECONDS --method METHOD --path PATH [--payload HEX | --text TEXT | --payload-file FILE] [--format N] [--raw] [--config FILE] [--check]
-- osc client --turns N | --timeout SECONDS --requests FILE [--every SECONDS] [--again] [--config FILE] [--check]
abbrev pub client_app : App
client_app =
    with_rule (with_rule (with_rule (fold (λ app option. with_rule app (of_client.option_rule option)) (new_app (codes "client")) client_options) (flag_rule (codes "raw")))
    (flag_rule (codes "again"))) (flag_rule (codes "check"))

-- osc context --form FORM [--timeout SECONDS] [--config FILE] [--out TO]
abbrev pub context_app : App
context_app =
    with_rule (with_rule (with_rule (with_rule (new_app (codes "context")) (value_rule (codes "form") true)) (value_rule (codes "timeout") false)) (value_rule (codes "config") false))
    (value_rule (codes "out") false)

-- a program of one subcommand or more, which wants one, with a version
abbrev pub bare_program : App
bare_program = record { top = record (new_app (codes "osc")).top { subcommand_required = true; has_version = true }; subs = (new_app (codes "osc")).subs }

abbrev pub program : App
program = fold (λ app command. with_subcommand app command.top) bare_program
    (sim_app ∷ token_app ∷ key_app ∷ store_app ∷ node_app (codes "server") ∷ node_app (codes "proxy") ∷ client_app ∷ context_app ∷ lab_app ∷ [])

-- the subcommand that was entered, with its rows, asks for this
abbrev pub AreWords : Option (Text × List Row) → Words → Type 0
AreWords None words = ⊥
AreWords (Some entered) (Sim words) = (entered.0 ≡ codes "sim") × AreSimWords entered.1 words
AreWords (Some entered) (Token asked) = (entered.0 ≡ codes "token") × token.AreTokenWords entered.1 asked
AreWords (Some entered) Key = entered.0 ≡ codes "key"
AreWords (Some entered) (Store words) = (entered.0 ≡ codes "store") × AreStoreWords entered.1 words
AreWords (Some entered) (Server words) = (entered.0 ≡ codes "server") × AreNodeWords option.ServerTurns entered.1 words
AreWords (Some entered) (Proxy words) = (entered.0 ≡ codes "proxy") × AreNodeWords option.ProxyTurns entered.1 words
AreWords (Some entered) (Client words) = (entered.0 ≡ codes "client") × AsksOne entered.1 × client.AreClientWords entered.1 words
AreWords (Some entered) (Requests words) = (entered.0 ≡ codes "client") × AsksMany entered.1 words.requests × requests.AreRequestsWords entered.1 words
AreWords (Some entered) (Context words) = (entered.0 ≡ codes "context") × AreContextWords entered.1 words
AreWords (Some entered) (Lab turns ipv6) =
    (entered.0 ≡ codes "lab") × IsGiven SpellsNumber (value_of option.LabTurns entered.1) (Some turns) × (ipv6 ≡ is_set (codes "ipv6") entered.1)

-- an option of `osc client` says nothing, whether one thing is asked for or many
abbrev pub AsksNothing : List Row → ClientOption → Type 0
AsksNothing rows refused =
    (AsksOne rows → client.SaysNothing rows refused) × ((file : List ℕ) → AsksMany rows file → requests.SaysNothing rows refused)

-- an option of the subcommand that was entered says nothing
abbrev pub HasNothing : Option (Text × List Row) → NamedOption → Type 0
HasNothing None option = ⊥
HasNothing (Some entered) option.SimOnly = (entered.0 ≡ codes "sim") × ((only : Option ClientName) → ¬ IsGiven SpellsClient (value_of option.SimOnly entered.1) only)
HasNothing (Some entered) option.SimDiagram = (entered.0 ≡ codes "sim") × ((form : Option DiagramForm) → ¬ IsGiven SpellsForm (value_of option.SimDiagram entered.1) form)
HasNothing (Some entered) option.SimPcap = ⊥
HasNothing (Some entered) option.ServerTurns = (entered.0 ≡ codes "server") × ((turns : ℕ) → ¬ SpellsTurns (value_of option.ServerTurns entered.1) turns)
HasNothing (Some entered) option.ProxyTurns = (entered.0 ≡ codes "proxy") × ((turns : ℕ) → ¬ SpellsTurns (value_of option.ProxyTurns entered.1) turns)
HasNothing (Some entered) option.NodeConfig = ⊥
HasNothing (Some entered) option.NodeLog =
    ((entered.0 ≡ codes "server") ⊎ (entered.0 ≡ codes "proxy")) × ((form : Option LogForm) → ¬ IsGiven SpellsLogForm (value_of option.NodeLog entered.1) form)
HasNothing (Some entered) option.NodeCounters =
    ((entered.0 ≡ codes "server") ⊎ (entered.0 ≡ codes "proxy")) × ((seconds : ℕ) → ¬ SayCounters entered.1 seconds)
HasNothing (Some entered) option.StoreFile = (entered.0 ≡ codes "store") × (value_of option.StoreFile entered.1 ≡ None)
HasNothing (Some entered) option.StoreBackup = ⊥
HasNothing (Some entered) (option.Client refused) = AsksNothing entered.1 refused × (entered.0 ≡ codes "client")
HasNothing (Some entered) option.ContextForm =
    (entered.0 ≡ codes "context") × ((form : ContextForm) → ¬ IsGiven SpellsContextForm (value_of option.ContextForm entered.1) (Some form))
HasNothing (Some entered) option.ContextTimeout = (entered.0 ≡ codes "context") × ((patience : Patience) → ¬ SpellsPatience (value_of option.ContextTimeout entered.1) patience)
HasNothing (Some entered) option.ContextOut = ⊥
HasNothing (Some entered) option.LabTurns = (entered.0 ≡ codes "lab") × ((turns : ℕ) → ¬ IsGiven SpellsNumber (value_of option.LabTurns entered.1) (Some turns))
HasNothing (Some entered) (option.Token refused) = (entered.0 ≡ codes "token") × token.SaysNothing entered.1 refused

-- the options of a value of the subcommand that was entered aren't given as they have to be
abbrev pub HasNotOne : Option (Text × List Row) → Choice → Type 0
HasNotOne None choice = ⊥
HasNotOne (Some entered) choice = (entered.0 ≡ command_of choice) × IsNotOne entered.1 choice

-- what the words of a command line stand for
abbrev pub StandFor : List Text → Words → Type 0
StandFor words read = AreWords (subcommand_of program words) read

-- a client asks by a method: the code is 1 to 4 (RFC 7252 section 12.1.1)
abbrev pub AsksByMethod : Words → Type 0
AsksByMethod (Client words) = (0 < words.request.code.0) × (words.request.code.0 < 5)
AsksByMethod words = Unit {0}

-- Why they mean nothing: a fault of theirs, or a wish for help; else the value of an option, or the options of one value.
abbrev pub HaveFault : List Text → WordsError → Type 0
HaveFault words (Clap error) = IsAmong (kind_of error) (fault_of program words)
HaveFault words (Value option) = (fault_of program words ≡ []) × HasNothing (subcommand_of program words) option
HaveFault words (NotOne choice) = (fault_of program words ≡ []) × HasNotOne (subcommand_of program words) choice
HaveFault words (Unread option) = ⊥
HaveFault words Memory = Unit {0}

-- what clap's error becomes
abbrev pub told_as : ErrorKind → Error → WordsError
told_as kind.OutOfMemory error = Memory
told_as other error = Clap error

-- the line that tells of a fault; a fault of the words is told as clap tells it
abbrev pub IsFaultLine : WordsError → List ℕ → Type 0
IsFaultLine (Clap error) line = Unit {0}
IsFaultLine (Value option) line = line ≡ refusal_text option
IsFaultLine (NotOne choice) line = line ≡ not_one_text choice
IsFaultLine (Unread option) line = line ≡ unread_text option
IsFaultLine Memory line = line ≡ codes "out of memory"
