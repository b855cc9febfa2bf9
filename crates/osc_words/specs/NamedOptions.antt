-- The options that have a value, of all subcommands.
use Rattle.std.specs.Prelude.{ℕ, List, ◌++◌, codes, Option}
use Rattle.clap.specs.Words.{Row, first_of}
use Rattle.osc_words.specs.ClientOptions as client
use Rattle.osc_words.specs.Options as token
use Rattle.osc_words.specs.declared.named_option.NamedOption.{NamedOption}
use Rattle.osc_words.specs.declared.named_option.NamedOption.TheVariants.{SimOnly, SimDiagram, SimPcap, NodeConfig, NodeLog, NodeCounters, StoreFile, StoreBackup, Client, ContextForm, ContextTimeout, ContextOut, Token}

abbrev pub name_of : NamedOption → List ℕ
name_of SimOnly = codes "only"
name_of SimDiagram = codes "diagram"
name_of SimPcap = codes "pcap"
name_of NodeConfig = codes "config"
name_of NodeLog = codes "log"
name_of NodeCounters = codes "counters"
name_of StoreFile = codes "file"
name_of StoreBackup = codes "backup"
name_of (Client option) = client.name_of option
name_of ContextForm = codes "form"
name_of ContextTimeout = codes "timeout"
name_of ContextOut = codes "out"
name_of (Token option) = token.name_of option
name_of turns = codes "turns"

-- the value that an option was given
abbrev pub value_of : NamedOption → List Row → Option (List ℕ)
value_of option rows = first_of (name_of option) rows

-- what a value has to be
abbrev pub form_of : NamedOption → List ℕ
form_of SimOnly = codes "a client, c1 to c9"
form_of SimDiagram = codes "text or svg"
form_of SimPcap = codes "a file"
form_of NodeConfig = codes "a file of settings"
form_of NodeLog = codes "text or json"
form_of NodeCounters = codes "a number of seconds, 1 to 4294967295, beside --log"
form_of StoreFile = codes "a file of a store"
form_of StoreBackup = codes "a file"
form_of (Client option) = client.form_of option
form_of ContextForm = codes "libcoap, aiocoap or json"
form_of ContextTimeout = codes "a number of seconds in decimal digits"
form_of ContextOut = codes "a file"
form_of (Token option) = token.form_of option
form_of turns = codes "a number of 64 bits in decimal digits"

-- what is said where it isn't
abbrev pub refusal_text : NamedOption → List ℕ
refusal_text option = codes "error: --" ++ name_of option ++ codes " is not " ++ form_of option

-- what is said where the file that it names can't be read
abbrev pub unread_text : NamedOption → List ℕ
unread_text option = codes "error: the file of --" ++ name_of option ++ codes " can't be read"
