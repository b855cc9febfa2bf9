-- The options of `osc client`.
use Rattle.std.specs.Prelude.{ℕ, false, List, codes}
use Rattle.clap.specs.Words.{Rule}
use Rattle.osc_words.specs.Options.{value_rule}
use Rattle.osc_words.specs.declared.client_option.ClientOption.{ClientOption}
use Rattle.osc_words.specs.declared.client_option.ClientOption.TheVariants.{Turns, Timeout, Method, Path, Payload, Text, PayloadFile, Format, Config, Requests, Every}

-- --turns, --method, ..
abbrev pub name_of : ClientOption → List ℕ
name_of Turns = codes "turns"
name_of Timeout = codes "timeout"
name_of Method = codes "method"
name_of Path = codes "path"
name_of Payload = codes "payload"
name_of Text = codes "text"
name_of PayloadFile = codes "payload-file"
name_of Format = codes "format"
name_of Config = codes "config"
name_of Requests = codes "requests"
name_of Every = codes "every"

-- clap takes words without it: which options have to be given depends on the others
abbrev pub option_rule : ClientOption → Rule
option_rule option = value_rule (name_of option) false

-- what a value has to be
abbrev pub form_of : ClientOption → List ℕ
form_of Turns = codes "a number of 64 bits in decimal digits"
form_of Timeout = codes "a number of seconds in decimal digits"
form_of Method = codes "GET, POST, PUT or DELETE"
form_of Path = codes "a path of 1 to 8 segments of 1 to 32 bytes, as /a/b"
form_of Payload = codes "bytes in hexadecimal"
form_of Text = codes "a text"
form_of PayloadFile = codes "a file"
form_of Format = codes "a number of 16 bits in decimal digits"
form_of Config = codes "a file of settings"
form_of Requests = codes "a file of requests"
form_of Every = codes "a number of 64 bits in decimal digits"
