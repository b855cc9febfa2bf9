-- Values that one of several options gives.
use Rattle.std.specs.Prelude.{◌≡◌, ◌&&◌, ◌||◌, ℕ, Bool, true, false, if◌then◌else◌, List, ◌++◌, Option, Some, None, codes, is_some, not}
use Rattle.clap.specs.Words.{Row, Text}
use Rattle.osc_words.specs.NamedOptions.{name_of, value_of}
use Rattle.osc_words.specs.Options.{is_set}
use Rattle.osc_words.specs.Sources.{file_option_of, option_of}
use Rattle.osc_words.specs.declared.choice.Choice.{Choice}
use Rattle.osc_words.specs.declared.choice.Choice.TheVariants.{Hidden, Patience, Payload, Asked, Expiry}
use Rattle.osc_words.specs.declared.client_option.ClientOption.{ClientOption}
use Rattle.osc_words.specs.declared.client_option.ClientOption.TheVariants as client
use Rattle.osc_words.specs.declared.named_option.NamedOption.TheVariants.{Client, Token}
use Rattle.osc_words.specs.declared.token_option.TokenOption.TheVariants as token

-- the subcommand whose options they are
abbrev pub command_of : Choice → Text
command_of (Hidden option) = codes "token"
command_of Patience = codes "client"
command_of Payload = codes "client"
command_of Asked = codes "client"
command_of Expiry = codes "token"

-- both are given, or neither is
abbrev pub AreAlike : {X Y : Type 0} → Option X → Option Y → Type 0
AreAlike a b = is_some a ≡ is_some b

-- two of three or more are given
abbrev pub AreSome : {X Y Z : Type 0} → Option X → Option Y → Option Z → Type 0
AreSome a b c = (is_some a && is_some b || is_some c && (is_some a || is_some b)) ≡ true

-- an option of `osc client` is given
abbrev pub has : ClientOption → List Row → Bool
has option rows = is_some (value_of (Client option) rows)

-- what goes with one request alone is given, beside its method and its path
abbrev pub shapes_one : List Row → Bool
shapes_one rows = has client.Payload rows || has client.Text rows || has client.PayloadFile rows || has client.Format rows || is_set (codes "raw") rows

-- what goes with many requests alone is given
abbrev pub shapes_many : List Row → Bool
shapes_many rows = has client.Every rows || is_set (codes "again") rows

-- many requests are asked for, with nothing that goes with one; or one is, with nothing that goes with many
abbrev pub asks_well : List Row → Bool
asks_well rows =
    if has client.Requests rows then not (has client.Method rows || has client.Path rows || shapes_one rows)
    else has client.Method rows && has client.Path rows && not (shapes_many rows)

-- one thing is asked for, or what is in this file
abbrev pub AsksOne : List Row → Type 0
AsksOne rows = (asks_well rows ≡ true) × (value_of (Client client.Requests) rows ≡ None)

abbrev pub AsksMany : List Row → List ℕ → Type 0
AsksMany rows file = (asks_well rows ≡ true) × (value_of (Client client.Requests) rows ≡ Some file)

-- the options of a value aren't given as they have to be: not exactly one of two, or more than one, or not those of one way to ask
abbrev pub IsNotOne : List Row → Choice → Type 0
IsNotOne rows (Hidden option) = AreAlike (value_of (Token (option_of option)) rows) (value_of (Token (file_option_of option)) rows)
IsNotOne rows Patience = AreAlike (value_of (Client client.Turns) rows) (value_of (Client client.Timeout) rows)
IsNotOne rows Payload = AreSome (value_of (Client client.Payload) rows) (value_of (Client client.Text) rows) (value_of (Client client.PayloadFile) rows)
IsNotOne rows Asked = asks_well rows ≡ false
IsNotOne rows Expiry = (is_some (value_of (Token token.Expires) rows) ≡ true) × (is_some (value_of (Token token.Lasts) rows) ≡ true)

-- what is said then
abbrev pub not_one_text : Choice → List ℕ
not_one_text (Hidden option) =
    codes "error: exactly one of --" ++ name_of (Token (option_of option)) ++ codes " and --" ++ name_of (Token (file_option_of option)) ++ codes " has to be given"
not_one_text Patience = codes "error: exactly one of --turns and --timeout has to be given"
not_one_text Payload = codes "error: at most one of --payload, --text and --payload-file may be given"
not_one_text Asked = codes "error: either --method and --path have to be given, or --requests, and nothing that goes with the other"
not_one_text Expiry = codes "error: at most one of --exp and --for may be given"
