-- The options of `osc token`.
use Rattle.std.specs.Prelude.{ℕ, Bool, true, false, List, [], ◌∷◌, codes, Option, Some}
use Rattle.std.specs.Option.{option_map_or}
use Rattle.std.specs.Str.{bytes_eq}
use Rattle.clap.specs.Words.{Row, Rule, Text, first_of, new_rule}
use Rattle.clap.specs.declared.builder.ArgAction.TheVariants.{SetTrue}
use Rattle.osc_words.specs.declared.token_option.TokenOption.{TokenOption}
use Rattle.osc_words.specs.declared.token_option.TokenOption.TheVariants.{Key, KeyFile, Audience, Id, Secret, SecretFile, Salt, Context, Algorithm, Scope, Expires, Lasts, NotBefore, Iv}

-- --key, --aud, ..
abbrev pub name_of : TokenOption → List ℕ
name_of Key = codes "key"
name_of KeyFile = codes "key-file"
name_of Audience = codes "aud"
name_of Id = codes "id"
name_of Secret = codes "secret"
name_of SecretFile = codes "secret-file"
name_of Salt = codes "salt"
name_of Context = codes "context"
name_of Algorithm = codes "alg"
name_of Scope = codes "scope"
name_of Expires = codes "exp"
name_of Lasts = codes "for"
name_of NotBefore = codes "nbf"
name_of Iv = codes "iv"

-- there is no token without it, whatever else is given
abbrev pub is_required : TokenOption → Bool
is_required Audience = true
is_required Id = true
is_required Scope = true
is_required option = false

-- --NAME VALUE
abbrev pub value_rule : List ℕ → Bool → Rule
value_rule name required = record (new_rule name) { long = Some name; value_names = 1; required = required }

-- --NAME[=VALUE], with this value where it is left out
abbrev pub form_rule : List ℕ → List ℕ → Rule
form_rule name missing =
    record (value_rule name false) { range = Some (record { start_inclusive = 0; end_inclusive = 1 }); missing = missing ∷ [] }

-- VALUE, a word without a name
abbrev pub word_rule : List ℕ → Rule
word_rule name = record (new_rule name) { value_names = 1; required = true }

-- --NAME
abbrev pub flag_rule : Text → Rule
flag_rule name = record (new_rule name) { long = Some name; action = Some SetTrue }

-- a flag was given
abbrev pub is_set : Text → List Row → Bool
is_set flag rows = option_map_or (λ text. bytes_eq text (codes "true")) (first_of flag rows) false

abbrev pub option_rule : TokenOption → Rule
option_rule option = value_rule (name_of option) (is_required option)

-- the value that an option was given
abbrev pub value_of : TokenOption → List Row → Option (List ℕ)
value_of option rows = first_of (name_of option) rows

-- what a value has to be
abbrev pub form_of : TokenOption → List ℕ
form_of Key = codes "16 bytes in hexadecimal"
form_of KeyFile = codes "a file of 16 bytes in hexadecimal"
form_of Audience = codes "a text"
form_of Id = codes "0 to 64 bytes in hexadecimal"
form_of Secret = codes "1 to 64 bytes in hexadecimal"
form_of SecretFile = codes "a file of 1 to 64 bytes in hexadecimal"
form_of Salt = codes "0 to 64 bytes in hexadecimal"
form_of Context = codes "0 to 64 bytes in hexadecimal"
form_of Algorithm = codes "10 or 30"
form_of Scope = codes "paths with methods, as /e:GET+PUT,/log:GET"
form_of Expires = codes "a number of 64 bits in decimal digits"
form_of Lasts = codes "a time in seconds, minutes, hours or days, as 90s, 15m, 12h or 30d"
form_of NotBefore = codes "a number of 64 bits in decimal digits"
form_of Iv = codes "13 bytes in hexadecimal"
