-- What the values of the options of `osc token` stand for.
use Rattle.std.specs.Prelude.{◌≡◌, List, [], Some, unwrap_or, codes}
use Rattle.clap.specs.Words.{Row}
use Rattle.osc_model.specs.{algorithm_number}
use Rattle.osc_script.specs.{SpellsHexWithin, SpellsNumber, SpellsScope}
use Rattle.osc_words.specs.Options.{value_of}
use Rattle.osc_words.specs.Sources.{file_of, given_of}
use Rattle.osc_words.specs.Times.{IsExpiry}
use Rattle.osc_words.specs.Values.{IsGiven}
use Rattle.osc_words.specs.declared.token_option.TokenOption.{TokenOption}
use Rattle.osc_words.specs.declared.token_option.TokenOption.TheVariants.{Key, KeyFile, Audience, Id, Secret, SecretFile, Salt, Context, Algorithm, Scope, Expires, Lasts, NotBefore, Iv}
use Rattle.osc_words.specs.declared.token_words.OpenClaims.{OpenClaims}
use Rattle.osc_words.specs.declared.token_words.TokenAsked.{TokenAsked}

-- what an option says of the claims; an absent salt is an empty one, and an absent algorithm is that of number 10
abbrev pub SaysClaims : List Row → TokenOption → OpenClaims → Type 0
SaysClaims rows Audience claims = value_of Audience rows ≡ Some claims.audience
SaysClaims rows Expires claims = IsExpiry (value_of Expires rows) (value_of Lasts rows) claims.expires
SaysClaims rows Lasts claims = IsExpiry (value_of Expires rows) (value_of Lasts rows) claims.expires
SaysClaims rows NotBefore claims = IsGiven SpellsNumber (value_of NotBefore rows) claims.not_before
SaysClaims rows Id claims = IsGiven (SpellsHexWithin 0 64) (value_of Id rows) (Some claims.id)
SaysClaims rows Salt claims = SpellsHexWithin 0 64 (unwrap_or (value_of Salt rows) []) claims.salt
SaysClaims rows Context claims = IsGiven (SpellsHexWithin 0 64) (value_of Context rows) claims.id_context
SaysClaims rows Algorithm claims = SpellsNumber (unwrap_or (value_of Algorithm rows) (codes "10")) (algorithm_number claims.alg)
SaysClaims rows Scope claims = IsGiven SpellsScope (value_of Scope rows) (Some claims.scope)
SaysClaims rows option claims = Unit {0}

abbrev pub AreClaims : List Row → OpenClaims → Type 0
AreClaims rows claims = (option : TokenOption) → SaysClaims rows option claims

-- of a token: the key and the secret are each given, or are in a file of this name
abbrev pub Says : List Row → TokenOption → TokenAsked → Type 0
Says rows Key asked = IsGiven (SpellsHexWithin 16 16) (value_of Key rows) (given_of asked.key)
Says rows KeyFile asked = value_of KeyFile rows ≡ file_of asked.key
Says rows Secret asked = IsGiven (SpellsHexWithin 1 64) (value_of Secret rows) (given_of asked.secret)
Says rows SecretFile asked = value_of SecretFile rows ≡ file_of asked.secret
Says rows Iv asked = IsGiven (SpellsHexWithin 13 13) (value_of Iv rows) asked.iv
Says rows option asked = SaysClaims rows option asked.claims

-- what each option says of the token is so
abbrev pub AreTokenWords : List Row → TokenAsked → Type 0
AreTokenWords rows asked = (option : TokenOption) → Says rows option asked

-- an option says nothing: it has no value that it may have
abbrev pub SaysNothing : List Row → TokenOption → Type 0
SaysNothing rows option = (asked : TokenAsked) → ¬ Says rows option asked
