-- What the options say, one by one.
use Rattle.std.proofs.Common.{List, subst, sym}
use Rattle.clap.specs.Words.{Row}
use Rattle.osc_words.specs.Options.{value_of}
use Rattle.osc_script.specs.{SpellsHexWithin}
use Rattle.osc_words.specs.{IsGiven, IsSource, SaysClaims, Says, AreClaims}
use Rattle.osc_words.specs.declared.hidden_option.HiddenOption.TheVariants as hidden
use Rattle.osc_words.specs.declared.named_option.NamedOption.TheVariants as named
use Rattle.osc_words.specs.declared.token_option.TokenOption.{TokenOption}
use Rattle.osc_words.specs.declared.token_option.TokenOption.TheVariants.{Key, KeyFile, Audience, Id, Secret, SecretFile, Salt, Context, Algorithm, Scope, Expires, Lasts, NotBefore, Iv}
use Rattle.osc_words.specs.declared.token_words.OpenClaims.{OpenClaims}
use Rattle.osc_words.specs.declared.token_words.TokenAsked.{TokenAsked}
use Rattle.osc_words.specs.declared.words.WordsError.{WordsError}
use Rattle.osc_words.specs.declared.words.WordsError.TheVariants as words_error
use Rattle.osc_words.specs.Inner.Reading.{IsRefusal, IsRefusalOf}

pub claims_said : (rows : List Row) (claims : OpenClaims) → SaysClaims rows Audience claims → SaysClaims rows NotBefore claims
    → SaysClaims rows Expires claims → SaysClaims rows Id claims → SaysClaims rows Salt claims → SaysClaims rows Context claims
    → SaysClaims rows Algorithm claims → SaysClaims rows Scope claims → (option : TokenOption) → SaysClaims rows option claims
claims_said rows claims audience nbf exp id salt context alg scope Key = tt
claims_said rows claims audience nbf exp id salt context alg scope KeyFile = tt
claims_said rows claims audience nbf exp id salt context alg scope Audience = audience
claims_said rows claims audience nbf exp id salt context alg scope Id = id
claims_said rows claims audience nbf exp id salt context alg scope Secret = tt
claims_said rows claims audience nbf exp id salt context alg scope SecretFile = tt
claims_said rows claims audience nbf exp id salt context alg scope Salt = salt
claims_said rows claims audience nbf exp id salt context alg scope Context = context
claims_said rows claims audience nbf exp id salt context alg scope Algorithm = alg
claims_said rows claims audience nbf exp id salt context alg scope Scope = scope
claims_said rows claims audience nbf exp id salt context alg scope Expires = exp
claims_said rows claims audience nbf exp id salt context alg scope Lasts = exp
claims_said rows claims audience nbf exp id salt context alg scope NotBefore = nbf
claims_said rows claims audience nbf exp id salt context alg scope Iv = tt

pub token_said : (rows : List Row) (asked : TokenAsked) → IsSource (SpellsHexWithin 16 16) hidden.Key rows asked.key
    → IsSource (SpellsHexWithin 1 64) hidden.Secret rows asked.secret → Says rows Iv asked → AreClaims rows asked.claims
    → (option : TokenOption) → Says rows option asked
token_said rows asked key secret iv claims Key = key.0
token_said rows asked key secret iv claims KeyFile = key.1
token_said rows asked key secret iv claims Audience = claims Audience
token_said rows asked key secret iv claims Id = claims Id
token_said rows asked key secret iv claims Secret = secret.0
token_said rows asked key secret iv claims SecretFile = secret.1
token_said rows asked key secret iv claims Salt = claims Salt
token_said rows asked key secret iv claims Context = claims Context
token_said rows asked key secret iv claims Algorithm = claims Algorithm
token_said rows asked key secret iv claims Scope = claims Scope
token_said rows asked key secret iv claims Expires = claims Expires
token_said rows asked key secret iv claims Lasts = claims Lasts
token_said rows asked key secret iv claims NotBefore = claims NotBefore
token_said rows asked key secret iv claims Iv = iv

-- an IV that can't be read
pub iv_refused : (rows : List Row) (error : WordsError) → IsRefusalOf (named.Token Iv) (IsGiven (SpellsHexWithin 13 13) (value_of Iv rows)) error → IsRefusal rows error
iv_refused rows (words_error.Clap error) h = h
iv_refused rows (words_error.Value option) h = subst (λ refused. IsRefusal rows (words_error.Value refused)) (sym h.0) (λ asked. h.1 asked.iv)
iv_refused rows (words_error.NotOne option) h = absurd h
iv_refused rows (words_error.Unread option) h = absurd h
iv_refused rows words_error.Memory h = tt
