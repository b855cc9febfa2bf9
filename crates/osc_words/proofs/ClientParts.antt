-- What the options of a client say, one by one, and which of them say nothing.
use Rattle.std.proofs.Common.{◌≡◌, ◌<◌, ℕ, List, Option, Some, None, codes, inl, inr, refl, subst, sym, arith}
use Rattle.clap.specs.Words.{Row}
use Rattle.osc_model.specs.{code, method_number, IsPath}
use Rattle.osc_model.specs.declared.code.Code.{Code}
use Rattle.osc_model.specs.declared.code.Method.{Method as AnyMethod}
use Rattle.osc_model.specs.declared.code.Method.TheVariants as method
use Rattle.osc_script.specs.{SpellsNumber}
use Rattle.osc_words.specs.{AreClientWords, AreRequest, AreRequestsWords, SaysPatience, SaysPayload, SpellsMethod, value_of, is_set, IsGiven, SpellsTurns}
use Rattle.osc_words.specs.ClientWords.{Says}
use Rattle.osc_words.specs.RequestsWords.{Says as SaysOfMany}
use Rattle.osc_words.specs.Inner.Reading.{IsClientRefusal, IsPatienceRefusal, IsRefusalOf, IsRequestsRefusal}
use Rattle.osc_words.specs.declared.client_option.ClientOption.{ClientOption}
use Rattle.osc_words.specs.declared.client_option.ClientOption.TheVariants.{Turns, Timeout, Method, Path, Payload, Text, PayloadFile, Format, Config, Requests, Every}
use Rattle.osc_words.specs.declared.client_words.ClientWords.{ClientWords}
use Rattle.osc_words.specs.declared.named_option.NamedOption.{NamedOption}
use Rattle.osc_words.specs.declared.named_option.NamedOption.TheVariants.{Client}
use Rattle.osc_words.specs.declared.requests_words.RequestsWords.{RequestsWords}
use Rattle.osc_words.specs.declared.words.WordsError.{WordsError}
use Rattle.osc_words.specs.declared.words.WordsError.TheVariants as words_error

pub client_said : (rows : List Row) (words : ClientWords) (payload : List ℕ) → SaysPatience rows words.patience → SaysPayload rows payload words.payload_file
    → AreRequest rows payload words.request → words.config ≡ value_of (Client Config) rows → words.raw ≡ is_set (codes "raw") rows
    → words.check ≡ is_set (codes "check") rows → AreClientWords rows words
client_said rows words payload patience paid request config raw check =
    record { options = each; plain = request.1; raw = raw; check = check }
  where
    says_payload : SaysPayload rows words.request.payload words.payload_file
    says_payload = subst (λ (bytes : List ℕ). SaysPayload rows bytes words.payload_file) (sym request.2) paid

    each : (option : ClientOption) → Says rows option words
    each Turns = patience
    each Timeout = patience
    each Method = request.0 Method
    each Path = request.0 Path
    each Payload = says_payload
    each Text = says_payload
    each PayloadFile = says_payload
    each Format = request.0 Format
    each Config = config
    each Requests = tt
    each Every = tt

-- a path that can't be read
pub path_refused : (rows : List Row) (error : WordsError)
    → IsRefusalOf (Client Path) (λ path. (value_of (Client Path) rows ≡ Some path) × IsPath path) error → IsClientRefusal rows error
path_refused rows (words_error.Clap error) h = h
path_refused rows (words_error.Value option) h =
    subst (λ refused. IsClientRefusal rows (words_error.Value refused)) (sym h.0) (λ words said. h.1 said.0 (said.1, said.2))
path_refused rows (words_error.NotOne option) h = absurd h
path_refused rows (words_error.Unread option) h = absurd h
path_refused rows words_error.Memory h = tt

-- a number of turns that can't be read
no_turns : (value : Option (List ℕ)) → ((number : Option ℕ) → ¬ IsGiven SpellsNumber value number) → (turns : ℕ) → ¬ SpellsTurns value turns
no_turns (Some text) h turns said = h (Some turns) said
no_turns None h turns said = h None tt

pub turns_refused : (option : NamedOption) (value : Option (List ℕ)) (error : WordsError) → IsRefusalOf option (IsGiven SpellsNumber value) error
    → IsRefusalOf option (SpellsTurns value) error
turns_refused option value (words_error.Clap error) h = h
turns_refused option value (words_error.Value refused) h = (h.0, no_turns value h.1)
turns_refused option value (words_error.NotOne hidden) h = absurd h
turns_refused option value (words_error.Unread hidden) h = absurd h
turns_refused option value words_error.Memory h = tt

-- the code of a method
few_methods : (m : AnyMethod) → (0 < (code 0 (method_number m)).0) × ((code 0 (method_number m)).0 < 5)
few_methods method.Get = (omega arith, omega arith)
few_methods method.Post = (omega arith, omega arith)
few_methods method.Put = (omega arith, omega arith)
few_methods method.Delete = (omega arith, omega arith)

pub code_of_method : (value : Option (List ℕ)) (spelled : Code) → IsGiven SpellsMethod value (Some spelled) → (0 < spelled.0) × (spelled.0 < 5)
code_of_method (Some text) spelled said = subst (λ (c : Code). (0 < c.0) × (c.0 < 5)) (sym said.2) (few_methods said.0)
code_of_method None spelled said = absurd said

-- ---- many requests

-- a patience that can't be read, where one thing is asked for
pub patience_refused : (rows : List Row) (error : WordsError) → IsPatienceRefusal rows error → IsClientRefusal rows error
patience_refused rows (words_error.Clap error) h = h
patience_refused rows (words_error.Value option) h = elim h.0 [
  | inl e ↦ subst (λ refused. IsClientRefusal rows (words_error.Value refused)) (sym e) (λ words. h.1 words.patience)
  | inr e ↦ subst (λ refused. IsClientRefusal rows (words_error.Value refused)) (sym e) (λ words. h.1 words.patience)
]
patience_refused rows (words_error.NotOne choice) h =
    subst (λ refused. IsClientRefusal rows (words_error.NotOne refused)) (sym h.0) (refl, h.1)
patience_refused rows (words_error.Unread option) h = absurd h
patience_refused rows words_error.Memory h = tt

-- where many are
pub patience_of_many_refused : (rows : List Row) (error : WordsError) → IsPatienceRefusal rows error → IsRequestsRefusal rows error
patience_of_many_refused rows (words_error.Clap error) h = h
patience_of_many_refused rows (words_error.Value option) h = elim h.0 [
  | inl e ↦ subst (λ refused. IsRequestsRefusal rows (words_error.Value refused)) (sym e) (λ words. h.1 words.patience)
  | inr e ↦ subst (λ refused. IsRequestsRefusal rows (words_error.Value refused)) (sym e) (λ words. h.1 words.patience)
]
patience_of_many_refused rows (words_error.NotOne choice) h = h
patience_of_many_refused rows (words_error.Unread option) h = absurd h
patience_of_many_refused rows words_error.Memory h = tt

-- a pace that can't be read
pub every_refused : (rows : List Row) (error : WordsError)
    → IsRefusalOf (Client Every) (IsGiven SpellsNumber (value_of (Client Every) rows)) error → IsRequestsRefusal rows error
every_refused rows (words_error.Clap error) h = h
every_refused rows (words_error.Value option) h =
    subst (λ refused. IsRequestsRefusal rows (words_error.Value refused)) (sym h.0) (λ words. h.1 words.every)
every_refused rows (words_error.NotOne choice) h = absurd h
every_refused rows (words_error.Unread option) h = absurd h
every_refused rows words_error.Memory h = tt

pub requests_said : (rows : List Row) (words : RequestsWords) → SaysPatience rows words.patience → value_of (Client Requests) rows ≡ Some words.requests
    → IsGiven SpellsNumber (value_of (Client Every) rows) words.every → words.config ≡ value_of (Client Config) rows
    → words.again ≡ is_set (codes "again") rows → words.check ≡ is_set (codes "check") rows → AreRequestsWords rows words
requests_said rows words patience file every config again check = record { options = each; again = again; check = check }
  where
    each : (option : ClientOption) → SaysOfMany rows option words
    each Turns = patience
    each Timeout = patience
    each Method = tt
    each Path = tt
    each Payload = tt
    each Text = tt
    each PayloadFile = tt
    each Format = tt
    each Config = config
    each Requests = file
    each Every = every
