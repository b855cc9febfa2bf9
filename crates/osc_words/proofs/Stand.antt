-- What words stand for: a client asks by a method, and a value has the options that it has to have.
use Rattle.std.proofs.Common.{◌≡◌, ◌∙◌, ℕ, ◌&&◌, ◌||◌, not, Bool, true, false, List, Option, Some, None, is_some, Result, Ok, Err, inl, inr, ap, codes, refl, subst, sym}
use Rattle.std.specs.Prelude.{IfOk, MatchResult, if◌then◌else◌}
use Rattle.std.specs.Str.{bytes_eq}
use Rattle.clap.specs.Words.{Row, Text}
use Rattle.osc_script.specs.{SpellsHexWithin}
use Rattle.osc_words.specs.Choices.{has, shapes_many, shapes_one}
use Rattle.osc_words.specs.ClientWords.{SaysNothing as SaysNothingOfOne}
use Rattle.osc_words.specs.RequestsWords.{SaysNothing as SaysNothingOfMany}
use Rattle.osc_words.specs.{AreSome, AsksMany, AsksOne, AreRequestsWords, is_set, IsNotOne, command_of, AreClientWords, IsPayload, AreWords, AsksByMethod, HasNotOne, value_of, file_of, given_of, IsExpiry, IsPatience, AreTokenWords, IsGiven}
use Rattle.osc_words.specs.Options.{value_of as option_value}
use Rattle.osc_words.specs.Inner.Reading.{IsRefusalIn}
use Rattle.osc_words.specs.declared.choice.Choice.{Choice}
use Rattle.osc_words.specs.declared.choice.Choice.TheVariants.{Hidden, Patience, Payload, Asked, Expiry}
use Rattle.osc_words.specs.declared.client_option.ClientOption.{ClientOption}
use Rattle.osc_words.specs.declared.client_option.ClientOption.TheVariants as client
use Rattle.osc_words.specs.declared.client_words.ClientWords.{ClientWords}
use Rattle.osc_words.specs.declared.hidden_option.HiddenOption.TheVariants as hidden
use Rattle.osc_words.specs.Command.{HasNothing}
use Rattle.osc_words.specs.declared.named_option.NamedOption.{NamedOption}
use Rattle.osc_words.specs.declared.named_option.NamedOption.TheVariants as option
use Rattle.osc_words.specs.declared.requests_words.RequestsWords.{RequestsWords}
use Rattle.osc_words.specs.declared.source.Source.{Source}
use Rattle.osc_words.specs.declared.source.Source.TheVariants.{Given, InFile}
use Rattle.osc_words.specs.declared.times.Patience.{Patience as AnyPatience}
use Rattle.osc_words.specs.declared.token_option.TokenOption.TheVariants as token
use Rattle.osc_words.specs.declared.token_words.Expiry.{Expiry as AnyExpiry}
use Rattle.osc_words.specs.declared.token_words.TokenAsked.{TokenAsked}
use Rattle.osc_words.specs.declared.words.Words.{Words}
use Rattle.osc_words.specs.declared.words.Words.TheVariants.{Sim, Token, Key, Store, Server, Proxy, Client, Requests, Context, Lab}
use Rattle.osc_words.specs.declared.words.WordsError.{WordsError}
use Rattle.osc_words.specs.declared.words.WordsError.TheVariants.{NotOne, Value}
use Rattle.osc_words.proofs.ClientParts.{code_of_method}

asked_by_method : (entered : Option (Text × List Row)) (read : Words) → AreWords entered read → AsksByMethod read
asked_by_method None read s = absurd s
asked_by_method (Some entered) (Sim words) s = tt
asked_by_method (Some entered) (Token asked) s = tt
asked_by_method (Some entered) Key s = tt
asked_by_method (Some entered) (Store words) s = tt
asked_by_method (Some entered) (Server words) s = tt
asked_by_method (Some entered) (Proxy words) s = tt
asked_by_method (Some entered) (Client words) s =
    code_of_method (value_of (option.Client client.Method) entered.1) words.request.code (s.2.options client.Method)
asked_by_method (Some entered) (Requests words) s = tt
asked_by_method (Some entered) (Context words) s = tt
asked_by_method (Some entered) (Lab turns ipv6) s = tt

pub asked_by_methods : (entered : Option (Text × List Row)) (r : Result Words WordsError) → MatchResult r (AreWords entered) (IsRefusalIn entered)
    → IfOk r AsksByMethod
asked_by_methods entered (Ok read) h = asked_by_method entered read h
asked_by_methods entered (Err error) h = tt

-- ---- a value whose options aren't given as they have to be

no_source : {X : Type 0} (Spells : List ℕ → X → Type 0) (value file : Option (List ℕ)) (source : Source X)
    → is_some value ≡ is_some file → IsGiven Spells value (given_of source) → file ≡ file_of source → ⊥
no_source Spells None file (Given x) same given named = given
no_source Spells (Some text) None (Given x) same given named = absurd cc
no_source Spells (Some text) (Some name) (Given x) same given named = absurd cc
no_source Spells None None (InFile name) same given named = absurd cc
no_source Spells None (Some other) (InFile name) same given named = absurd cc
no_source Spells (Some text) file (InFile name) same given named = given

no_expiry : (second time : Option (List ℕ)) (expiry : Option AnyExpiry) → is_some second ≡ true → is_some time ≡ true → IsExpiry second time expiry → ⊥
no_expiry None time expiry a b h = absurd cc
no_expiry (Some text) None expiry a b h = absurd cc
no_expiry (Some text) (Some other) expiry a b h = h

no_patience : (turns seconds : Option (List ℕ)) (patience : AnyPatience) → is_some turns ≡ is_some seconds → IsPatience turns seconds patience → ⊥
no_patience None None patience same h = h
no_patience None (Some text) patience same h = absurd cc
no_patience (Some text) None patience same h = absurd cc
no_patience (Some text) (Some other) patience same h = h

no_payload : (hex text name : Option (List ℕ)) (payload : List ℕ) (file : Option (List ℕ)) → AreSome hex text name → IsPayload hex text name payload file → ⊥
no_payload None None None payload file two h = absurd cc
no_payload None None (Some name) payload file two h = absurd cc
no_payload None (Some text) None payload file two h = absurd cc
no_payload None (Some text) (Some name) payload file two h = h
no_payload (Some hex) None None payload file two h = absurd cc
no_payload (Some hex) None (Some name) payload file two h = h
no_payload (Some hex) (Some text) None payload file two h = h
no_payload (Some hex) (Some text) (Some name) payload file two h = h

not_token : (name other : Text) (command : Text) → name ≡ command → name ≡ other → bytes_eq other command ≡ false → bytes_eq command command ≡ true → ⊥
not_token name other command e f differ same =
    let both : true ≡ false = sym same ∙ (ap (λ t. bytes_eq t command) (sym e ∙ f) ∙ differ) in absurd cc

not_asked : (name : Text) (rows : List Row) (choice : Choice) → name ≡ command_of choice → name ≡ codes "token" → IsNotOne rows choice
    → (asked : TokenAsked) → AreTokenWords rows asked → ⊥
not_asked name rows (Hidden hidden.Key) e f same asked said =
    no_source (SpellsHexWithin 16 16) (option_value token.Key rows) (option_value token.KeyFile rows) asked.key same (said token.Key) (said token.KeyFile)
not_asked name rows (Hidden hidden.Secret) e f same asked said =
    no_source (SpellsHexWithin 1 64) (option_value token.Secret rows) (option_value token.SecretFile rows) asked.secret same (said token.Secret) (said token.SecretFile)
not_asked name rows Patience e f same asked said = not_token name (codes "token") (codes "client") e f refl refl
not_asked name rows Payload e f same asked said = not_token name (codes "token") (codes "client") e f refl refl
not_asked name rows Asked e f same asked said = not_token name (codes "token") (codes "client") e f refl refl
not_asked name rows Expiry e f both asked said =
    no_expiry (option_value token.Expires rows) (option_value token.Lasts rows) asked.claims.expires both.0 both.1 (said token.Expires)

not_asked_for : (name : Text) (rows : List Row) (choice : Choice) → name ≡ command_of choice → name ≡ codes "client" → IsNotOne rows choice
    → (words : ClientWords) → AsksOne rows → AreClientWords rows words → ⊥
not_asked_for name rows (Hidden option) e f same words asks said = not_token name (codes "client") (codes "token") e f refl refl
not_asked_for name rows Patience e f same words asks said =
    no_patience (value_of (option.Client client.Turns) rows) (value_of (option.Client client.Timeout) rows) words.patience same (said.options client.Turns)
not_asked_for name rows Payload e f two words asks said =
    no_payload (value_of (option.Client client.Payload) rows) (value_of (option.Client client.Text) rows) (value_of (option.Client client.PayloadFile) rows)
    words.request.payload words.payload_file two (said.options client.Payload)
not_asked_for name rows Asked e f bad words asks said = absurd cc
not_asked_for name rows Expiry e f both words asks said = not_token name (codes "client") (codes "token") e f refl refl

-- a file of requests is named, and what goes with one request isn't given
none_given : (m p a b c d e : Bool) → not (m || p || (a || b || c || d || e)) ≡ true → (a && b || c && (a || b)) ≡ true → ⊥
none_given true p a b c d e none two = absurd cc
none_given false true a b c d e none two = absurd cc
none_given false false true b c d e none two = absurd cc
none_given false false false true c d e none two = absurd cc
none_given false false false false true d e none two = absurd cc
none_given false false false false false d e none two = absurd cc

many_no_payload : (rows : List Row) (file : List ℕ) → AsksMany rows file → IsNotOne rows Payload → ⊥
many_no_payload rows file asks two =
    none_given (has client.Method rows) (has client.Path rows) (has client.Payload rows) (has client.Text rows) (has client.PayloadFile rows) (has client.Format rows)
    (is_set (codes "raw") rows)
    (subst (λ (file : Option (List ℕ)). (if is_some file then not (has client.Method rows || has client.Path rows || shapes_one rows)
    else has client.Method rows && has client.Path rows && not (shapes_many rows)) ≡ true) asks.1 asks.0) two

not_asked_for_many : (name : Text) (rows : List Row) (choice : Choice) → name ≡ command_of choice → name ≡ codes "client" → IsNotOne rows choice
    → (words : RequestsWords) → AsksMany rows words.requests → AreRequestsWords rows words → ⊥
not_asked_for_many name rows (Hidden option) e f same words asks said = not_token name (codes "client") (codes "token") e f refl refl
not_asked_for_many name rows Patience e f same words asks said =
    no_patience (value_of (option.Client client.Turns) rows) (value_of (option.Client client.Timeout) rows) words.patience same (said.options client.Turns)
not_asked_for_many name rows Payload e f two words asks said = many_no_payload rows words.requests asks two
not_asked_for_many name rows Asked e f bad words asks said = absurd cc
not_asked_for_many name rows Expiry e f both words asks said = not_token name (codes "client") (codes "token") e f refl refl

-- the choices are of `osc token` and `osc client`
elsewhere : (name other : Text) (choice : Choice) → name ≡ command_of choice → name ≡ other → bytes_eq other (codes "token") ≡ false
    → bytes_eq other (codes "client") ≡ false → ⊥
elsewhere name other (Hidden option) e f a b = not_token name other (codes "token") e f a refl
elsewhere name other Patience e f a b = not_token name other (codes "client") e f b refl
elsewhere name other Payload e f a b = not_token name other (codes "client") e f b refl
elsewhere name other Asked e f a b = not_token name other (codes "client") e f b refl
elsewhere name other Expiry e f a b = not_token name other (codes "token") e f a refl

not_one : (entered : Option (Text × List Row)) (choice : Choice) → HasNotOne entered choice → (read : Words) → AreWords entered read → ⊥
not_one None choice h read s = h
not_one (Some entered) choice h (Sim words) s = elsewhere entered.0 (codes "sim") choice h.0 s.0 refl refl
not_one (Some entered) choice h (Token asked) s = not_asked entered.0 entered.1 choice h.0 s.0 h.1 asked s.1
not_one (Some entered) choice h Key s = elsewhere entered.0 (codes "key") choice h.0 s refl refl
not_one (Some entered) choice h (Store words) s = elsewhere entered.0 (codes "store") choice h.0 s.0 refl refl
not_one (Some entered) choice h (Server words) s = elsewhere entered.0 (codes "server") choice h.0 s.0 refl refl
not_one (Some entered) choice h (Proxy words) s = elsewhere entered.0 (codes "proxy") choice h.0 s.0 refl refl
not_one (Some entered) choice h (Client words) s = not_asked_for entered.0 entered.1 choice h.0 s.0 h.1 words s.1 s.2
not_one (Some entered) choice h (Requests words) s = not_asked_for_many entered.0 entered.1 choice h.0 s.0 h.1 words s.1 s.2
not_one (Some entered) choice h (Context words) s = elsewhere entered.0 (codes "context") choice h.0 s.0 refl refl
not_one (Some entered) choice h (Lab turns ipv6) s = elsewhere entered.0 (codes "lab") choice h.0 s.0 refl refl

pub stand_for_nothing : (entered : Option (Text × List Row)) (r : Result Words WordsError) (choice : Choice)
    → MatchResult r (AreWords entered) (IsRefusalIn entered) → r ≡ Err (NotOne choice) → (read : Words) → AreWords entered read → ⊥
stand_for_nothing entered r choice h e = not_one entered choice (subst (λ r. MatchResult r (AreWords entered) (IsRefusalIn entered)) e h)

-- ---- an option that says nothing

-- what `osc client` is asked for has no option that says nothing
client_says : (rows : List Row) (refused : ClientOption) → (AsksOne rows → SaysNothingOfOne rows refused)
    → ((file : List ℕ) → AsksMany rows file → SaysNothingOfMany rows refused) → (name : Text) → name ≡ codes "client" → (read : Words) → AreWords (Some (name, rows)) read → ⊥
client_says rows refused one many name e (Sim words) s = not_token name (codes "sim") (codes "client") e s.0 refl refl
client_says rows refused one many name e (Token asked) s = not_token name (codes "token") (codes "client") e s.0 refl refl
client_says rows refused one many name e Key s = not_token name (codes "key") (codes "client") e s refl refl
client_says rows refused one many name e (Store words) s = not_token name (codes "store") (codes "client") e s.0 refl refl
client_says rows refused one many name e (Server words) s = not_token name (codes "server") (codes "client") e s.0 refl refl
client_says rows refused one many name e (Proxy words) s = not_token name (codes "proxy") (codes "client") e s.0 refl refl
client_says rows refused one many name e (Client words) s = one s.1 words (s.2.options refused)
client_says rows refused one many name e (Requests words) s = many words.requests s.1 words (s.2.options refused)
client_says rows refused one many name e (Context words) s = not_token name (codes "context") (codes "client") e s.0 refl refl
client_says rows refused one many name e (Lab turns ipv6) s = not_token name (codes "lab") (codes "client") e s.0 refl refl

no_file : (value : Option (List ℕ)) (file : List ℕ) → value ≡ None → value ≡ Some file → ⊥
no_file value file e f = let both : None ≡ Some file = sym e ∙ f in absurd cc

nothing : (name : Text) (rows : List Row) (o : NamedOption) → HasNothing (Some (name, rows)) o → (read : Words) → AreWords (Some (name, rows)) read → ⊥
nothing name rows option.SimPcap h read s = h
nothing name rows option.NodeConfig h read s = h
nothing name rows option.StoreBackup h read s = h
nothing name rows option.ContextOut h read s = h
nothing name rows (option.Client refused) h read s = client_says rows refused h.0.0 h.0.1 name h.1 read s
nothing name rows option.SimOnly h (Sim words) s = h.1 words.only s.1.only
nothing name rows option.SimOnly h (Token asked) s = not_token name (codes "token") (codes "sim") h.0 s.0 refl refl
nothing name rows option.SimOnly h Key s = not_token name (codes "key") (codes "sim") h.0 s refl refl
nothing name rows option.SimOnly h (Store words) s = not_token name (codes "store") (codes "sim") h.0 s.0 refl refl
nothing name rows option.SimOnly h (Server words) s = not_token name (codes "server") (codes "sim") h.0 s.0 refl refl
nothing name rows option.SimOnly h (Proxy words) s = not_token name (codes "proxy") (codes "sim") h.0 s.0 refl refl
nothing name rows option.SimOnly h (Client words) s = not_token name (codes "client") (codes "sim") h.0 s.0 refl refl
nothing name rows option.SimOnly h (Requests words) s = not_token name (codes "client") (codes "sim") h.0 s.0 refl refl
nothing name rows option.SimOnly h (Context words) s = not_token name (codes "context") (codes "sim") h.0 s.0 refl refl
nothing name rows option.SimOnly h (Lab turns ipv6) s = not_token name (codes "lab") (codes "sim") h.0 s.0 refl refl
nothing name rows option.SimDiagram h (Sim words) s = h.1 words.diagram s.1.diagram
nothing name rows option.SimDiagram h (Token asked) s = not_token name (codes "token") (codes "sim") h.0 s.0 refl refl
nothing name rows option.SimDiagram h Key s = not_token name (codes "key") (codes "sim") h.0 s refl refl
nothing name rows option.SimDiagram h (Store words) s = not_token name (codes "store") (codes "sim") h.0 s.0 refl refl
nothing name rows option.SimDiagram h (Server words) s = not_token name (codes "server") (codes "sim") h.0 s.0 refl refl
nothing name rows option.SimDiagram h (Proxy words) s = not_token name (codes "proxy") (codes "sim") h.0 s.0 refl refl
nothing name rows option.SimDiagram h (Client words) s = not_token name (codes "client") (codes "sim") h.0 s.0 refl refl
nothing name rows option.SimDiagram h (Requests words) s = not_token name (codes "client") (codes "sim") h.0 s.0 refl refl
nothing name rows option.SimDiagram h (Context words) s = not_token name (codes "context") (codes "sim") h.0 s.0 refl refl
nothing name rows option.SimDiagram h (Lab turns ipv6) s = not_token name (codes "lab") (codes "sim") h.0 s.0 refl refl
nothing name rows option.ServerTurns h (Sim words) s = not_token name (codes "sim") (codes "server") h.0 s.0 refl refl
nothing name rows option.ServerTurns h (Token asked) s = not_token name (codes "token") (codes "server") h.0 s.0 refl refl
nothing name rows option.ServerTurns h Key s = not_token name (codes "key") (codes "server") h.0 s refl refl
nothing name rows option.ServerTurns h (Store words) s = not_token name (codes "store") (codes "server") h.0 s.0 refl refl
nothing name rows option.ServerTurns h (Server words) s = h.1 words.turns s.1.turns
nothing name rows option.ServerTurns h (Proxy words) s = not_token name (codes "proxy") (codes "server") h.0 s.0 refl refl
nothing name rows option.ServerTurns h (Client words) s = not_token name (codes "client") (codes "server") h.0 s.0 refl refl
nothing name rows option.ServerTurns h (Requests words) s = not_token name (codes "client") (codes "server") h.0 s.0 refl refl
nothing name rows option.ServerTurns h (Context words) s = not_token name (codes "context") (codes "server") h.0 s.0 refl refl
nothing name rows option.ServerTurns h (Lab turns ipv6) s = not_token name (codes "lab") (codes "server") h.0 s.0 refl refl
nothing name rows option.ProxyTurns h (Sim words) s = not_token name (codes "sim") (codes "proxy") h.0 s.0 refl refl
nothing name rows option.ProxyTurns h (Token asked) s = not_token name (codes "token") (codes "proxy") h.0 s.0 refl refl
nothing name rows option.ProxyTurns h Key s = not_token name (codes "key") (codes "proxy") h.0 s refl refl
nothing name rows option.ProxyTurns h (Store words) s = not_token name (codes "store") (codes "proxy") h.0 s.0 refl refl
nothing name rows option.ProxyTurns h (Server words) s = not_token name (codes "server") (codes "proxy") h.0 s.0 refl refl
nothing name rows option.ProxyTurns h (Proxy words) s = h.1 words.turns s.1.turns
nothing name rows option.ProxyTurns h (Client words) s = not_token name (codes "client") (codes "proxy") h.0 s.0 refl refl
nothing name rows option.ProxyTurns h (Requests words) s = not_token name (codes "client") (codes "proxy") h.0 s.0 refl refl
nothing name rows option.ProxyTurns h (Context words) s = not_token name (codes "context") (codes "proxy") h.0 s.0 refl refl
nothing name rows option.ProxyTurns h (Lab turns ipv6) s = not_token name (codes "lab") (codes "proxy") h.0 s.0 refl refl
nothing name rows option.NodeLog h (Sim words) s = elim h.0 [
  | inl e ↦ not_token name (codes "sim") (codes "server") e s.0 refl refl
  | inr e ↦ not_token name (codes "sim") (codes "proxy") e s.0 refl refl
]
nothing name rows option.NodeLog h (Token asked) s = elim h.0 [
  | inl e ↦ not_token name (codes "token") (codes "server") e s.0 refl refl
  | inr e ↦ not_token name (codes "token") (codes "proxy") e s.0 refl refl
]
nothing name rows option.NodeLog h Key s = elim h.0 [
  | inl e ↦ not_token name (codes "key") (codes "server") e s refl refl
  | inr e ↦ not_token name (codes "key") (codes "proxy") e s refl refl
]
nothing name rows option.NodeLog h (Store words) s = elim h.0 [
  | inl e ↦ not_token name (codes "store") (codes "server") e s.0 refl refl
  | inr e ↦ not_token name (codes "store") (codes "proxy") e s.0 refl refl
]
nothing name rows option.NodeLog h (Server words) s = h.1 words.log s.1.log
nothing name rows option.NodeLog h (Proxy words) s = h.1 words.log s.1.log
nothing name rows option.NodeLog h (Client words) s = elim h.0 [
  | inl e ↦ not_token name (codes "client") (codes "server") e s.0 refl refl
  | inr e ↦ not_token name (codes "client") (codes "proxy") e s.0 refl refl
]
nothing name rows option.NodeLog h (Requests words) s = elim h.0 [
  | inl e ↦ not_token name (codes "client") (codes "server") e s.0 refl refl
  | inr e ↦ not_token name (codes "client") (codes "proxy") e s.0 refl refl
]
nothing name rows option.NodeLog h (Context words) s = elim h.0 [
  | inl e ↦ not_token name (codes "context") (codes "server") e s.0 refl refl
  | inr e ↦ not_token name (codes "context") (codes "proxy") e s.0 refl refl
]
nothing name rows option.NodeLog h (Lab turns ipv6) s = elim h.0 [
  | inl e ↦ not_token name (codes "lab") (codes "server") e s.0 refl refl
  | inr e ↦ not_token name (codes "lab") (codes "proxy") e s.0 refl refl
]
nothing name rows option.NodeCounters h (Sim words) s = elim h.0 [
  | inl e ↦ not_token name (codes "sim") (codes "server") e s.0 refl refl
  | inr e ↦ not_token name (codes "sim") (codes "proxy") e s.0 refl refl
]
nothing name rows option.NodeCounters h (Token asked) s = elim h.0 [
  | inl e ↦ not_token name (codes "token") (codes "server") e s.0 refl refl
  | inr e ↦ not_token name (codes "token") (codes "proxy") e s.0 refl refl
]
nothing name rows option.NodeCounters h Key s = elim h.0 [
  | inl e ↦ not_token name (codes "key") (codes "server") e s refl refl
  | inr e ↦ not_token name (codes "key") (codes "proxy") e s refl refl
]
nothing name rows option.NodeCounters h (Store words) s = elim h.0 [
  | inl e ↦ not_token name (codes "store") (codes "server") e s.0 refl refl
  | inr e ↦ not_token name (codes "store") (codes "proxy") e s.0 refl refl
]
nothing name rows option.NodeCounters h (Server words) s = h.1 words.counters s.1.counters
nothing name rows option.NodeCounters h (Proxy words) s = h.1 words.counters s.1.counters
nothing name rows option.NodeCounters h (Client words) s = elim h.0 [
  | inl e ↦ not_token name (codes "client") (codes "server") e s.0 refl refl
  | inr e ↦ not_token name (codes "client") (codes "proxy") e s.0 refl refl
]
nothing name rows option.NodeCounters h (Requests words) s = elim h.0 [
  | inl e ↦ not_token name (codes "client") (codes "server") e s.0 refl refl
  | inr e ↦ not_token name (codes "client") (codes "proxy") e s.0 refl refl
]
nothing name rows option.NodeCounters h (Context words) s = elim h.0 [
  | inl e ↦ not_token name (codes "context") (codes "server") e s.0 refl refl
  | inr e ↦ not_token name (codes "context") (codes "proxy") e s.0 refl refl
]
nothing name rows option.NodeCounters h (Lab turns ipv6) s = elim h.0 [
  | inl e ↦ not_token name (codes "lab") (codes "server") e s.0 refl refl
  | inr e ↦ not_token name (codes "lab") (codes "proxy") e s.0 refl refl
]
nothing name rows option.StoreFile h (Sim words) s = not_token name (codes "sim") (codes "store") h.0 s.0 refl refl
nothing name rows option.StoreFile h (Token asked) s = not_token name (codes "token") (codes "store") h.0 s.0 refl refl
nothing name rows option.StoreFile h Key s = not_token name (codes "key") (codes "store") h.0 s refl refl
nothing name rows option.StoreFile h (Store words) s = no_file (value_of option.StoreFile rows) words.file h.1 s.1.file
nothing name rows option.StoreFile h (Server words) s = not_token name (codes "server") (codes "store") h.0 s.0 refl refl
nothing name rows option.StoreFile h (Proxy words) s = not_token name (codes "proxy") (codes "store") h.0 s.0 refl refl
nothing name rows option.StoreFile h (Client words) s = not_token name (codes "client") (codes "store") h.0 s.0 refl refl
nothing name rows option.StoreFile h (Requests words) s = not_token name (codes "client") (codes "store") h.0 s.0 refl refl
nothing name rows option.StoreFile h (Context words) s = not_token name (codes "context") (codes "store") h.0 s.0 refl refl
nothing name rows option.StoreFile h (Lab turns ipv6) s = not_token name (codes "lab") (codes "store") h.0 s.0 refl refl
nothing name rows option.ContextForm h (Sim words) s = not_token name (codes "sim") (codes "context") h.0 s.0 refl refl
nothing name rows option.ContextForm h (Token asked) s = not_token name (codes "token") (codes "context") h.0 s.0 refl refl
nothing name rows option.ContextForm h Key s = not_token name (codes "key") (codes "context") h.0 s refl refl
nothing name rows option.ContextForm h (Store words) s = not_token name (codes "store") (codes "context") h.0 s.0 refl refl
nothing name rows option.ContextForm h (Server words) s = not_token name (codes "server") (codes "context") h.0 s.0 refl refl
nothing name rows option.ContextForm h (Proxy words) s = not_token name (codes "proxy") (codes "context") h.0 s.0 refl refl
nothing name rows option.ContextForm h (Client words) s = not_token name (codes "client") (codes "context") h.0 s.0 refl refl
nothing name rows option.ContextForm h (Requests words) s = not_token name (codes "client") (codes "context") h.0 s.0 refl refl
nothing name rows option.ContextForm h (Context words) s = h.1 words.form s.1.form
nothing name rows option.ContextForm h (Lab turns ipv6) s = not_token name (codes "lab") (codes "context") h.0 s.0 refl refl
nothing name rows option.ContextTimeout h (Sim words) s = not_token name (codes "sim") (codes "context") h.0 s.0 refl refl
nothing name rows option.ContextTimeout h (Token asked) s = not_token name (codes "token") (codes "context") h.0 s.0 refl refl
nothing name rows option.ContextTimeout h Key s = not_token name (codes "key") (codes "context") h.0 s refl refl
nothing name rows option.ContextTimeout h (Store words) s = not_token name (codes "store") (codes "context") h.0 s.0 refl refl
nothing name rows option.ContextTimeout h (Server words) s = not_token name (codes "server") (codes "context") h.0 s.0 refl refl
nothing name rows option.ContextTimeout h (Proxy words) s = not_token name (codes "proxy") (codes "context") h.0 s.0 refl refl
nothing name rows option.ContextTimeout h (Client words) s = not_token name (codes "client") (codes "context") h.0 s.0 refl refl
nothing name rows option.ContextTimeout h (Requests words) s = not_token name (codes "client") (codes "context") h.0 s.0 refl refl
nothing name rows option.ContextTimeout h (Context words) s = h.1 words.patience s.1.patience
nothing name rows option.ContextTimeout h (Lab turns ipv6) s = not_token name (codes "lab") (codes "context") h.0 s.0 refl refl
nothing name rows option.LabTurns h (Sim words) s = not_token name (codes "sim") (codes "lab") h.0 s.0 refl refl
nothing name rows option.LabTurns h (Token asked) s = not_token name (codes "token") (codes "lab") h.0 s.0 refl refl
nothing name rows option.LabTurns h Key s = not_token name (codes "key") (codes "lab") h.0 s refl refl
nothing name rows option.LabTurns h (Store words) s = not_token name (codes "store") (codes "lab") h.0 s.0 refl refl
nothing name rows option.LabTurns h (Server words) s = not_token name (codes "server") (codes "lab") h.0 s.0 refl refl
nothing name rows option.LabTurns h (Proxy words) s = not_token name (codes "proxy") (codes "lab") h.0 s.0 refl refl
nothing name rows option.LabTurns h (Client words) s = not_token name (codes "client") (codes "lab") h.0 s.0 refl refl
nothing name rows option.LabTurns h (Requests words) s = not_token name (codes "client") (codes "lab") h.0 s.0 refl refl
nothing name rows option.LabTurns h (Context words) s = not_token name (codes "context") (codes "lab") h.0 s.0 refl refl
nothing name rows option.LabTurns h (Lab turns ipv6) s = h.1 turns s.1
nothing name rows (option.Token refused) h (Sim words) s = not_token name (codes "sim") (codes "token") h.0 s.0 refl refl
nothing name rows (option.Token refused) h (Token asked) s = h.1 asked (s.1 refused)
nothing name rows (option.Token refused) h Key s = not_token name (codes "key") (codes "token") h.0 s refl refl
nothing name rows (option.Token refused) h (Store words) s = not_token name (codes "store") (codes "token") h.0 s.0 refl refl
nothing name rows (option.Token refused) h (Server words) s = not_token name (codes "server") (codes "token") h.0 s.0 refl refl
nothing name rows (option.Token refused) h (Proxy words) s = not_token name (codes "proxy") (codes "token") h.0 s.0 refl refl
nothing name rows (option.Token refused) h (Client words) s = not_token name (codes "client") (codes "token") h.0 s.0 refl refl
nothing name rows (option.Token refused) h (Requests words) s = not_token name (codes "client") (codes "token") h.0 s.0 refl refl
nothing name rows (option.Token refused) h (Context words) s = not_token name (codes "context") (codes "token") h.0 s.0 refl refl
nothing name rows (option.Token refused) h (Lab turns ipv6) s = not_token name (codes "lab") (codes "token") h.0 s.0 refl refl

pub says_something : (entered : Option (Text × List Row)) (r : Result Words WordsError) (o : NamedOption)
    → MatchResult r (AreWords entered) (IsRefusalIn entered) → r ≡ Err (Value o) → (read : Words) → AreWords entered read → ⊥
says_something None r o h e read s = absurd s
says_something (Some entered) r o h e read s =
    nothing entered.0 entered.1 o (subst (λ r. MatchResult r (AreWords (Some entered)) (IsRefusalIn (Some entered))) e h) read s
