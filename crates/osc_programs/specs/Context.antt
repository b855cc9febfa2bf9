-- What `osc context` does: it posts its token, and writes the security context that the exchange makes, for another stack.
use Rattle.std.specs.Prelude.{◌≡◌, ◌++◌, ℕ, List, [], Option, Some, None, codes, decimal}
use Rattle.hex.specs.Hex.{encode_lower}
use Rattle.osc_model.specs.{algorithm_number}
use Rattle.osc_model.specs.declared.algorithm.Algorithm.{Algorithm}
use Rattle.osc_model.specs.declared.algorithm.Algorithm.TheVariants.{EightByteTag, SixteenByteTag}
use Rattle.osc_model.specs.declared.context.ContextName.{ContextName}
use Rattle.osc_model.specs.declared.step.ClientResult.TheVariants.{Made}
use Rattle.osc_model.specs.declared.step.Step.{Step}
use Rattle.osc_authz.specs.{ClientContextState}
use Rattle.osc_client.specs.State.{State as Client}
use Rattle.osc_words.specs.declared.context_words.ContextForm.{ContextForm}
use Rattle.osc_words.specs.declared.context_words.ContextForm.TheVariants.{Libcoap, Aiocoap, Json}
use Rattle.osc_turn.specs.{ClockAndRandomState, IsSeeded}
use Rattle.osc_turn.specs.Running.{Running}
use Rattle.osc_words.specs.declared.times.Patience.{Patience}
use Rattle.osc_programs.specs.Conversation.{Posts, Upshot, Waits, after_passing, end_of, sent_alone}
use Rattle.osc_programs.specs.Ended.{IsFault, NoSettings}
use Rattle.osc_programs.specs.System.{Passed}
use Rattle.osc_programs.specs.declared.asking.AskEnd.TheVariants.{Told}
use Rattle.osc_programs.specs.declared.ended.Ended.{Ended}
use Rattle.osc_programs.specs.declared.ended.Ended.TheVariants.{Done, NotDone}

-- ---- the exchange

-- With this patience it posts its token, and waits. Its time runs from the post on.
pub record Exchanges (patience : Patience) (old : Running Client) (upshot : Upshot) (new : Running Client) : Type 0 where
  pub step : Step
  pub begun : Running Client
  pub posts : Posts old step begun
  pub waited : Upshot
  pub left : ℕ
  pub waits : Waits (end_of patience begun) patience.turns step.notes.result begun waited left new
  pub is : upshot ≡ after_passing (sent_alone step) waited

-- the same from the start on, and its last result is that it has a context
pub record Agrees (patience : Patience) (old new : Client) : Type 0 where
  pub start : ClockAndRandomState
  pub seeded : IsSeeded start
  pub passed : Passed
  pub last : Running Client
  pub exchanges : Exchanges patience (record { node = old; busy = None; supply = start }) (record { passed = passed; outcome = Told Made }) last
  pub ends : new ≡ last.node

-- the client has this context, under which nothing was sealed yet: it takes number 0 next
pub record HasUnused (client : Client) (context : ClientContextState) : Type 0 where
  pub held : client.context ≡ Some context
  pub unused : context.next ≡ 0

-- ---- how it is written

-- the name of the algorithm (RFC 9053 section 4.2)
abbrev pub algorithm_name : Algorithm → List ℕ
algorithm_name EightByteTag = codes "AES-CCM-16-64-128"
algorithm_name SixteenByteTag = codes "AES-CCM-16-128-128"

-- KEY,hex,"VALUE"
abbrev pub libcoap_row : List ℕ → List ℕ → List ℕ
libcoap_row key value = key ++ codes ",hex,\"" ++ encode_lower value ++ codes "\"\n"

abbrev pub libcoap_id_context : Option (List ℕ) → List ℕ
libcoap_id_context None = []
libcoap_id_context (Some named) = libcoap_row (codes "id_context") named

abbrev pub libcoap_algorithm : Algorithm → List ℕ
libcoap_algorithm alg = codes "aead_alg,text,\"" ++ algorithm_name alg ++ codes "\"\n"

abbrev pub libcoap_keys : ContextName → List ℕ
libcoap_keys name = libcoap_row (codes "master_secret") name.secret ++ libcoap_row (codes "master_salt") name.salt

-- of the two IDs the sender's is the client's
abbrev pub libcoap_ids : ContextName → List ℕ
libcoap_ids name =
    libcoap_row (codes "sender_id") name.client_id ++ libcoap_row (codes "recipient_id") name.server_id ++ libcoap_id_context name.id_context

-- what `coap-client -E` of libcoap reads, which counts from 0 on
abbrev pub libcoap_text : ContextName → List ℕ
libcoap_text name = libcoap_keys name ++ libcoap_ids name ++ libcoap_algorithm name.alg

-- , "KEY": "VALUE"
abbrev pub member : List ℕ → List ℕ → List ℕ
member key value = codes ", \"" ++ key ++ codes "\": \"" ++ encode_lower value ++ codes "\""

abbrev pub member_if : List ℕ → Option (List ℕ) → List ℕ
member_if key None = []
member_if key (Some value) = member key value

-- the secret and the salt, by these names
abbrev pub key_members : List ℕ → List ℕ → ContextName → List ℕ
key_members secret salt name = member secret name.secret ++ member salt name.salt

-- the IDs and the id context, likewise
abbrev pub id_members : List ℕ → List ℕ → List ℕ → ContextName → List ℕ
id_members sender recipient id_context name = member sender name.client_id ++ member recipient name.server_id ++ member_if id_context name.id_context

abbrev pub aiocoap_algorithm : Algorithm → List ℕ
aiocoap_algorithm alg = codes "{\"algorithm\": \"" ++ algorithm_name alg ++ codes "\""

-- the file settings.json in the folder of a context of aiocoap, which counts from 0 on where nothing else is there
abbrev pub aiocoap_text : ContextName → List ℕ
aiocoap_text name =
    aiocoap_algorithm name.alg ++ key_members (codes "secret_hex") (codes "salt_hex") name
    ++ id_members (codes "sender-id_hex") (codes "recipient-id_hex") (codes "id-context_hex") name ++ codes "}\n"

-- HKDF SHA-256 is -10 (RFC 9053 section 5.1)
abbrev pub json_numbers : ℕ → ℕ → List ℕ
json_numbers alg next =
    codes "{\"aead_algorithm\": " ++ decimal alg ++ codes ", \"sender_sequence_number\": " ++ decimal next ++ codes ", \"hkdf_algorithm\": -10"

-- a JSON object by the names of RFC 8613 section 3.1
abbrev pub json_text : ClientContextState → List ℕ
json_text context =
    json_numbers (algorithm_number context.name.alg) context.next ++ key_members (codes "master_secret") (codes "master_salt") context.name
    ++ id_members (codes "sender_id") (codes "recipient_id") (codes "id_context") context.name ++ codes "}\n"

abbrev pub context_text : ContextForm → ClientContextState → List ℕ
context_text Libcoap context = libcoap_text context.name
context_text Aiocoap context = aiocoap_text context.name
context_text Json context = json_text context

-- ---- how it ends

-- the exchange made no context, or can't begin or go on
abbrev pub CannotTurn : Ended → Type 0
CannotTurn NotDone = Unit {0}
CannotTurn other = IsFault other

-- the same, or there are no settings for it
abbrev pub CannotAgree : Ended → Type 0
CannotAgree NotDone = Unit {0}
CannotAgree other = NoSettings other

-- `osc context`
abbrev pub EndsContext : Ended → Type 0
EndsContext Done = Unit {0}
EndsContext other = CannotAgree other
