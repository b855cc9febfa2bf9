-- Protected requests and responses (RFC 8613 sections 4, 5 and 8).
use Rattle.std.specs.Prelude.{◌≡◌, ℕ, ◌+◌, ◌≤◌, List, [], length, replicate, Option, Some, None, IfSome}
use Rattle.std.specs.Option.{ForSome}
use Rattle.osc_model.specs.declared.context.ContextName.{ContextName}
use Rattle.osc_model.specs.declared.context.Side.{Side}
use Rattle.osc_model.specs.declared.context.Side.TheVariants.{Client, Server}
use Rattle.osc_model.specs.declared.step.Note.{Note}
use Rattle.osc_coap.specs.{spelling, plaintext_spelling, bare}
use Rattle.osc_coap.specs.Message.{Message}
use Rattle.osc_model.specs.declared.reply.Reply.{Reply}
use Rattle.osc_options.specs.{oscore, with_reply, value, plaintext_of, protected}
use Rattle.osc_context.specs.{algorithm_of, key_of, nonce_of}
use Rattle.osc_protect.specs.Value.{value_spelling, SpellsValue}
use Rattle.osc_protect.specs.Aad.{aad_of}
use Rattle.osc_protect.specs.declared.header.Header.{Header}
use Rattle.osc_protect.specs.declared.request.Draft.{Draft}
use Rattle.osc_ccm.specs.{Sealing, Sealings, Tags}

-- an id context is short enough for the option's value
abbrev pub HasShortContext : ContextName → Type 0
HasShortContext name = IfSome name.id_context (λ bytes. length bytes ≤ 64)

-- ---- what is sealed

-- what the plaintext of a message is spelled like
abbrev pub plain_bytes : Message → List ℕ
plain_bytes m = plaintext_spelling (plaintext_of m)

-- the nonce of a request: its Partial IV is the client's (section 5.2)
abbrev pub request_nonce : ContextName → ℕ → List ℕ
request_nonce name number = nonce_of name name.client_id number

-- the nonce of a response: the request's, or that of a Partial IV of its own, which is the server's
abbrev pub response_nonce : ContextName → ℕ → Option ℕ → List ℕ
response_nonce name number None = request_nonce name number
response_nonce name number (Some own) = nonce_of name name.server_id own

-- one use of a key, noted: the number is the request's, and the associated data is the request's and its response's
abbrev pub note_of : ContextName → Side → ℕ → List ℕ → List ℕ → Note
note_of name side number nonce text =
    record { context = name; side = side; number = number; nonce = nonce; aad = aad_of name number; plaintext = text }

-- ---- protected messages

-- option 9 of a request: Partial IV, kid, and the id context where there is one (section 6.1)
abbrev pub request_value : ContextName → ℕ → List ℕ
request_value name number = value_spelling (record { partial_iv = Some number; kid_context = name.id_context; kid = Some name.client_id })

-- option 9 of a response: its own Partial IV, where it has one
abbrev pub response_value : Option ℕ → List ℕ
response_value own = value_spelling (record { partial_iv = own; kid_context = None; kid = None })

-- a protected request is a POST (0.02), and a protected response 2.04 (section 4.2)
abbrev pub request_with : ContextName → ℕ → Message → List ℕ → Message
request_with name number m sealed = protected m 2 (request_value name number) sealed

abbrev pub response_with : Option ℕ → Message → List ℕ → Message
response_with own m sealed = protected m 68 (response_value own) sealed

-- the message with this header that carries a reply
abbrev pub reply_with_header : Header → Reply → Message
reply_with_header header reply = with_reply (bare header.kind reply.code.0 header.id header.token.now) reply

-- `is_sealing algorithm` is the relation of the algorithm's cipher; a message is under the algorithm of its context
module _ (is_sealing : Sealings) where
  -- a protected request in place of m, in which this text is sealed
  pub record IsRequestOf (text : List ℕ) (name : ContextName) (number : ℕ) (m p : Message) : Type 0 where
    pub sealed : List ℕ
    pub is_sealed : is_sealing (algorithm_of name) (key_of name Client) (request_nonce name number) (aad_of name number) text sealed
    pub whole : p ≡ request_with name number m sealed

  -- m, protected
  abbrev pub IsProtectedRequest : ContextName → ℕ → Message → Message → Type 0
  IsProtectedRequest name number m p = IsRequestOf (plain_bytes m) name number m p

  pub record IsProtectedResponse (name : ContextName) (number : ℕ) (own : Option ℕ) (m p : Message) : Type 0 where
    pub sealed : List ℕ
    pub is_sealed : is_sealing (algorithm_of name) (key_of name Server) (response_nonce name number own) (aad_of name number) (plain_bytes m) sealed
    pub whole : p ≡ response_with own m sealed

-- what is sealed is the sealing of some text
abbrev pub IsGenuine : Sealing → (key nonce aad sealed : List ℕ) → Type 0
IsGenuine is_sealing key nonce aad sealed = (text : List ℕ) × is_sealing key nonce aad text sealed

-- the most bytes of a protected message: those of a datagram (RFC 7252 section 4.6)
abbrev pub longest_message : ℕ
longest_message = 1152

-- How long the protected message is, where the sealed text and a tag have `size` bytes: only their number counts.
abbrev pub length_of_request : ℕ → ContextName → ℕ → Message → ℕ
length_of_request size name number m = length (spelling (request_with name number m (replicate size 0)))

abbrev pub request_length : Tags → ContextName → ℕ → Message → ℕ
request_length tag name number m = length_of_request (length (plain_bytes m) + tag (algorithm_of name)) name number m

abbrev pub response_length : ℕ → Option ℕ → Message → ℕ
response_length tag own m = length (spelling (response_with own m (replicate (length (plain_bytes m) + tag) 0)))

-- ---- drafts

-- m before it is protected as a request at this number: the message that is sent, still without its payload, and what is sealed of it
pub record IsDraft (tag : Tags) (name : ContextName) (number : ℕ) (m : Message) (draft : Draft) : Type 0 where
  pub outside : draft.message ≡ request_with name number m []
  pub inside : plaintext_spelling draft.plaintext ≡ plain_bytes m
  pub fits : request_length tag name number m ≤ longest_message

-- ---- room

-- the memory of one seal: for which context, about the request of which number, and for how many bytes of text at most
pub record RoomOf : Type 0 where
  pub name : ContextName
  pub number : ℕ
  pub most : ℕ

-- a text that isn't longer than a message may be has room
abbrev pub HasRoomFor : List ℕ → ℕ → Type 0
HasRoomFor text most = length text ≤ longest_message → length text ≤ most

-- ---- what a message says, before it is opened

-- what a protected request says: its number, its kid, maybe a kid context, and what is sealed
pub record SealedRequest : Type 0 where
  pub number : ℕ
  pub kid : List ℕ
  pub kid_context : Option (List ℕ)
  pub sealed : List ℕ

-- this value of option 9, and the payload of this message
pub record SaysRequest (bytes : List ℕ) (m : Message) (request : SealedRequest) : Type 0 where
  pub spelled : SpellsValue bytes (record { partial_iv = Some request.number; kid_context = request.kid_context; kid = Some request.kid })
  pub payload : m.payload ≡ Some request.sealed

pub record IsRequest (m : Message) (request : SealedRequest) : Type 0 where
  pub bytes : List ℕ
  pub option : value oscore m.options ≡ Some bytes
  pub says : SaysRequest bytes m request

-- it names this context: by the client's ID, and by the id context where it has a kid context
pub record IsFor (name : ContextName) (request : SealedRequest) : Type 0 where
  pub kid : request.kid ≡ name.client_id
  pub kid_context : ForSome request.kid_context (λ bytes. name.id_context ≡ Some bytes)

-- what a protected response says: maybe a Partial IV of its own, and what is sealed; kid and kid context have no effect
pub record SealedResponse : Type 0 where
  pub own : Option ℕ
  pub sealed : List ℕ

pub record IsResponse (m : Message) (response : SealedResponse) : Type 0 where
  pub bytes : List ℕ
  pub kid_context : Option (List ℕ)
  pub kid : Option (List ℕ)
  pub option : value oscore m.options ≡ Some bytes
  pub spelled : SpellsValue bytes (record { partial_iv = response.own; kid_context = kid_context; kid = kid })
  pub payload : m.payload ≡ Some response.sealed
