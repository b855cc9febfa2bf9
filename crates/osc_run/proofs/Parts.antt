-- What is kept of the server's contexts, of a client, and of the seals, where no drawn nonce comes twice.
use Rattle.std.proofs.Common.{◌≡◌, ◌≢◌, ◌<◌, ◌≤◌, ◌^◌, ℕ, List, ◌∷◌, length, Some, Bool, false, sym, ap, ◌∙◌, inr, ⊎_elim}
use Rattle.osc_model.specs.declared.context.ContextName.{ContextName}
use Rattle.osc_model.specs.declared.step.Note.{Note}
use Rattle.osc_model.specs.declared.step.Entry.{Entry}
use Rattle.osc_context.specs.{master_salt, server_nonce, longest_id, greatest_number}
use Rattle.osc_window.specs.{IsFresh}
use Rattle.osc_authz.specs.{ClientContextState, OfToken, In}
use Rattle.osc_authz.specs.Begun.{Begun}
use Rattle.osc_run.specs.{Noted, ByServer, ByClient, ByProxy, ClientState, OpenAsk, Exchange, Ask, Minted, reply_note, request_note, Holds, IsDrawn, history}
use Rattle.osc_options.specs.{IsWithinRanges}
use Rattle.osc_run.proofs.LawsBelow.{Laws}

-- ---- words

-- the client's ID fits a nonce, and the IDs differ
pub record IsLawfulName (name : ContextName) : Type 0 where
  pub short : length name.client_id ≤ longest_id
  pub apart : name.client_id ≢ name.server_id

-- The master salt was joined of a salt, this nonce of the client, and another.
pub record IsJoinedOf (salt nonce1 : List ℕ) : Type 0 where
  pub front : List ℕ
  pub nonce2 : List ℕ
  pub is : salt ≡ master_salt front nonce1 nonce2
  pub front_size : length front < 2 ^ 64
  pub size : length nonce1 < 2 ^ 64
  pub nonce2_size : length nonce2 < 2 ^ 64

-- it tells the client's nonce
pub one_nonce : Laws → (salt a b : List ℕ) → IsJoinedOf salt a → IsJoinedOf salt b → a ≡ b
one_nonce laws salt a b j k =
    (laws.one_master_salt j.front a j.nonce2 k.front b k.nonce2 j.front_size j.size j.nonce2_size k.front_size k.size k.nonce2_size (sym j.is ∙ k.is)).1

-- the client drew this nonce
abbrev pub IsDrawnBy : List Noted → ℕ → List ℕ → Type 0
IsDrawnBy notes by nonce = (s : Noted) × In s notes × (s.notes.drawn ≡ Some nonce) × (s.actor ≡ ByClient by)

-- the client or, in a lie, its holder sealed this
pub record IsSealedBy (notes : List Noted) (by : ℕ) (by_lie : Bool) (t : Note) : Type 0 where
  pub step : Noted
  pub noted : In step notes
  pub actor : step.actor ≡ ByClient by
  pub lied : step.lied ≡ by_lie
  pub seal : step.notes.seals ≡ Some t

-- no lie of the client sealed a request under this number in this context
pub record IsAskedBy (notes : List Noted) (by : ℕ) (q : OpenAsk) : Type 0 where
  pub plaintext : List ℕ
  pub sealed : IsSealedBy notes by false (request_note q.context q.number plaintext)

-- ---- the server

-- its contexts against what was noted
pub record ServerPart (contexts : List OfToken) (notes : List Noted) : Type 0 where
  pub drawn : (c : OfToken) → In c contexts → IsDrawn notes (server_nonce c.held.name.salt)
  pub lawful : (c : OfToken) → In c contexts → IsLawfulName c.held.name
  pub unused : (c : OfToken) (e : Entry) → In c contexts → In e (history notes) → e.context ≡ c.held.name → IsFresh c.held.window e.number → ⊥
  pub alike : (c d : OfToken) → In c contexts → In d contexts → server_nonce c.held.name.salt ≡ server_nonce d.held.name.salt → c.held.name ≡ d.held.name
  pub alike_served : (c : OfToken) (e : Entry) → In c contexts → In e (history notes) → server_nonce e.context.salt ≡ server_nonce c.held.name.salt → e.context ≡ c.held.name
  pub served_drawn : (e : Entry) → In e (history notes) → IsDrawn notes (server_nonce e.context.salt)

-- ---- a client

pub record OneExchange (notes : List Noted) (by : ℕ) (c : ClientState) (nonce : List ℕ) : Type 0 where
  pub drawn : IsDrawnBy notes by nonce
  pub size : length nonce < 2 ^ 64
  pub unsealed : (t : Note) → IsSealedBy notes by false t → IsJoinedOf t.context.salt nonce → ⊥
  pub other : (x : ClientContextState) → c.context ≡ Some x → IsJoinedOf x.name.salt nonce → ⊥

pub record OneContext (its_secret : List ℕ) (notes : List Noted) (by : ℕ) (x : ClientContextState) : Type 0 where
  pub nonce : List ℕ
  pub joined : IsJoinedOf x.name.salt nonce
  pub drawn : IsDrawnBy notes by nonce
  pub secret : x.name.secret ≡ its_secret
  pub lawful : IsLawfulName x.name
  pub below : (t : Note) → IsSealedBy notes by false t → IsJoinedOf t.context.salt nonce → (t.context ≡ x.name) × (t.number < x.next)

pub record OneClient (notes : List Noted) (by : ℕ) (c : ClientState) : Type 0 where
  pub exchange : (b : Begun) → c.outstanding ≡ Exchange b → OneExchange notes by c b.nonce1
  pub context : (x : ClientContextState) → c.context ≡ Some x → OneContext c.desk.secret notes by x
  pub ask : (q : OpenAsk) → c.outstanding ≡ Ask q → IsAskedBy notes by q

-- ---- the seals

-- A client's seal is of a request with a lawful number, in a context with the secret of its grant, whose nonce it drew itself.
pub record ClientSeal (minted : List Minted) (notes : List Noted) (by : ℕ) (t : Note) : Type 0 where
  pub shape : t ≡ request_note t.context t.number t.plaintext
  pub number : t.number ≤ greatest_number
  pub holds : Holds minted by t.context.secret
  pub lawful : IsLawfulName t.context
  pub nonce : List ℕ
  pub joined : IsJoinedOf t.context.salt nonce
  pub drawn : IsDrawnBy notes by nonce

-- a server's seal is of an entry's reply
pub record ServerSeal (notes : List Noted) (t : Note) : Type 0 where
  pub entry : Entry
  pub served : In entry (history notes)
  pub is : t ≡ reply_note entry.context entry.number entry.reply
  pub number : entry.number ≤ greatest_number
  pub lawful : IsLawfulName entry.context
  pub least : 64 ≤ entry.reply.code.0
  pub most : entry.reply.code.0 < 192
  pub within : IsWithinRanges entry.reply

pub record SealPart (minted : List Minted) (notes : List Noted) : Type 0 where
  pub client : (by : ℕ) (lied : Bool) (t : Note) → IsSealedBy notes by lied t → ClientSeal minted notes by t
  pub server : (s : Noted) (t : Note) → In s notes → s.actor ≡ ByServer → s.notes.seals ≡ Some t → ServerSeal notes t
  pub proxy : (s : Noted) (t : Note) (by : ℕ) → In s notes → s.actor ≡ ByProxy by → s.notes.seals ≡ Some t → ⊥

-- ---- one more step leaves what was noted

pub more_drawn : (notes : List Noted) (s : Noted) (n : List ℕ) → IsDrawn notes n → IsDrawn (s ∷ notes) n
more_drawn notes s n d = (d.0, inr d.1, d.2)

pub more_drawn_by : (notes : List Noted) (s : Noted) (by : ℕ) (n : List ℕ) → IsDrawnBy notes by n → IsDrawnBy (s ∷ notes) by n
more_drawn_by notes s by n d = (d.0, inr d.1, d.2, d.3)

pub more_sealed : (notes : List Noted) (s : Noted) (by : ℕ) (lied : Bool) (t : Note) → IsSealedBy notes by lied t → IsSealedBy (s ∷ notes) by lied t
more_sealed notes s by lied t a = record { step = a.step; noted = inr a.noted; actor = a.actor; lied = a.lied; seal = a.seal }

-- ---- a client that took no step

-- a step by another, or that seals nothing but in a lie, adds no honest seal of this client
pub record Silent (s : Noted) (by : ℕ) : Type 0 where
  pub is : (t : Note) → s.actor ≡ ByClient by → s.lied ≡ false → s.notes.seals ≡ Some t → ⊥

pub fewer_sealed : (notes : List Noted) (s : Noted) (by : ℕ) (t : Note) → Silent s by → IsSealedBy (s ∷ notes) by false t → IsSealedBy notes by false t
fewer_sealed notes s by t q a =
    ⊎_elim
    (λ (m : a.step ≡ s). absurd (q.is t (ap (λ (r : Noted). r.actor) (sym m) ∙ a.actor) (ap (λ (r : Noted). r.lied) (sym m) ∙ a.lied) (ap (λ (r : Noted). r.notes.seals) (sym m) ∙ a.seal)))
    (λ (m : In a.step notes). record { step = a.step; noted = m; actor = a.actor; lied = a.lied; seal = a.seal })
    a.noted

pub client_stays : (notes : List Noted) (s : Noted) (by : ℕ) (c : ClientState) → Silent s by → OneClient notes by c → OneClient (s ∷ notes) by c
client_stays notes s by c q k = record {
  exchange = λ b h. let x = k.exchange b h in record {
    drawn = more_drawn_by notes s by b.nonce1 x.drawn;
    size = x.size;
    unsealed = λ t a. x.unsealed t (fewer_sealed notes s by t q a);
    other = x.other;
  };
  context = λ y h. let x = k.context y h in record {
    nonce = x.nonce;
    joined = x.joined;
    drawn = more_drawn_by notes s by x.nonce x.drawn;
    secret = x.secret;
    lawful = x.lawful;
    below = λ t a. x.below t (fewer_sealed notes s by t q a);
  };
  ask = λ o h. let a = k.ask o h in record { plaintext = a.plaintext; sealed = more_sealed notes s by false (request_note o.context o.number a.plaintext) a.sealed };
}
