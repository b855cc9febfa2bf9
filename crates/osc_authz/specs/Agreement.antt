-- The outcome of a post whose token opened.
use Rattle.std.specs.Prelude.{◌≡◌, ℕ, ◌+◌, ◌/◌, Bool, true, false, not, ◌||◌, Option, Some, None, option_map, List, [], ◌∷◌, Result, Ok, Err}
use Rattle.osc_model.specs.Scope.{Scope}
use Rattle.osc_model.specs.{has_subtrees, is_revoked, nonce_drawn, revocation_of}
use Rattle.osc_model.specs.declared.context.ContextName.{ContextName}
use Rattle.osc_model.specs.declared.node.Moment.{Moment}
use Rattle.osc_context.specs.{master_salt}
use Rattle.osc_token.specs.{ComesTo}
use Rattle.osc_token.specs.declared.claims.Claims.{Claims}
use Rattle.osc_token.specs.declared.claims.InputMaterial.{InputMaterial}
use Rattle.osc_token.specs.declared.error.TokenError.{TokenError}
use Rattle.osc_token.specs.declared.error.TokenError.TheVariants.{BadScope}
use Rattle.osc_authz.specs.Desk.{DeskState}
use Rattle.osc_authz.specs.SecurityContext.{SecurityContext}
use Rattle.osc_authz.specs.Known.{known, remembering, IsStillHeld}
use Rattle.osc_authz.specs.Posting.{Offer}
use Rattle.osc_authz.specs.Table.{alive, ids, IsFull, without_pending, with_pending, IsLeastFree}
use Rattle.osc_authz.specs.declared.agreed_post.AgreedPost.{AgreedPost}
use Rattle.osc_authz.specs.declared.error.PostError.{PostError}
use Rattle.osc_authz.specs.declared.error.PostError.TheVariants.{Token, Revoked, Full, Replayed}
use Rattle.osc_authz.specs.declared.post.PostAnswer.{PostAnswer}
use Rattle.osc_authz.specs.declared.post.PostReply.{PostReply}
use Rattle.osc_authz.specs.declared.post.PostReply.TheVariants.{New, Known}
use Rattle.osc_authz.specs.declared.rules.ContextRules.{ContextRules}

-- The name of the context (RFC 9203 section 4.3): the client's sender ID is the server's recipient ID, and the server's the
-- client's. The master salt has the nonces of both.
abbrev pub exchanged_name : InputMaterial → List ℕ → List ℕ → List ℕ → List ℕ → ContextName
exchanged_name material nonce1 nonce2 server_recipient_id client_recipient_id = record {
  secret = material.secret;
  salt = master_salt material.salt nonce1 nonce2;
  id_context = material.id_context;
  client_id = server_recipient_id;
  server_id = client_recipient_id;
  alg = material.alg;
}

-- the same of the input material of a token, of a post with it, and of the post's answer
abbrev pub name_by : InputMaterial → AgreedPost → ContextName
name_by material post = exchanged_name material post.nonce1 post.answer.nonce2 (post.answer.recipient_id ∷ []) post.client_id

-- the second from which on a context that is made now is too old, where there is a greatest age
abbrev pub end_of : Option ℕ → Moment → Option ℕ
end_of age now = option_map (λ seconds. now.ms / 1000 + seconds) age

-- the context that a post with these claims makes now, at a server with these rules
abbrev pub new_context : ContextRules → Moment → Claims → Scope → AgreedPost → SecurityContext
new_context rules now claims scope post = record {
  name = name_by claims.material post;
  scope = scope;
  not_before = claims.not_before;
  expires = claims.expires;
  revocation = revocation_of rules.revoked claims.material.id;
  ends = end_of rules.seconds now;
  window = [];
}

-- the post that offered this and was answered so
abbrev pub agreed_post : Offer → PostAnswer → AgreedPost
agreed_post offer answer = record { nonce1 = offer.nonce1; client_id = offer.client_id; answer = answer }

-- one more context, with the least free ID and the nonce of the draw; the post is the newest that is known
pub record Agrees (before : DeskState) (offer : Offer) (claims : Claims) (scope : Scope) (answer : PostAnswer) (after : DeskState) : Type 0 where
  pub free : IsLeastFree (offer.client_id ∷ ids (without_pending claims.material.id (alive offer.on before.table))) answer.recipient_id
  pub drawn : answer.nonce2 ≡ nonce_drawn offer.draw
  pub added : after ≡ record before {
    table = with_pending claims.material.id (new_context before.rules offer.on.at claims scope (agreed_post offer answer))
        (remembering before.rules.remembered (agreed_post offer answer)) (alive offer.on before.table);
  }

-- what is known of the post
abbrev pub known_of : DeskState → Offer → Claims → Option PostAnswer
known_of before offer claims = known claims.material.id offer.nonce1 offer.client_id before.table

-- the context that a known post made is held, and lives
abbrev pub MadeIsHeld : DeskState → Offer → Claims → PostAnswer → Type 0
MadeIsHeld before offer claims answer = IsStillHeld offer.on (name_by claims.material (agreed_post offer answer)) before.table

-- whether a server with these rules takes a token of this scope
abbrev pub is_allowed : ContextRules → Scope → Bool
is_allowed rules scope = rules.subtrees || not (has_subtrees scope)

-- its text gives these claims, whose scope is taken and whose id isn't revoked
pub record IsGranted (before : DeskState) (offer : Offer) (text : List ℕ) (claims : Claims) (scope : Scope) : Type 0 where
  pub comes : ComesTo text before.audience offer.on.at (Ok (claims, scope))
  pub allowed : is_allowed before.rules scope ≡ true
  pub unrevoked : is_revoked before.rules.revoked offer.on.tree claims.material.id ≡ false

-- and there is room for the id
pub record HasRoom (before : DeskState) (offer : Offer) (text : List ℕ) (claims : Claims) (scope : Scope) : Type 0 where
  pub granted : IsGranted before offer text claims scope
  pub room : ¬ IsFull before.rules.reserved claims.material.id (alive offer.on before.table)

-- the cases of a post whose token opened to this text
pub data Answers (before : DeskState) (offer : Offer) (text : List ℕ) (answer : Result PostReply PostError) (after : DeskState) : Type 0 where
  refused : (error : TokenError) → ComesTo text before.audience offer.on.at (Err error)
      → answer ≡ Err (Token error) → after ≡ before → Answers before offer text answer after
  disallowed : (claims : Claims) (scope : Scope) → ComesTo text before.audience offer.on.at (Ok (claims, scope))
      → is_allowed before.rules scope ≡ false
      → answer ≡ Err (Token BadScope) → after ≡ before → Answers before offer text answer after
  revoked : (claims : Claims) (scope : Scope) → ComesTo text before.audience offer.on.at (Ok (claims, scope))
      → is_allowed before.rules scope ≡ true
      → is_revoked before.rules.revoked offer.on.tree claims.material.id ≡ true
      → answer ≡ Err Revoked → after ≡ before → Answers before offer text answer after
  full : (claims : Claims) (scope : Scope) → IsGranted before offer text claims scope
      → IsFull before.rules.reserved claims.material.id (alive offer.on before.table)
      → answer ≡ Err Full → after ≡ before → Answers before offer text answer after
  again : (claims : Claims) (scope : Scope) (made : PostAnswer) → HasRoom before offer text claims scope
      → known_of before offer claims ≡ Some made → MadeIsHeld before offer claims made
      → answer ≡ Ok (Known made) → after ≡ before → Answers before offer text answer after
  replayed : (claims : Claims) (scope : Scope) (made : PostAnswer) → HasRoom before offer text claims scope
      → known_of before offer claims ≡ Some made → ¬ MadeIsHeld before offer claims made
      → answer ≡ Err Replayed → after ≡ before → Answers before offer text answer after
  agreed : (claims : Claims) (scope : Scope) (made : PostAnswer) → HasRoom before offer text claims scope
      → known_of before offer claims ≡ None
      → Agrees before offer claims scope made after
      → answer ≡ Ok (New made) → Answers before offer text answer after

-- the id of the token, where the post is agreed to
abbrev pub holder_of : {before : DeskState} {offer : Offer} {text : List ℕ} {answer : Result PostReply PostError} {after : DeskState} → Answers before offer text answer after → Option (List ℕ)
holder_of (refused error comes is same) = None
holder_of (disallowed claims scope comes below is same) = None
holder_of (revoked claims scope comes taken gone is same) = None
holder_of (full claims scope granted many is same) = None
holder_of (again claims scope made room found held is same) = None
holder_of (replayed claims scope made room found gone is same) = None
holder_of (agreed claims scope made room unknown agrees is) = Some claims.material.id

-- the answer, and the id of the token, where the post is agreed to
abbrev pub Judges : DeskState → Offer → List ℕ → Result PostReply PostError → Option (List ℕ) → DeskState → Type 0
Judges before offer text answer holder after = (answers : Answers before offer text answer after) × (holder ≡ holder_of answers)
