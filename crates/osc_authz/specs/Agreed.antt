-- A post that is answered 2.01.
use Rattle.std.specs.Prelude.{◌≡◌, ℕ, List, Some, None}
use Rattle.osc_model.specs.Scope.{Scope}
use Rattle.osc_token.specs.{token_note}
use Rattle.osc_token.specs.declared.claims.Claims.{Claims}
use Rattle.osc_authz.specs.Agreement.{Agrees, IsGranted, known_of}
use Rattle.osc_authz.specs.Desk.{DeskState}
use Rattle.osc_authz.specs.Post.{IsKeyFor, IsOpened}
use Rattle.osc_authz.specs.Posting.{OpenedToken, Posting, offered}
use Rattle.osc_authz.specs.declared.post.Post.{Post}
use Rattle.osc_authz.specs.declared.post.PostAnswer.{PostAnswer}

-- Its token opened, its claims were granted, their id isn't revoked, the post isn't known, and both ends' nonces and IDs make one more
-- context.
pub record IsAgreed (IsSealing : List ℕ → List ℕ → List ℕ → List ℕ → List ℕ → Type 0) (before : DeskState) (posting : Posting) (post : Post) (answer : PostAnswer) (after : DeskState) : Type 0 where
  pub key : List ℕ
  pub nonce1 : List ℕ
  pub client_id : List ℕ
  pub its : OpenedToken
  pub claims : Claims
  pub scope : Scope
  pub opened : IsOpened IsSealing key posting.body nonce1 client_id its
  pub key_is : IsKeyFor IsSealing before opened.token key
  pub granted : IsGranted before (offered posting nonce1 client_id) its.text claims scope
  pub unknown : known_of before (offered posting nonce1 client_id) claims ≡ None
  pub agrees : Agrees before (offered posting nonce1 client_id) claims scope answer after
  pub noted : post.opened ≡ Some (token_note key its.protected its.iv its.text)
  pub holder : post.holder ≡ Some claims.material.id
