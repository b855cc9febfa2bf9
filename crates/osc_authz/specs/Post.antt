-- What a post to authz-info does: the checks in their order, of which the first that fails answers.
use Rattle.std.specs.Prelude.{◌≡◌, ◌⊎◌, ℕ, List, Some, None, Result, Err}
use Rattle.osc_model.specs.declared.code.Code.{Code}
use Rattle.osc_model.specs.{code}
use Rattle.osc_token.specs.{IsToken, token_note}
use Rattle.osc_token.specs.declared.error.TokenError.{TokenError}
use Rattle.osc_token.specs.declared.error.TokenError.TheVariants.{NotGenuine}
use Rattle.osc_authz.specs.Agreement.{Answers, holder_of}
use Rattle.osc_authz.specs.Exchange.{IsPost}
use Rattle.osc_authz.specs.Desk.{DeskState}
use Rattle.osc_authz.specs.Posting.{OpenedToken, Posting, offered}
use Rattle.osc_authz.specs.declared.error.PostError.{PostError}
use Rattle.osc_authz.specs.declared.error.PostError.TheVariants.{Fields, Token, Revoked, Full, Replayed}
use Rattle.osc_authz.specs.declared.post.Post.{Post}
use Rattle.osc_authz.specs.declared.post.PostAnswer.{PostAnswer}
use Rattle.osc_authz.specs.declared.post.PostReply.{PostReply}
use Rattle.osc_authz.specs.declared.post.PostReply.TheVariants.{New, Known}

-- these bytes are a token that opens under this key
abbrev pub Opens : (List ℕ → List ℕ → List ℕ → List ℕ → List ℕ → Type 0) → List ℕ → List ℕ → Type 0
Opens IsSealing key token = (its : OpenedToken) × IsToken IsSealing key token its.protected its.iv its.text

-- the key, or the old key of a desk
abbrev pub IsKeyOf : DeskState → List ℕ → Type 0
IsKeyOf desk key = (key ≡ desk.key) ⊎ (desk.old_key ≡ Some key)

-- the one that a token is opened with: the key, or the old key where the token doesn't open under the key
abbrev pub IsKeyFor : (List ℕ → List ℕ → List ℕ → List ℕ → List ℕ → Type 0) → DeskState → List ℕ → List ℕ → Type 0
IsKeyFor IsSealing desk token key = (key ≡ desk.key) ⊎ ((desk.old_key ≡ Some key) × (¬ Opens IsSealing desk.key token))

-- the body is a post, and its token opens
pub record IsOpened (IsSealing : List ℕ → List ℕ → List ℕ → List ℕ → List ℕ → Type 0) (key body nonce1 client_id : List ℕ) (its : OpenedToken) : Type 0 where
  pub token : List ℕ
  pub is_post : IsPost body token nonce1 client_id
  pub is_token : IsToken IsSealing key token its.protected its.iv its.text

pub data Posts (IsSealing : List ℕ → List ℕ → List ℕ → List ℕ → List ℕ → Type 0) (before : DeskState) (posting : Posting) (post : Post) (after : DeskState) : Type 0 where
  no_post : ((token nonce1 client_id : List ℕ) → ¬ IsPost posting.body token nonce1 client_id)
      → post ≡ record { opened = None; answer = Err Fields; holder = None } → after ≡ before
      → Posts IsSealing before posting post after
  not_genuine : (token nonce1 client_id : List ℕ) → IsPost posting.body token nonce1 client_id
      → ((key : List ℕ) → IsKeyOf before key → ¬ Opens IsSealing key token)
      → post ≡ record { opened = None; answer = Err (Token NotGenuine); holder = None } → after ≡ before
      → Posts IsSealing before posting post after
  opened : (key nonce1 client_id : List ℕ) (its : OpenedToken) (answer : Result PostReply PostError)
      → (post_is : IsOpened IsSealing key posting.body nonce1 client_id its) → IsKeyFor IsSealing before post_is.token key
      → (answers : Answers before (offered posting nonce1 client_id) its.text answer after)
      → post ≡ record { opened = Some (token_note key its.protected its.iv its.text); answer = answer; holder = holder_of answers }
      → Posts IsSealing before posting post after

-- the nonce and the recipient ID of the server that a post is answered
abbrev pub answer_of : PostReply → PostAnswer
answer_of (New answer) = answer
answer_of (Known answer) = answer

-- the code of the answer to a refused post (RFC 9200 section 5.10.1)
abbrev pub code_of : PostError → Code
code_of Fields = code 4 0
code_of (Token TokenError.NotGenuine) = code 4 1
code_of (Token TokenError.NotYet) = code 4 1
code_of (Token TokenError.Expired) = code 4 1
code_of (Token TokenError.Audience) = code 4 3
code_of (Token TokenError.BadClaims) = code 4 0
code_of (Token TokenError.BadScope) = code 4 0
code_of Revoked = code 4 1
code_of Replayed = code 4 1
code_of Full = code 5 3
