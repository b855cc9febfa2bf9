-- The outcome of a post, case by case.
use Rattle.std.proofs.Common.{◌≡◌, ℕ, Bool, true, false, not, List, Option, Some, None, Result, Ok, Err, inl, inr, refl, sym, ap, subst, ◌∙◌}
use Rattle.osc_model.specs.{is_revoked, revocation_of, stands}
use Rattle.osc_model.specs.Scope.{Scope}
use Rattle.osc_model.specs.Tree.{Tree}
use Rattle.osc_model.specs.declared.node.Moment.{Moment}
use Rattle.osc_model.specs.declared.step.Note.{Note}
use Rattle.osc_token.specs.{ComesTo, IsToken, token_note}
use Rattle.osc_token.specs.declared.claims.Claims.{Claims}
use Rattle.osc_token.specs.declared.error.TokenError.{TokenError}
use Rattle.osc_authz.specs.{Answers, HasRoom, Judges, is_allowed, known_of, DeskState, IsPost, IsKeyFor, IsKeyOf, IsOpened, Opens, Posts, Offer, OpenedToken, offered}
use Rattle.osc_authz.specs.Posting.{Posting}
use Rattle.osc_authz.specs.declared.error.PostError.{PostError}
use Rattle.osc_authz.specs.declared.rules.ContextRules.{ContextRules}
use Rattle.osc_authz.specs.declared.post.Post.{Post}
use Rattle.osc_authz.specs.declared.post.PostAnswer.{PostAnswer}
use Rattle.osc_authz.specs.declared.post.PostReply.{PostReply}
use Rattle.osc_authz.specs.Inner.KnownAnswer.{IsKnownAnswer}

-- what was judged, for the desk's own audience and at the offer's moment
pub judged : (text audience own : List ℕ) (now at : Moment) (result : Result (Claims × Scope) TokenError)
    → ComesTo text audience now result → audience ≡ own → now ≡ at → ComesTo text own at result
judged text audience own now at result comes same e = coe 0 1 (i. ComesTo text (same i) (e i) result) comes

-- whether an id is revoked, by the path that was made of it
pub judged_revoked : (tree own : Tree) (path revoked : Option (List ℕ)) (token id : List ℕ) (found is : Bool)
    → found ≡ stands tree path → found ≡ is → tree ≡ own → path ≡ revocation_of revoked token → token ≡ id → is_revoked revoked own id ≡ is
judged_revoked tree own path revoked token id found is e b t p k = sym (λ i. stands (t i) ((p ∙ ap (revocation_of revoked) k) i)) ∙ sym e ∙ b

-- whether a scope is taken, by the rules of the desk itself
pub allowed : (rules own : ContextRules) (scope : Scope) (result : Bool) → result ≡ is_allowed rules scope → rules ≡ own → result ≡ true → is_allowed own scope ≡ true
allowed rules own scope true is same e = sym (is ∙ ap (λ (r : ContextRules). is_allowed r scope) same)
allowed rules own scope false is same e = cc

pub not_allowed : (rules own : ContextRules) (scope : Scope) (result : Bool) → result ≡ is_allowed rules scope → rules ≡ own → result ≡ false → is_allowed own scope ≡ false
not_allowed rules own scope false is same e = sym (is ∙ ap (λ (r : ContextRules). is_allowed r scope) same)
not_allowed rules own scope true is same e = cc

-- what is answered to a post that is known
pub known_answers : (before : DeskState) (offer : Offer) (text : List ℕ) (claims : Claims) (scope : Scope) (made : PostAnswer) (answer : Result PostReply PostError)
    → HasRoom before offer text claims scope → known_of before offer claims ≡ Some made
    → IsKnownAnswer before offer claims made answer → Judges before offer text answer None before
known_answers before offer text claims scope made answer room k (inl held) = (Answers.again claims scope made room k held.0 held.1 refl, refl)
known_answers before offer text claims scope made answer room k (inr gone) = (Answers.replayed claims scope made room k gone.0 gone.1 refl, refl)

module _ (IsSealing : List ℕ → List ℕ → List ℕ → List ℕ → List ℕ → Type 0) (before after : DeskState) (posting : Posting)
    (token nonce1 client_id : List ℕ) (is_post : IsPost posting.body token nonce1 client_id) where
  -- a post whose token opened, and what was answered
  pub opened_post : (key : List ℕ) (its : OpenedToken) (note : Note) (answer : Result PostReply PostError) (holder : Option (List ℕ))
      → IsToken IsSealing key token its.protected its.iv its.text → IsKeyFor IsSealing before token key → note ≡ token_note key its.protected its.iv its.text
      → Judges before (offered posting nonce1 client_id) note.plaintext answer holder after
      → Posts IsSealing before posting (record { opened = Some note; answer = answer; holder = holder }) after
  opened_post key its note answer holder is_token its_key is judges =
      let found = subst (λ n. Judges before (offered posting nonce1 client_id) n.plaintext answer holder after) is judges in
      let o : IsOpened IsSealing key posting.body nonce1 client_id its = record { token = token; is_post = is_post; is_token = is_token } in
      subst (λ n. Posts IsSealing before posting (record { opened = Some n; answer = answer; holder = holder }) after) (sym is)
      (Posts.opened key nonce1 client_id its answer o its_key found.0
      (ap (λ (h : Option (List ℕ)). let p : Post = record { opened = Some (token_note key its.protected its.iv its.text); answer = answer; holder = h } in p) found.1))

  -- a post whose token didn't open
  pub unopened_post : (post : Post) → ((key : List ℕ) → IsKeyOf before key → ¬ Opens IsSealing key token)
      → post ≡ record { opened = None; answer = Err (PostError.Token TokenError.NotGenuine); holder = None } → after ≡ before
      → Posts IsSealing before posting post after
  unopened_post post never e unchanged = Posts.not_genuine token nonce1 client_id is_post never e unchanged
