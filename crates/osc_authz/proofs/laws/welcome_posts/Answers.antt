use Rattle.std.proofs.Common.{◌≡◌, ◌∙◌, refl, sym, ap, inl, inr, subst, true, false, ℕ, ◌<◌, ◌≤◌, ◌^◌, List, [], ◌∷◌, length, Result, Ok, Err, Some, None, arith}
use Rattle.osc_model.specs.{nonce_drawn, is_revoked, HasBegun, IsNotOver}
use Rattle.osc_model.specs.Scope.{Scope}
use Rattle.osc_model.specs.declared.node.Draw.{Draw}
use Rattle.osc_model.specs.declared.node.Moment.{Moment}
use Rattle.osc_cbor.specs.{spelling}
use Rattle.osc_cose.specs.{enc_structure, object_item}
use Rattle.osc_scope.specs.{Entry, IsScope, scope_of}
use Rattle.osc_token.specs.{ComesTo, HasLawfulParts, IsToken, algorithm_header, claims_item, token_object}
use Rattle.osc_token.specs.declared.claims.Claims.{Claims}
use Rattle.osc_token.specs.declared.error.TokenError.{TokenError}
use Rattle.osc_authz.specs.{Answers, IsGranted, is_allowed, refused, disallowed, revoked, full, again, replayed, agreed, known, DeskState, IsPost, post_item, IsKeyFor, IsOpened, Posts, OpenedToken, offered, IsFull, alive, IsWelcome}
use Rattle.osc_authz.specs.Standing.{Standing}
use Rattle.osc_authz.specs.declared.granted.ClientDesk.{ClientDesk}
use Rattle.osc_authz.specs.declared.post.Post.{Post}
use Rattle.osc_authz.specs.declared.post.PostAnswer.{PostAnswer}
use Rattle.osc_authz.specs.declared.post.PostReply.TheVariants.{New}
use Rattle.osc_authz.proofs.laws.welcome_posts.Goals as goal

abbrev granted : Claims → Scope → Result (Claims × Scope) TokenError
granted claims scope = Ok (claims, scope)

abbrev refusal : TokenError → Result (Claims × Scope) TokenError
refusal error = Err error

never : (error : TokenError) (claims : Claims) (scope : Scope) → refusal error ≡ granted claims scope → ⊥
never error claims scope e = cc

same_scope : (a b : Claims) (x y : Scope) → granted a x ≡ granted b y → x ≡ y
same_scope a b x y e = ap (λ (p : Claims × Scope). p.1) (by (a, x) (b, y) e)
  where
    by : (p q : Claims × Scope) → (let o : Result (Claims × Scope) TokenError = Ok p in o) ≡ Ok q → p ≡ q
    by p q e = cc

same_claims : (a b : Claims) (x y : Scope) → granted a x ≡ granted b y → a ≡ b
same_claims a b x y e = ap (λ (p : Claims × Scope). p.0) (by (a, x) (b, y) e)
  where
    by : (p q : Claims × Scope) → (let o : Result (Claims × Scope) TokenError = Ok p in o) ≡ Ok q → p ≡ q
    by p q e = cc

module _ (is_sealing : List ℕ → List ℕ → List ℕ → List ℕ → List ℕ → Type 0)
    (written : (token nonce1 client_id : List ℕ) → length token < 2 ^ 64 → 1 ≤ length nonce1 → length nonce1 ≤ 64 → length client_id ≤ 7
    → IsPost (spelling (post_item token nonce1 client_id)) token nonce1 client_id)
    (one : (body token nonce1 client_id others nonces ids : List ℕ) → IsPost body token nonce1 client_id → IsPost body others nonces ids
    → (token ≡ others) × (nonce1 ≡ nonces) × (client_id ≡ ids))
    (tokens : (key iv text ciphertext : List ℕ) → length iv ≡ 13 → length ciphertext < 2 ^ 64
    → is_sealing key iv (enc_structure algorithm_header []) text ciphertext
    → IsToken is_sealing key (spelling (object_item (token_object iv ciphertext))) algorithm_header iv text)
    (minted : (key iv ciphertext protected ivs text : List ℕ) (claims : Claims) (entries : List Entry) (now : Moment) (outcome : Result (Claims × Scope) TokenError)
    → length iv ≡ 13 → length ciphertext < 2 ^ 64
    → is_sealing key iv (enc_structure algorithm_header []) (spelling (claims_item claims)) ciphertext
    → HasLawfulParts claims → IsScope claims.scope entries
    → HasBegun claims.not_before now → IsNotOver claims.expires now
    → IsToken is_sealing key (spelling (object_item (token_object iv ciphertext))) protected ivs text
    → ComesTo text claims.audience now outcome
    → outcome ≡ Ok (claims, scope_of entries))
    (before after : DeskState) (on : Standing) (draw : Draw) (post : Post) (claims : Claims) (entries : List Entry) (holder : ClientDesk) (posted : List ℕ) (id : ℕ)
    (welcome : IsWelcome is_sealing before on claims entries holder) (size : length posted ≡ 8)
    (unknown : known claims.material.id posted (id ∷ []) before.table ≡ None) where
  abbrev body : List ℕ
  body = spelling (post_item holder.token posted (id ∷ []))

  is_post : IsPost body holder.token posted (id ∷ [])
  is_post = written holder.token posted (id ∷ []) welcome.holds.token_size (omega (arith, size)) (omega (arith, size)) (omega arith)

  is_token : IsToken is_sealing before.key holder.token algorithm_header welcome.holds.iv (spelling (claims_item claims))
  is_token =
      subst (λ (t : List ℕ). IsToken is_sealing before.key t algorithm_header welcome.holds.iv (spelling (claims_item claims))) (sym welcome.holds.token)
      (tokens before.key welcome.holds.iv (spelling (claims_item claims)) welcome.holds.ciphertext welcome.holds.iv_size welcome.holds.short welcome.holds.sealed)

  -- what the post has is the token, which opens under the desk's key
  token_is : (key nonce1 client_id : List ℕ) (token : OpenedToken) (its : IsOpened is_sealing key body nonce1 client_id token) → holder.token ≡ its.token
  token_is key nonce1 client_id token its = sym (one body its.token nonce1 client_id holder.token posted (id ∷ []) its.is_post is_post).0

  own_key : (key nonce1 client_id : List ℕ) (token : OpenedToken) (its : IsOpened is_sealing key body nonce1 client_id token) → IsKeyFor is_sealing before its.token key → key ≡ before.key
  own_key key nonce1 client_id token its (inl own) = own
  own_key key nonce1 client_id token its (inr old) =
      absurd (old.1 (
        record { protected = algorithm_header; iv = welcome.holds.iv; text = spelling (claims_item claims) },
        subst (λ (t : List ℕ). IsToken is_sealing before.key t algorithm_header welcome.holds.iv (spelling (claims_item claims))) (token_is key nonce1 client_id token its) is_token,
      ))

  comes_to : (key nonce1 client_id : List ℕ) (token : OpenedToken) (outcome : Result (Claims × Scope) TokenError)
      → (its : IsOpened is_sealing key body nonce1 client_id token) → IsKeyFor is_sealing before its.token key → ComesTo token.text before.audience on.at outcome → outcome ≡ granted claims (scope_of entries)
  comes_to key nonce1 client_id token outcome its its_key comes =
      let is : its.token ≡ spelling (object_item (token_object welcome.holds.iv welcome.holds.ciphertext)) =
      sym (token_is key nonce1 client_id token its) ∙ welcome.holds.token in
      minted before.key welcome.holds.iv welcome.holds.ciphertext token.protected token.iv token.text claims entries on.at outcome
      welcome.holds.iv_size welcome.holds.short welcome.holds.sealed welcome.lawful welcome.holds.is_scope welcome.begun welcome.not_over
      (subst (λ (t : List ℕ). IsToken is_sealing before.key t token.protected token.iv token.text) is
      (subst (λ (k : List ℕ). IsToken is_sealing k its.token token.protected token.iv token.text) (own_key key nonce1 client_id token its its_key) its.is_token))
      (subst (λ (a : List ℕ). ComesTo token.text a on.at outcome) (sym welcome.audience) comes)

  is_agreed : Posts is_sealing before (record { on = on; body = body; draw = draw }) post after → (answer : PostAnswer) × (post.answer ≡ Ok (New answer)) × (answer.nonce2 ≡ nonce_drawn draw)
  is_agreed (Posts.no_post none is same) = absurd (none holder.token posted (id ∷ []) is_post)
  is_agreed (Posts.not_genuine token nonce1 client_id its none is same) =
      let is : holder.token ≡ token = (one body holder.token posted (id ∷ []) token nonce1 client_id is_post its).0 in
      absurd (none before.key (inl refl) (
        record { protected = algorithm_header; iv = welcome.holds.iv; text = spelling (claims_item claims) },
        subst (λ (t : List ℕ). IsToken is_sealing before.key t algorithm_header welcome.holds.iv (spelling (claims_item claims))) is is_token,
      ))
  is_agreed (Posts.opened key nonce1 client_id token answer its its_key answers is) = by answers
    where
      isnt_known : (others : Claims) (scope : Scope) (made : PostAnswer) → IsGranted before (offered (record { on = on; body = body; draw = draw }) nonce1 client_id) token.text others scope
          → known others.material.id nonce1 client_id before.table ≡ Some made → ⊥
      isnt_known others scope made found k =
          let same_as : others ≡ claims = same_claims others claims scope (scope_of entries) (comes_to key nonce1 client_id token (granted others scope) its its_key found.comes) in
          let same_post = one body its.token nonce1 client_id holder.token posted (id ∷ []) its.is_post is_post in
          let never : Some made ≡ None = sym k ∙ (λ i. known (same_as i).material.id (same_post.1 i) (same_post.2 i) before.table) ∙ unknown in cc

      by : Answers before (offered (record { on = on; body = body; draw = draw }) nonce1 client_id) token.text answer after → (answer : PostAnswer) × (post.answer ≡ Ok (New answer)) × (answer.nonce2 ≡ nonce_drawn draw)
      by (refused error comes is_err same) =
          absurd (never error claims (scope_of entries) (comes_to key nonce1 client_id token (refusal error) its its_key comes))
      by (disallowed others scope comes below is_err same) =
          let same_as : scope ≡ scope_of entries = same_scope others claims scope (scope_of entries) (comes_to key nonce1 client_id token (granted others scope) its its_key comes) in
          let never : true ≡ false = sym welcome.allowed ∙ ap (is_allowed before.rules) (sym same_as) ∙ below in cc
      by (revoked others scope comes allowed gone is_err same) =
          let same_as : others ≡ claims = same_claims others claims scope (scope_of entries) (comes_to key nonce1 client_id token (granted others scope) its its_key comes) in
          let never : true ≡ false = sym gone ∙ ap (λ (k : Claims). is_revoked before.rules.revoked on.tree k.material.id) same_as ∙ welcome.unrevoked in cc
      by (full others scope found is_full is_err same) =
          let same_as : others ≡ claims = same_claims others claims scope (scope_of entries) (comes_to key nonce1 client_id token (granted others scope) its its_key found.comes) in
          absurd (welcome.room (subst (λ (k : Claims). IsFull before.rules.reserved k.material.id (alive on before.table)) same_as is_full))
      by (again others scope made found k held is_ok same) = absurd (isnt_known others scope made found.granted k)
      by (replayed others scope made found k gone is_err same) = absurd (isnt_known others scope made found.granted k)
      by (agreed others scope made found k agrees answer_is) =
          (made, ap (λ (p : Post). p.answer) is ∙ answer_is, agrees.drawn)

pub returns : goal.returns
returns g c = λ before after on draw post claims entries holder posted id welcome size unknown posts.
    is_agreed g.A.Aead.is_sealing c.what_is_written.ensures.post c.one_payload.ensures.post c.minted_tokens.ensures c.what_was_minted.ensures
    before after on draw post claims entries holder posted id welcome size unknown posts
