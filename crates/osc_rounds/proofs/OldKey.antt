-- A post whose token a desk opens with one of its keys is answered as by a desk that has that key alone as its key.
use Rattle.std.proofs.Common.{◌≡◌, ◌∙◌, refl, sym, ap, inl, inr, subst, ℕ, List, Option, Some, Result}
use Rattle.osc_model.specs.Scope.{Scope}
use Rattle.osc_token.specs.{token_note}
use Rattle.osc_token.specs.declared.claims.Claims.{Claims}
use Rattle.osc_authz.specs.{Answers, IsGranted, HasRoom, refused, disallowed, revoked, full, again, replayed, agreed, holder_of, DeskState, IsPost, IsKeyFor, IsKeyOf, Opens, Posts}
use Rattle.osc_authz.specs.Posting.{Posting, Offer}
use Rattle.osc_authz.specs.declared.error.PostError.{PostError}
use Rattle.osc_authz.specs.declared.post.Post.{Post}
use Rattle.osc_authz.specs.declared.post.PostReply.{PostReply}
use Rattle.osc_rounds.specs.{with_key}

one_of_some : (a b : List ℕ) → Some a ≡ Some b → a ≡ b
one_of_some a b e = cc

module _ (key : List ℕ) (before : DeskState) (offer : Offer) (text : List ℕ) where
  granted_under : (claims : Claims) (scope : Scope) → IsGranted before offer text claims scope → IsGranted (with_key key before) offer text claims scope
  granted_under claims scope is = record { comes = is.comes; allowed = is.allowed; unrevoked = is.unrevoked }

  room_under : (claims : Claims) (scope : Scope) → HasRoom before offer text claims scope → HasRoom (with_key key before) offer text claims scope
  room_under claims scope has = record { granted = granted_under claims scope has.granted; room = has.room }

  -- what an opened token leads to doesn't depend on the key
  answers_under : (answer : Result PostReply PostError) (after : DeskState) → Answers before offer text answer after → Answers (with_key key before) offer text answer (with_key key after)
  answers_under answer after (refused error comes is same) = refused error comes is (ap (with_key key) same)
  answers_under answer after (disallowed claims scope comes below is same) = disallowed claims scope comes below is (ap (with_key key) same)
  answers_under answer after (revoked claims scope comes taken gone is same) = revoked claims scope comes taken gone is (ap (with_key key) same)
  answers_under answer after (full claims scope granted many is same) = full claims scope (granted_under claims scope granted) many is (ap (with_key key) same)
  answers_under answer after (again claims scope made room found held is same) = again claims scope made (room_under claims scope room) found held is (ap (with_key key) same)
  answers_under answer after (replayed claims scope made room found gone is same) = replayed claims scope made (room_under claims scope room) found gone is (ap (with_key key) same)
  answers_under answer after (agreed claims scope made room unknown agrees is) =
      agreed claims scope made (room_under claims scope room) unknown (record { free = agrees.free; drawn = agrees.drawn; added = ap (with_key key) agrees.added }) is

  same_holder : (answer : Result PostReply PostError) (after : DeskState) (its : Answers before offer text answer after) → holder_of its ≡ holder_of (answers_under answer after its)
  unfolding answers_under
  same_holder answer after (refused error comes is same) = refl
  same_holder answer after (disallowed claims scope comes below is same) = refl
  same_holder answer after (revoked claims scope comes taken gone is same) = refl
  same_holder answer after (full claims scope granted many is same) = refl
  same_holder answer after (again claims scope made room found held is same) = refl
  same_holder answer after (replayed claims scope made room found gone is same) = refl
  same_holder answer after (agreed claims scope made room unknown agrees is) = refl

module _ (is_sealing : List ℕ → List ℕ → List ℕ → List ℕ → List ℕ → Type 0) (key : List ℕ) (before : DeskState) where
  -- no other key opens it
  key_under : (token other : List ℕ) → IsKeyFor is_sealing before token key → IsKeyFor is_sealing before token other → Opens is_sealing other token → IsKeyFor is_sealing (with_key key before) token other
  key_under token other (inl own) (inl mine) opens = inl (mine ∙ sym own)
  key_under token other (inl own) (inr old) opens = inr (old.0, subst (λ (k : List ℕ). ¬ Opens is_sealing k token) (sym own) old.1)
  key_under token other (inr old) (inl mine) opens = absurd (old.1 (subst (λ (k : List ℕ). Opens is_sealing k token) mine opens))
  key_under token other (inr old) (inr mine) opens = inl (one_of_some other key (sym mine.0 ∙ old.0))

  key_of : (token other : List ℕ) → IsKeyFor is_sealing before token key → IsKeyOf (with_key key before) other → IsKeyOf before other
  key_of token other (inl own) (inl mine) = inl (mine ∙ own)
  key_of token other (inr old) (inl mine) = inr (old.0 ∙ ap Some (sym mine))
  key_of token other is (inr old) = inr old

  pub posts_under : (after : DeskState) (posting : Posting) (post : Post) (token : List ℕ) → IsKeyFor is_sealing before token key
      → ((other nonce1 client_id : List ℕ) → IsPost posting.body other nonce1 client_id → token ≡ other)
      → Posts is_sealing before posting post after → Posts is_sealing (with_key key before) posting post (with_key key after)
  posts_under after posting post token is_key only (Posts.no_post none is same) = Posts.no_post none is (ap (with_key key) same)
  posts_under after posting post token is_key only (Posts.not_genuine its nonce1 client_id is_post none is same) =
      Posts.not_genuine its nonce1 client_id is_post (λ other of. none other (key_of token other is_key of)) is (ap (with_key key) same)
  posts_under after posting post token is_key only (Posts.opened other nonce1 client_id its answer post_is key_is answers is) =
      let offer = offering in
      let mine = subst (λ (t : List ℕ). IsKeyFor is_sealing before t key) (only post_is.token nonce1 client_id post_is.is_post) is_key in
      Posts.opened other nonce1 client_id its answer post_is
      (key_under post_is.token other mine key_is (its, post_is.is_token))
      (answers_under key before offer its.text answer after answers)
      (is ∙ ap (λ (holder : Option (List ℕ)). let p : Post = record { opened = Some (token_note other its.protected its.iv its.text); answer = answer; holder = holder } in p) (same_holder key before offer its.text answer after answers))
    where
      offering : Offer
      offering = record { on = posting.on; draw = posting.draw; nonce1 = nonce1; client_id = client_id }
