-- The marks after a post.
use Rattle.std.proofs.Common.{◌≡◌, ◌⊎◌, ℕ, Bool, true, false, List, [], ◌∷◌, Option, Some, None, Result, Ok, Err, IfOk, OnErr, refl, sym, ap, subst, ◌∙◌, inl, inr, ⊎_elim, bytes_eq}
use Rattle.std.proofs.lemmas.Slice.Eq.{bytes_eq-Decides}
use Rattle.std.specs.declared.alloc.AllocError.{AllocError}
use Rattle.osc_model.specs.{stands}
use Rattle.osc_authz.specs.Standing.{Standing}
use Rattle.osc_authz.specs.SecurityContext.{SecurityContext}
use Rattle.osc_authz.specs.Inner.Revoking.{SetsMark, UnmarksNew, UnmarksPosted}
use Rattle.osc_authz.specs.Posting.{Offer, Posting, offered}
use Rattle.osc_authz.specs.{Answers, AreMarked, DeskState, HasAdded, In, IsMarked, IsTable, OfToken, Posts, again, agreed, agreed_post, alive, contexts, disallowed, full, mark_of, new_context, of_tokens, pending_of, refused, remembering, replayed, revoked, with_pending}
use Rattle.osc_authz.specs.declared.agreed_post.AgreedPost.{AgreedPost}
use Rattle.osc_authz.specs.declared.error.PostError.{PostError}
use Rattle.osc_authz.specs.declared.post.Post.{Post}
use Rattle.osc_authz.specs.declared.post.PostReply.{PostReply}
use Rattle.osc_authz.specs.declared.token_entry.TokenEntry.{TokenEntry}
use Rattle.osc_authz.proofs.ContextLaws.{held_of, is_held, one_held, table_added}
use Rattle.osc_authz.proofs.LifeLemmas.{other_stays, this_is_set}

-- with one more context, whose token isn't revoked
added_marked : (on : Standing) (token : List ℕ) (held : SecurityContext) (remember : List AgreedPost → List AgreedPost) (table : List TokenEntry) (byte : ℕ) (old new : List Bool)
    → IsTable (with_pending token held remember (alive on table)) → held.name.client_id ≡ byte ∷ [] → stands on.tree held.revocation ≡ false
    → AreMarked on.tree table old → SetsMark (byte ∷ []) false old new → AreMarked on.tree (with_pending token held remember (alive on table)) new
added_marked on token held remember table byte old new is_table id live marked sets c m = by (bytes_eq c.name.client_id held.name.client_id) refl
  where
    after : List TokenEntry
    after = with_pending token held remember (alive on table)

    has : HasAdded on token held (of_tokens table) (of_tokens after)
    has = table_added token held remember on table is_table

    here : In held (contexts after)
    here = is_held after (pending_of token held) has.here

    by : (same : Bool) → bytes_eq c.name.client_id held.name.client_id ≡ same → IsMarked on.tree new c
    by true same =
        let one : c ≡ held = one_held after c held is_table m here ((bytes_eq-Decides c.name.client_id held.name.client_id).0 same) in
        subst (IsMarked on.tree new) (sym one) (ap (mark_of new) id ∙ this_is_set byte false old new sets ∙ sym live)
    by false apart =
        let o : (o : OfToken) × In o (of_tokens after) × (c ≡ o.held) = held_of after c m in
        other_stays (byte ∷ []) c.name.client_id false old new sets (ap (bytes_eq c.name.client_id) (sym id) ∙ apart)
        ∙ ⊎_elim
        (λ (e : o.0 ≡ pending_of token held).
        let one : c ≡ held = o.2 ∙ ap (λ (x : OfToken). x.held) e in
        let equal : bytes_eq c.name.client_id held.name.client_id ≡ true = (bytes_eq-Decides c.name.client_id held.name.client_id).1 (ap (λ (x : SecurityContext). x.name.client_id) one) in
        absurd (cc (apart, equal)))
        (λ (i : In o.0 (of_tokens table)). marked c (subst (λ (x : SecurityContext). In x (contexts table)) (sym o.2) (is_held table o.0 i)))
        (has.only o.0 o.1)

module _ (old new : List Bool) where
  -- nothing is changed
  same_marks : (before after : DeskState) (on : Standing) → AreMarked on.tree before.table old → after ≡ before → new ≡ old → AreMarked on.tree after.table new
  same_marks before after on marked same none = coe 1 0 (i. AreMarked on.tree (same i).table (none i)) marked

  by_answer : (a b : Result PostReply PostError) → a ≡ b → UnmarksNew a old new → UnmarksNew b old new
  by_answer a b e u = subst (λ (r : Result PostReply PostError). UnmarksNew r old new) e u

  answers_marked : (before after : DeskState) (offer : Offer) (text : List ℕ) (answer : Result PostReply PostError) → Answers before offer text answer after → IsTable after.table
      → AreMarked offer.on.tree before.table old → UnmarksNew answer old new → AreMarked offer.on.tree after.table new
  answers_marked before after offer text answer (refused error comes is same) is_table marked u = same_marks before after offer.on marked same (by_answer answer _ is u)
  answers_marked before after offer text answer (disallowed claims scope comes below is same) is_table marked u = same_marks before after offer.on marked same (by_answer answer _ is u)
  answers_marked before after offer text answer (revoked claims scope comes allowed gone is same) is_table marked u = same_marks before after offer.on marked same (by_answer answer _ is u)
  answers_marked before after offer text answer (full claims scope its many is same) is_table marked u = same_marks before after offer.on marked same (by_answer answer _ is u)
  answers_marked before after offer text answer (again claims scope made its k held is same) is_table marked u = same_marks before after offer.on marked same (by_answer answer _ is u)
  answers_marked before after offer text answer (replayed claims scope made its k gone is same) is_table marked u = same_marks before after offer.on marked same (by_answer answer _ is u)
  answers_marked before after offer text answer (agreed claims scope made its k agrees is) is_table marked u =
      let table_is = ap (λ (d : DeskState). d.table) agrees.added in
      let post : AgreedPost = agreed_post offer made in
      subst (λ (t : List TokenEntry). AreMarked offer.on.tree t new) (sym table_is)
      (added_marked offer.on claims.material.id (new_context before.rules offer.on.at claims scope post) (remembering before.rules.remembered post) before.table made.recipient_id old new
      (subst IsTable table_is is_table) refl its.granted.unrevoked marked (by_answer answer _ is u))

  posts_marked : (IsSealing : List ℕ → List ℕ → List ℕ → List ℕ → List ℕ → Type 0) (before after : DeskState) (posting : Posting) (post : Post) → Posts IsSealing before posting post after → IsTable after.table
      → AreMarked posting.on.tree before.table old → UnmarksNew post.answer old new → AreMarked posting.on.tree after.table new
  posts_marked IsSealing before after posting post (Posts.no_post none is same) is_table marked u =
      same_marks before after posting.on marked same (by_answer post.answer _ (ap (λ (p : Post). p.answer) is) u)
  posts_marked IsSealing before after posting post (Posts.not_genuine token nonce1 client_id p none is same) is_table marked u =
      same_marks before after posting.on marked same (by_answer post.answer _ (ap (λ (p : Post). p.answer) is) u)
  posts_marked IsSealing before after posting post (Posts.opened key nonce1 client_id its answer o its_key answers is) is_table marked u =
      answers_marked before after (offered posting nonce1 client_id) its.text answer answers is_table marked (by_answer post.answer answer (ap (λ (p : Post). p.answer) is) u)

  pub posted_marked : (IsSealing : List ℕ → List ℕ → List ℕ → List ℕ → List ℕ → Type 0) (before after : DeskState) (posting : Posting) (posted : Result Post AllocError)
      → IfOk posted (λ post. Posts IsSealing before posting post after) → OnErr posted (after ≡ before) → IsTable after.table
      → AreMarked posting.on.tree before.table old → UnmarksPosted posted old new → AreMarked posting.on.tree after.table new
  posted_marked IsSealing before after posting (Ok post) posts err is_table marked u = posts_marked IsSealing before after posting post posts is_table marked u
  posted_marked IsSealing before after posting (Err e) posts err is_table marked u = same_marks before after posting.on marked err u
