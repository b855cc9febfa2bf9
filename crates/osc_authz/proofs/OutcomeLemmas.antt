-- A post has one outcome.
use Rattle.std.proofs.Common.{◌≡◌, ◌⊎◌, ℕ, Bool, true, false, List, Option, Some, None, Result, Ok, Err, refl, sym, ap, ap₂, subst, ◌∙◌, arith, inl, inr}
use Rattle.std.proofs.lemmas.Bool.{cases_lt}
use Rattle.osc_model.specs.{is_revoked}
use Rattle.osc_model.specs.Scope.{Scope}
use Rattle.osc_model.specs.declared.node.Moment.{Moment}
use Rattle.osc_model.specs.declared.step.Note.{Note}
use Rattle.osc_token.specs.{ComesTo, IsToken, token_note}
use Rattle.osc_token.specs.declared.claims.Claims.{Claims}
use Rattle.osc_token.specs.declared.error.TokenError.{TokenError}
use Rattle.osc_authz.specs.{new_context, Agrees, Answers, MadeIsHeld, agreed_post, known_of, remembering, is_allowed, refused, disallowed, revoked, full, again, replayed, agreed, DeskState, IsPost, IsKeyFor, IsKeyOf, Opens, Posts, Offer, holder_of, offered, IsFull, IsLeastFree, alive, with_pending}
use Rattle.osc_authz.specs.Posting.{Posting}
use Rattle.osc_authz.specs.declared.error.PostError.{PostError}
use Rattle.osc_authz.specs.declared.error.PostError.TheVariants as post_error
use Rattle.osc_authz.specs.declared.post.Post.{Post}
use Rattle.osc_authz.specs.declared.post.PostAnswer.{PostAnswer}
use Rattle.osc_authz.specs.declared.post.PostReply.{PostReply}
use Rattle.osc_authz.specs.declared.post.PostReply.TheVariants as reply

-- ---- what is answered, once the text is known

abbrev pub IsOneResult : Type 0
IsOneResult = (text audience : List ℕ) (now : Moment) (one other : Result (Claims × Scope) TokenError)
    → ComesTo text audience now one → ComesTo text audience now other → one ≡ other

least_once : (taken : List (List ℕ)) (a b : ℕ) → IsLeastFree taken a → IsLeastFree taken b → a ≡ b
least_once taken a b p q =
    elim (cases_lt a b) [
      | inl below ↦ absurd (p.free (q.least a below))
      | inr above ↦ elim (cases_lt b a) [
        | inl below ↦ absurd (q.free (p.least b below))
        | inr under ↦ omega arith
      ]
    ]

made_of : List ℕ → ℕ → PostAnswer
made_of nonce2 byte = record { nonce2 = nonce2; recipient_id = byte }

-- whose token it is, by what its text gives
abbrev holder_by : Result (Claims × Scope) TokenError → Result PostReply PostError → Option (List ℕ)
holder_by (Err error) answer = None
holder_by (Ok granted) (Err error) = None
holder_by (Ok granted) (Ok (reply.Known made)) = None
holder_by (Ok granted) (Ok (reply.New made)) = Some granted.0.material.id

module _ (before : DeskState) (offer : Offer) where
  agrees_once : (claims : Claims) (scope : Scope) (one other : PostAnswer) (after afters : DeskState)
      → Agrees before offer claims scope one after → Agrees before offer claims scope other afters
      → (one ≡ other) × (after ≡ afters)
  unfolding made_of
  agrees_once claims scope one other after afters p q =
      let id = least_once _ one.recipient_id other.recipient_id p.free q.free in
      let nonce : one.nonce2 ≡ other.nonce2 = p.drawn ∙ sym q.drawn in
      let same : one ≡ other = ap₂ made_of nonce id in (
        same,
        p.added
            ∙ ap (λ m. let d : DeskState = record before { table = with_pending claims.material.id (new_context before.rules offer.on.at claims scope (agreed_post offer m)) (remembering before.rules.remembered (agreed_post offer m)) (alive offer.on before.table) } in d) same
            ∙ sym q.added,
      )

  -- ---- what is answered to claims

  -- the cases of a post whose text gives these claims
  data AnswersTo (claims : Claims) (scope : Scope) (answer : Result PostReply PostError) (after : DeskState) : Type 0 where
    to_revoked : is_revoked before.rules.revoked offer.on.tree claims.material.id ≡ true → answer ≡ Err post_error.Revoked → after ≡ before → AnswersTo claims scope answer after
    to_full : is_revoked before.rules.revoked offer.on.tree claims.material.id ≡ false → IsFull before.rules.reserved claims.material.id (alive offer.on before.table)
        → answer ≡ Err post_error.Full → after ≡ before → AnswersTo claims scope answer after
    to_known : (made : PostAnswer) → is_revoked before.rules.revoked offer.on.tree claims.material.id ≡ false → ¬ IsFull before.rules.reserved claims.material.id (alive offer.on before.table)
        → known_of before offer claims ≡ Some made → MadeIsHeld before offer claims made
        → answer ≡ Ok (reply.Known made) → after ≡ before → AnswersTo claims scope answer after
    to_replayed : (made : PostAnswer) → is_revoked before.rules.revoked offer.on.tree claims.material.id ≡ false → ¬ IsFull before.rules.reserved claims.material.id (alive offer.on before.table)
        → known_of before offer claims ≡ Some made → ¬ MadeIsHeld before offer claims made
        → answer ≡ Err post_error.Replayed → after ≡ before → AnswersTo claims scope answer after
    to_agreed : (made : PostAnswer) → is_revoked before.rules.revoked offer.on.tree claims.material.id ≡ false → ¬ IsFull before.rules.reserved claims.material.id (alive offer.on before.table)
        → known_of before offer claims ≡ None → Agrees before offer claims scope made after
        → answer ≡ Ok (reply.New made) → AnswersTo claims scope answer after

  -- the outcome of a post, by what its text gives
  abbrev AnswersBy : Result (Claims × Scope) TokenError → Result PostReply PostError → DeskState → Type 0
  AnswersBy (Err error) answer after = (answer ≡ Err (post_error.Token error)) × (after ≡ before)
  AnswersBy (Ok granted) answer after =
      ((is_allowed before.rules granted.1 ≡ false) × (answer ≡ Err (post_error.Token TokenError.BadScope)) × (after ≡ before))
      ⊎ ((is_allowed before.rules granted.1 ≡ true) × AnswersTo granted.0 granted.1 answer after)

  by_its_text : (text : List ℕ) (answer : Result PostReply PostError) (after : DeskState) → Answers before offer text answer after
      → (result : Result (Claims × Scope) TokenError) × ComesTo text before.audience offer.on.at result × AnswersBy result answer after
  by_its_text text answer after (refused e comes is same) = (Err e, comes, (is, same))
  by_its_text text answer after (disallowed claims scope comes below is same) = (Ok (claims, scope), comes, inl (below, is, same))
  by_its_text text answer after (revoked claims scope comes allowed gone is same) = (Ok (claims, scope), comes, inr (allowed, to_revoked gone is same))
  by_its_text text answer after (full claims scope its many is same) = (Ok (claims, scope), its.comes, inr (its.allowed, to_full its.unrevoked many is same))
  by_its_text text answer after (again claims scope made its k held is same) = (Ok (claims, scope), its.granted.comes, inr (its.granted.allowed, to_known made its.granted.unrevoked its.room k held is same))
  by_its_text text answer after (replayed claims scope made its k gone is same) = (Ok (claims, scope), its.granted.comes, inr (its.granted.allowed, to_replayed made its.granted.unrevoked its.room k gone is same))
  by_its_text text answer after (agreed claims scope made its k agrees is) = (Ok (claims, scope), its.granted.comes, inr (its.granted.allowed, to_agreed made its.granted.unrevoked its.room k agrees is))

  holder_is : (text : List ℕ) (answer : Result PostReply PostError) (after : DeskState) (answers : Answers before offer text answer after)
      → holder_of answers ≡ holder_by (by_its_text text answer after answers).0 answer
  unfolding by_its_text
  holder_is text answer after (refused e comes is same) = refl
  holder_is text answer after (disallowed claims scope comes below is same) = sym (ap (holder_by (Ok (claims, scope))) is)
  holder_is text answer after (revoked claims scope comes allowed gone is same) = sym (ap (holder_by (Ok (claims, scope))) is)
  holder_is text answer after (full claims scope its many is same) = sym (ap (holder_by (Ok (claims, scope))) is)
  holder_is text answer after (again claims scope made its k held is same) = sym (ap (holder_by (Ok (claims, scope))) is)
  holder_is text answer after (replayed claims scope made its k gone is same) = sym (ap (holder_by (Ok (claims, scope))) is)
  holder_is text answer after (agreed claims scope made its k agrees is) = sym (ap (holder_by (Ok (claims, scope))) is)

  never_both : (b : Bool) → b ≡ true → b ≡ false → ⊥
  never_both b t f = let never : true ≡ false = sym t ∙ f in cc

  one_made : (o : Option PostAnswer) (a b : PostAnswer) → o ≡ Some a → o ≡ Some b → a ≡ b
  one_made o a b p q = let same : Some a ≡ Some b = sym p ∙ q in by_some a b same
    where
      by_some : (a b : PostAnswer) → Some a ≡ Some b → a ≡ b
      by_some a b e = cc

  never_known : (o : Option PostAnswer) (a : PostAnswer) → o ≡ Some a → o ≡ None → ⊥
  never_known o a p q = let never : Some a ≡ None = sym p ∙ q in cc

  to_once : (claims : Claims) (scope : Scope) (one other : Result PostReply PostError) (after afters : DeskState)
      → AnswersTo claims scope one after → AnswersTo claims scope other afters → (one ≡ other) × (after ≡ afters)
  to_once claims scope one other after afters (to_revoked g is same) (to_revoked g2 is2 same2) = (is ∙ sym is2, same ∙ sym same2)
  to_once claims scope one other after afters (to_revoked g is same) (to_full un many is2 same2) = absurd (never_both _ g un)
  to_once claims scope one other after afters (to_revoked g is same) (to_known m un room k held is2 same2) = absurd (never_both _ g un)
  to_once claims scope one other after afters (to_revoked g is same) (to_replayed m un room k gone is2 same2) = absurd (never_both _ g un)
  to_once claims scope one other after afters (to_revoked g is same) (to_agreed m un room k agrees is2) = absurd (never_both _ g un)
  to_once claims scope one other after afters (to_full un many is same) (to_revoked g is2 same2) = absurd (never_both _ g un)
  to_once claims scope one other after afters (to_full un many is same) (to_full un2 many2 is2 same2) = (is ∙ sym is2, same ∙ sym same2)
  to_once claims scope one other after afters (to_full un many is same) (to_known m un2 room k held is2 same2) = absurd (room many)
  to_once claims scope one other after afters (to_full un many is same) (to_replayed m un2 room k gone is2 same2) = absurd (room many)
  to_once claims scope one other after afters (to_full un many is same) (to_agreed m un2 room k agrees is2) = absurd (room many)
  to_once claims scope one other after afters (to_known m un room k held is same) (to_revoked g is2 same2) = absurd (never_both _ g un)
  to_once claims scope one other after afters (to_known m un room k held is same) (to_full un2 many is2 same2) = absurd (room many)
  to_once claims scope one other after afters (to_known m un room k held is same) (to_known m2 un2 room2 k2 held2 is2 same2) =
      (is ∙ ap (λ (x : PostAnswer). Ok (reply.Known x)) (one_made _ m m2 k k2) ∙ sym is2, same ∙ sym same2)
  to_once claims scope one other after afters (to_known m un room k held is same) (to_replayed m2 un2 room2 k2 gone is2 same2) =
      absurd (gone (subst (MadeIsHeld before offer claims) (one_made _ m m2 k k2) held))
  to_once claims scope one other after afters (to_known m un room k held is same) (to_agreed m2 un2 room2 k2 agrees is2) = absurd (never_known _ m k k2)
  to_once claims scope one other after afters (to_replayed m un room k gone is same) (to_revoked g is2 same2) = absurd (never_both _ g un)
  to_once claims scope one other after afters (to_replayed m un room k gone is same) (to_full un2 many is2 same2) = absurd (room many)
  to_once claims scope one other after afters (to_replayed m un room k gone is same) (to_known m2 un2 room2 k2 held is2 same2) =
      absurd (gone (subst (MadeIsHeld before offer claims) (one_made _ m2 m k2 k) held))
  to_once claims scope one other after afters (to_replayed m un room k gone is same) (to_replayed m2 un2 room2 k2 gone2 is2 same2) = (is ∙ sym is2, same ∙ sym same2)
  to_once claims scope one other after afters (to_replayed m un room k gone is same) (to_agreed m2 un2 room2 k2 agrees is2) = absurd (never_known _ m k k2)
  to_once claims scope one other after afters (to_agreed m un room k agrees is) (to_revoked g is2 same2) = absurd (never_both _ g un)
  to_once claims scope one other after afters (to_agreed m un room k agrees is) (to_full un2 many is2 same2) = absurd (room many)
  to_once claims scope one other after afters (to_agreed m un room k agrees is) (to_known m2 un2 room2 k2 held is2 same2) = absurd (never_known _ m2 k2 k)
  to_once claims scope one other after afters (to_agreed m un room k agrees is) (to_replayed m2 un2 room2 k2 gone is2 same2) = absurd (never_known _ m2 k2 k)
  to_once claims scope one other after afters (to_agreed m un room k agrees is) (to_agreed m2 un2 room2 k2 agrees2 is2) =
      let once = agrees_once claims scope m m2 after afters agrees agrees2 in
      (is ∙ ap (λ (x : PostAnswer). Ok (reply.New x)) once.0 ∙ sym is2, once.1)

  by_once : (result : Result (Claims × Scope) TokenError) (one other : Result PostReply PostError) (after afters : DeskState)
      → AnswersBy result one after → AnswersBy result other afters → (one ≡ other) × (after ≡ afters)
  by_once (Err e) one other after afters p q = (p.0 ∙ sym q.0, p.1 ∙ sym q.1)
  by_once (Ok granted) one other after afters (inl p) (inl q) = (p.1 ∙ sym q.1, p.2 ∙ sym q.2)
  by_once (Ok granted) one other after afters (inl p) (inr q) = absurd (never_both _ q.0 p.0)
  by_once (Ok granted) one other after afters (inr p) (inl q) = absurd (never_both _ p.0 q.0)
  by_once (Ok granted) one other after afters (inr p) (inr q) = to_once granted.0 granted.1 one other after afters p.1 q.1

  pub answers_once : IsOneResult → (text : List ℕ) (one other : Result PostReply PostError) (after afters : DeskState)
      → Answers before offer text one after → Answers before offer text other afters
      → (one ≡ other) × (after ≡ afters)
  answers_once law text one other after afters p q =
      let a = by_its_text text one after p in
      let b = by_its_text text other afters q in
      by_once b.0 one other after afters (subst (λ r. AnswersBy r one after) (law text before.audience offer.on.at a.0 b.0 a.1 b.1) a.2) b.2

  -- a post that is known changes nothing
  pub known_changes_nothing : IsOneResult → (text : List ℕ) (answer : Result PostReply PostError) (after : DeskState) (claims : Claims) (scope : Scope) (made : PostAnswer)
      → Answers before offer text answer after → ComesTo text before.audience offer.on.at (Ok (claims, scope)) → known_of before offer claims ≡ Some made → after ≡ before
  known_changes_nothing law text answer after claims scope made p comes k =
      let a = by_its_text text answer after p in
      either (subst (λ r. AnswersBy r answer after) (law text before.audience offer.on.at a.0 (Ok (claims, scope)) a.1 comes) a.2)
    where
      by : AnswersTo claims scope answer after → after ≡ before
      by (to_revoked g is same) = same
      by (to_full un many is same) = same
      by (to_known m un room k2 held is same) = same
      by (to_replayed m un room k2 gone is same) = same
      by (to_agreed m un room k2 agrees is) = absurd (never_known _ made k k2)

      either : AnswersBy (Ok (claims, scope)) answer after → after ≡ before
      either (inl below) = below.2
      either (inr allowed) = by allowed.1

-- ---- the outcome of a post

one_some : (a b : List ℕ) → Some a ≡ Some b → a ≡ b
one_some a b e = cc

abbrev pub IsOnePost : Type 0
IsOnePost = (body token nonce1 client_id others nonces ids : List ℕ) → IsPost body token nonce1 client_id → IsPost body others nonces ids
    → (token ≡ others) × (nonce1 ≡ nonces) × (client_id ≡ ids)

abbrev pub IsOneToken : (List ℕ → List ℕ → List ℕ → List ℕ → List ℕ → Type 0) → Type 0
IsOneToken IsSealing = (key bytes protected iv text others ivs other : List ℕ)
    → IsToken IsSealing key bytes protected iv text → IsToken IsSealing key bytes others ivs other
    → (protected ≡ others) × (iv ≡ ivs) × (text ≡ other)

module _ (IsSealing : List ℕ → List ℕ → List ℕ → List ℕ → List ℕ → Type 0) (before : DeskState) (posting : Posting) where
  abbrev post_of : Note → Result PostReply PostError → Option (List ℕ) → Post
  post_of note answer holder = record { opened = Some note; answer = answer; holder = holder }

  key_of : (token key : List ℕ) → IsKeyFor IsSealing before token key → IsKeyOf before key
  key_of token key (inl own) = inl own
  key_of token key (inr old) = inr old.0

  -- a token is opened with one key
  one_key : (token key other : List ℕ) → Opens IsSealing key token → Opens IsSealing other token → IsKeyFor IsSealing before token key → IsKeyFor IsSealing before token other → key ≡ other
  one_key token key other opens opens2 (inl own) (inl own2) = own ∙ sym own2
  one_key token key other opens opens2 (inl own) (inr old) = absurd (old.1 (subst (λ (k : List ℕ). Opens IsSealing k token) own opens))
  one_key token key other opens opens2 (inr old) (inl own) = absurd (old.1 (subst (λ (k : List ℕ). Opens IsSealing k token) own opens2))
  one_key token key other opens opens2 (inr old) (inr old2) = one_some key other (sym old.0 ∙ old2.0)

  module _ (one_post : IsOnePost) (one_token : IsOneToken IsSealing) (one_result : IsOneResult) where
    pub posts_once : (post posts : Post) (after afters : DeskState) → Posts IsSealing before posting post after → Posts IsSealing before posting posts afters → (post ≡ posts) × (after ≡ afters)
    posts_once post posts after afters (Posts.no_post none is same) (Posts.no_post none2 is2 same2) = (is ∙ sym is2, same ∙ sym same2)
    posts_once post posts after afters (Posts.no_post none is same) (Posts.not_genuine token nonce1 client_id p none2 is2 same2) = absurd (none token nonce1 client_id p)
    posts_once post posts after afters (Posts.no_post none is same) (Posts.opened key nonce1 client_id its answer o its_key answers is2) = absurd (none o.token nonce1 client_id o.is_post)
    posts_once post posts after afters (Posts.not_genuine token nonce1 client_id p none is same) (Posts.no_post none2 is2 same2) = absurd (none2 token nonce1 client_id p)
    posts_once post posts after afters (Posts.not_genuine token nonce1 client_id p none is same) (Posts.not_genuine token2 nonces ids p2 none2 is2 same2) = (is ∙ sym is2, same ∙ sym same2)
    posts_once post posts after afters (Posts.not_genuine token nonce1 client_id p none is same) (Posts.opened key nonces ids its answer o its_key answers is2) =
        let t = one_post posting.body o.token nonces ids token nonce1 client_id o.is_post p in
        absurd (none key (key_of o.token key its_key) (its, subst (λ x. IsToken IsSealing key x its.protected its.iv its.text) t.0 o.is_token))
    posts_once post posts after afters (Posts.opened key nonce1 client_id its answer o its_key answers is) (Posts.no_post none2 is2 same2) = absurd (none2 o.token nonce1 client_id o.is_post)
    posts_once post posts after afters (Posts.opened key nonces ids its answer o its_key answers is) (Posts.not_genuine token nonce1 client_id p none is2 same2) =
        let t = one_post posting.body o.token nonces ids token nonce1 client_id o.is_post p in
        absurd (none key (key_of o.token key its_key) (its, subst (λ x. IsToken IsSealing key x its.protected its.iv its.text) t.0 o.is_token))
    posts_once post posts after afters (Posts.opened key nonce1 client_id its answer o its_key answers is) (Posts.opened key2 nonces ids other answer2 o2 its_key2 answers2 is2) =
        let t = one_post posting.body o.token nonce1 client_id o2.token nonces ids o.is_post o2.is_post in
        let same_token = subst (λ x. IsToken IsSealing key x its.protected its.iv its.text) t.0 o.is_token in
        let k : key ≡ key2 = one_key o2.token key key2 (its, same_token) (other, o2.is_token) (subst (λ x. IsKeyFor IsSealing before x key) t.0 its_key) its_key2 in
        let own = subst (λ x. IsToken IsSealing x o2.token its.protected its.iv its.text) k same_token in
        let u = one_token key2 o2.token its.protected its.iv its.text other.protected other.iv other.text own o2.is_token in
        let found = subst (λ x. Answers before (offered posting nonces ids) x answer after) u.2
        (subst (λ x. Answers before (offered posting nonces x) its.text answer after) t.2
        (subst (λ x. Answers before (offered posting x client_id) its.text answer after) t.1 answers)) in
        let once = answers_once before (offered posting nonces ids) one_result other.text answer answer2 after afters found answers2 in
        let note : token_note key its.protected its.iv its.text ≡ token_note key2 other.protected other.iv other.text =
        λ i. token_note (k i) (u.0 i) (u.1 i) (u.2 i) in
        let one = by_its_text before (offered posting nonce1 client_id) its.text answer after answers in
        let two = by_its_text before (offered posting nonces ids) other.text answer2 afters answers2 in
        let result : one.0 ≡ two.0 =
        one_result other.text before.audience posting.on.at one.0 two.0 (subst (λ x. ComesTo x before.audience posting.on.at one.0) u.2 one.1) two.1 in
        let holder : holder_of answers ≡ holder_of answers2 =
        holder_is before (offered posting nonce1 client_id) its.text answer after answers
        ∙ (λ i. holder_by (result i) (once.0 i))
        ∙ sym (holder_is before (offered posting nonces ids) other.text answer2 afters answers2) in
        (is ∙ (λ i. post_of (note i) (once.0 i) (holder i)) ∙ sym is2, once.1)
