-- A post that is answered 2.01, and the name that both ends have by it.
use Rattle.std.proofs.Common.{◌≡◌, ◌≢◌, ℕ, ◌<◌, ◌≤◌, ◌^◌, List, [], ◌∷◌, length, Option, Some, None, Result, Ok, Err, refl, sym, ap, ◌∙◌, inl, inr, subst, arith, length-take}
use Rattle.std.specs.Prelude.{IfSome}
use Rattle.std.specs.Option.{ForSome}
use Rattle.osc_model.specs.{code, nonce_drawn, revocation_of}
use Rattle.osc_model.specs.Scope.{Scope}
use Rattle.osc_model.specs.declared.context.ContextName.{ContextName}
use Rattle.osc_model.specs.declared.node.Draw.{Draw}
use Rattle.osc_model.specs.declared.node.Moment.{Moment}
use Rattle.osc_cbor.specs.{spelling}
use Rattle.osc_context.specs.{master_salt}
use Rattle.osc_cose.specs.{enc_structure, object_item}
use Rattle.osc_scope.specs.{Entry, IsScope, scope_of}
use Rattle.osc_token.specs.{ComesTo, FitTheirTypes, HasLawfulParts, IsToken, algorithm_header, claims_item, token_object}
use Rattle.osc_token.specs.declared.claims.Claims.{Claims}
use Rattle.osc_authz.specs.{IsAgreed, new_context, Agrees, Answers, agreed_post, end_of, holder_of, remembering, refused, disallowed, revoked, full, again, replayed, agreed, ClientContextState, Finishes, made_name, pending_of, DeskState, IsPost, IsAnswer, post_item, answer_item, In, IsKeyFor, Posts, offered, alive, contexts, with_pending, IsLawfulContext}
use Rattle.osc_authz.specs.Begun.{Begun}
use Rattle.osc_authz.specs.SecurityContext.{SecurityContext}
use Rattle.osc_authz.specs.HoldsToken.{HoldsToken}
use Rattle.osc_authz.specs.Posting.{Posting}
use Rattle.osc_authz.specs.Standing.{Standing}
use Rattle.osc_authz.specs.declared.error.FinishError.{FinishError}
use Rattle.osc_authz.specs.declared.error.PostError.{PostError}
use Rattle.osc_authz.specs.declared.granted.ClientDesk.{ClientDesk}
use Rattle.osc_authz.specs.declared.token_entry.TokenEntry.{TokenEntry}
use Rattle.osc_authz.specs.declared.post.Post.{Post}
use Rattle.osc_authz.specs.declared.agreed_post.AgreedPost.{AgreedPost}
use Rattle.osc_authz.specs.declared.post.PostAnswer.{PostAnswer}
use Rattle.osc_authz.specs.declared.post.PostReply.{PostReply}
use Rattle.osc_authz.specs.declared.post.PostReply.TheVariants.{New, Known}
use Rattle.osc_authz.proofs.ContextLaws.{has_pending, is_held}

-- ---- a post that is answered 2.01

abbrev ok_answer : PostAnswer → Result PostReply PostError
ok_answer answer = Ok (New answer)

one_answer_of : (a b : PostAnswer) → ok_answer a ≡ ok_answer b → a ≡ b
one_answer_of a b e = cc

no_answer : (post : Post) (answer : PostAnswer) (opened : _) (e : PostError) → post ≡ record { opened = opened; answer = Err e; holder = None } → post.answer ≡ Ok (New answer) → ⊥
no_answer post answer opened e is ok = let refused : post.answer ≡ Err e = ap (λ (p : Post). p.answer) is in cc (refused, ok)

not_refused : (answer : Result PostReply PostError) (made : PostAnswer) (e : PostError) → answer ≡ Err e → answer ≡ Ok (New made) → ⊥
not_refused answer made e is ok = cc

not_known : (answer : Result PostReply PostError) (made other : PostAnswer) → answer ≡ Ok (Known other) → answer ≡ Ok (New made) → ⊥
not_known answer made other is ok = cc

pub agreed_posted : (IsSealing : List ℕ → List ℕ → List ℕ → List ℕ → List ℕ → Type 0) (before after : DeskState) (posting : Posting) (post : Post) (answer : PostAnswer)
    → Posts IsSealing before posting post after → post.answer ≡ Ok (New answer) → IsAgreed IsSealing before posting post answer after
agreed_posted IsSealing before after posting post answer (Posts.no_post none is same) ok = absurd (no_answer post answer _ _ is ok)
agreed_posted IsSealing before after posting post answer (Posts.not_genuine token nonce1 client_id posts none is same) ok = absurd (no_answer post answer _ _ is ok)
agreed_posted IsSealing before after posting post answer (Posts.opened key nonce1 client_id token its o its_key answers is) ok = by answers (ap (λ (p : Post). p.holder) is)
  where
    answer_is : its ≡ Ok (New answer)
    answer_is = sym (ap (λ (p : Post). p.answer) is) ∙ ok

    by : (its_answers : Answers before (offered posting nonce1 client_id) token.text its after) → post.holder ≡ holder_of its_answers → IsAgreed IsSealing before posting post answer after
    by (refused error comes e unchanged) of_token = absurd (not_refused its answer _ e answer_is)
    by (disallowed claims scope comes below e unchanged) of_token = absurd (not_refused its answer _ e answer_is)
    by (revoked claims scope comes allowed gone e unchanged) of_token = absurd (not_refused its answer _ e answer_is)
    by (full claims scope granted many e unchanged) of_token = absurd (not_refused its answer _ e answer_is)
    by (again claims scope made granted k held e unchanged) of_token = absurd (not_known its answer made e answer_is)
    by (replayed claims scope made granted k gone e unchanged) of_token = absurd (not_refused its answer _ e answer_is)
    by (agreed claims scope made granted k agrees e) of_token = record {
      key = key;
      nonce1 = nonce1;
      client_id = client_id;
      its = token;
      claims = claims;
      scope = scope;
      opened = o;
      key_is = its_key;
      granted = granted.granted;
      unknown = k;
      agrees = subst (λ m. Agrees before (offered posting nonce1 client_id) claims scope m after) (one_answer_of made answer (sym e ∙ answer_is)) agrees;
      noted = ap (λ (p : Post). p.opened) is;
      holder = of_token;
    }

-- ---- one name

same_name : (a b : ContextName) → a.secret ≡ b.secret → a.salt ≡ b.salt → a.id_context ≡ b.id_context → a.client_id ≡ b.client_id → a.server_id ≡ b.server_id → a.alg ≡ b.alg → a ≡ b
same_name a b secret salt id_context client_id server_id alg =
    λ i. record { secret = secret i; salt = salt i; id_context = id_context i; client_id = client_id i; server_id = server_id i; alg = alg i }

if_short : (context : Option (List ℕ)) → ForSome context (λ bytes. length bytes ≤ 64) → IfSome context (λ bytes. length bytes ≤ 64)
if_short None short = tt
if_short (Some bytes) short = short bytes refl

same_salt : (a b n m p q : List ℕ) → a ≡ b → n ≡ m → p ≡ q → master_salt a n p ≡ master_salt b m q
same_salt a b n m p q salt one two = λ i. master_salt (salt i) (one i) (two i)

module _ (IsSealing : List ℕ → List ℕ → List ℕ → List ℕ → List ℕ → Type 0)
    (agreed_posteds : (before after : DeskState) (posting : Posting) (post : Post) (answer : PostAnswer)
    → Posts IsSealing before posting post after → post.answer ≡ Ok (New answer) → IsAgreed IsSealing before posting post answer after)
    (written_post : (token nonce1 client_id : List ℕ) → length token < 2 ^ 64 → 1 ≤ length nonce1 → length nonce1 ≤ 64 → length client_id ≤ 7
    → IsPost (spelling (post_item token nonce1 client_id)) token nonce1 client_id)
    (written_answer : (nonce2 server_id : List ℕ) → 1 ≤ length nonce2 → length nonce2 ≤ 64 → length server_id ≤ 7
    → IsAnswer (spelling (answer_item nonce2 server_id)) nonce2 server_id)
    (one_post : (body token nonce1 client_id others nonces ids : List ℕ) → IsPost body token nonce1 client_id → IsPost body others nonces ids
    → (token ≡ others) × (nonce1 ≡ nonces) × (client_id ≡ ids))
    (one_answer : (payload nonce2 server_id nonces ids : List ℕ) → IsAnswer payload nonce2 server_id → IsAnswer payload nonces ids
    → (nonce2 ≡ nonces) × (server_id ≡ ids))
    (minted_tokens : (key iv text ciphertext : List ℕ) → length iv ≡ 13 → length ciphertext < 2 ^ 64
    → IsSealing key iv (enc_structure algorithm_header []) text ciphertext
    → IsToken IsSealing key (spelling (object_item (token_object iv ciphertext))) algorithm_header iv text)
    (minted_texts : (claims read : Claims) (entries : List Entry) (granted : Scope) (audience : List ℕ) (now : Moment)
    → FitTheirTypes claims → IsScope claims.scope entries → ComesTo (spelling (claims_item claims)) audience now (Ok (read, granted))
    → (read ≡ claims) × (granted ≡ scope_of entries))
    (one_token : (key bytes protected iv text others ivs other : List ℕ) → IsToken IsSealing key bytes protected iv text → IsToken IsSealing key bytes others ivs other
    → (protected ≡ others) × (iv ≡ ivs) × (text ≡ other))
    (before after : DeskState) (on : Standing) (draw : Draw) (post : Post) (answer : PostAnswer)
    (claims : Claims) (entries : List Entry) (client : ClientDesk) (begun : Begun) (finished : Result ClientContextState FinishError)
    (size : length draw.0 ≡ 32) (nonce_size : length begun.nonce1 ≡ 8) (holds : HoldsToken IsSealing before.key claims entries client)
    (posts : Posts IsSealing before (record { on = on; body = spelling (post_item client.token begun.nonce1 (begun.recipient_id ∷ [])); draw = draw }) post after)
    (ok : post.answer ≡ Ok (New answer)) where
  abbrev posting : Posting
  posting = record { on = on; body = spelling (post_item client.token begun.nonce1 (begun.recipient_id ∷ [])); draw = draw }

  abbrev a : IsAgreed IsSealing before posting post answer after
  a = agreed_posteds before after posting post answer posts ok

  posted : (a.opened.token ≡ client.token) × (a.nonce1 ≡ begun.nonce1) × (a.client_id ≡ begun.recipient_id ∷ [])
  posted =
      one_post _ a.opened.token a.nonce1 a.client_id client.token begun.nonce1 (begun.recipient_id ∷ []) a.opened.is_post
      (written_post client.token begun.nonce1 (begun.recipient_id ∷ []) holds.token_size (omega (arith, nonce_size)) (omega (arith, nonce_size)) (omega arith))

  is_minted : IsToken IsSealing before.key (spelling (object_item (token_object holds.iv holds.ciphertext))) algorithm_header holds.iv (spelling (claims_item claims))
  is_minted = minted_tokens before.key holds.iv (spelling (claims_item claims)) holds.ciphertext holds.iv_size holds.short holds.sealed

  -- it opens under the desk's key
  own_key : IsKeyFor IsSealing before a.opened.token a.key → a.key ≡ before.key
  own_key (inl own) = own
  own_key (inr old) =
      absurd (old.1 (
        record { protected = algorithm_header; iv = holds.iv; text = spelling (claims_item claims) },
        subst (λ x. IsToken IsSealing before.key x algorithm_header holds.iv (spelling (claims_item claims))) (sym (posted.0 ∙ holds.token)) is_minted,
      ))

  text_is : a.its.text ≡ spelling (claims_item claims)
  text_is =
      (one_token before.key _ a.its.protected a.its.iv a.its.text algorithm_header holds.iv (spelling (claims_item claims))
      (subst (λ x. IsToken IsSealing before.key x a.its.protected a.its.iv a.its.text) (posted.0 ∙ holds.token)
      (subst (λ x. IsToken IsSealing x a.opened.token a.its.protected a.its.iv a.its.text) (own_key a.key_is) a.opened.is_token))
      is_minted).2

  granted : (a.claims ≡ claims) × (a.scope ≡ scope_of entries)
  granted =
      minted_texts claims a.claims entries a.scope before.audience on.at holds.fit holds.is_scope
      (subst (λ x. ComesTo x before.audience on.at (Ok (a.claims, a.scope))) text_is a.granted.comes)

  abbrev its : SecurityContext
  its = new_context before.rules on.at a.claims a.scope (agreed_post (offered posting a.nonce1 a.client_id) answer)

  abbrev remember : List AgreedPost → List AgreedPost
  remember = remembering before.rules.remembered (agreed_post (offered posting a.nonce1 a.client_id) answer)

  held : In its (contexts after.table)
  held =
      let table : List TokenEntry = with_pending a.claims.material.id its remember (alive on before.table) in
      subst (λ (d : DeskState). In its (contexts d.table)) (sym a.agrees.added) (is_held table (pending_of a.claims.material.id its) (has_pending a.claims.material.id its remember (alive on before.table)))

  nonce2_size : length answer.nonce2 ≡ 8
  nonce2_size =
      let sized : length (nonce_drawn draw) ≡ 8 = omega (arith, size, length-take 8 draw.0) in
      ap length a.agrees.drawn ∙ sized

  answered : IsAnswer (spelling (answer_item answer.nonce2 (answer.recipient_id ∷ []))) answer.nonce2 (answer.recipient_id ∷ [])
  answered = written_answer answer.nonce2 (answer.recipient_id ∷ []) (omega (arith, nonce2_size)) (omega (arith, nonce2_size)) (omega arith)

  apart : answer.recipient_id ∷ [] ≢ begun.recipient_id ∷ []
  apart same = a.agrees.free.free (0, omega arith, posted.2 ∙ sym same)

  name : (nonce2 server_id : List ℕ) → nonce2 ≡ answer.nonce2 → server_id ≡ answer.recipient_id ∷ [] → made_name client begun nonce2 server_id ≡ its.name
  name nonce2 server_id two id =
      same_name (made_name client begun nonce2 server_id) its.name
      (holds.secret ∙ sym (ap (λ (c : Claims). c.material.secret) granted.0))
      (same_salt client.salt a.claims.material.salt begun.nonce1 a.nonce1 nonce2 answer.nonce2
      (holds.salt ∙ sym (ap (λ (c : Claims). c.material.salt) granted.0)) (sym posted.1) two)
      (holds.id_context ∙ sym (ap (λ (c : Claims). c.material.id_context) granted.0))
      id
      (sym posted.2)
      (holds.alg ∙ sym (ap (λ (c : Claims). c.material.alg) granted.0))

  abbrev ok_made : ContextName → Result ClientContextState FinishError
  ok_made n = Ok (record { name = n; next = 0 })

  by : Finishes client begun (code 2 1) (spelling (answer_item answer.nonce2 (answer.recipient_id ∷ []))) finished → finished ≡ ok_made its.name
  by (Finishes.another_code other e) = absurd (other refl)
  by (Finishes.no_answer came none e) = absurd (none answer.nonce2 (answer.recipient_id ∷ []) answered)
  by (Finishes.equal_ids nonce2 came is e) =
      absurd (apart (sym (one_answer _ nonce2 (begun.recipient_id ∷ []) answer.nonce2 (answer.recipient_id ∷ []) is answered).1))
  by (Finishes.made nonce2 server_id came is other e) =
      let same = one_answer _ nonce2 server_id answer.nonce2 (answer.recipient_id ∷ []) is answered in
      e ∙ ap ok_made (name nonce2 server_id same.0 same.1)

  pub one_name : Finishes client begun (code 2 1) (spelling (answer_item answer.nonce2 (answer.recipient_id ∷ []))) finished
      → (its : SecurityContext) × In its (contexts after.table) × (its.scope ≡ scope_of entries)
      × (its.not_before ≡ claims.not_before) × (its.expires ≡ claims.expires)
      × (its.revocation ≡ revocation_of before.rules.revoked claims.material.id)
      × (its.ends ≡ end_of before.rules.seconds on.at)
      × (finished ≡ Ok (record { name = its.name; next = 0 }))
      × (its.window ≡ []) × IsLawfulContext its
      × (HasLawfulParts claims → IfSome its.name.id_context (λ bytes. length bytes ≤ 64))
  one_name finishes = (
    its,
    held,
    granted.1,
    ap (λ (c : Claims). c.not_before) granted.0,
    ap (λ (c : Claims). c.expires) granted.0,
    ap (λ (c : Claims). revocation_of before.rules.revoked c.material.id) granted.0,
    refl,
    by finishes,
    refl,
    record { byte = answer.recipient_id; one_byte = refl; apart = λ same. a.agrees.free.free (0, omega arith, sym same) },
    λ lawful. subst (λ (c : Claims). IfSome c.material.id_context (λ bytes. length bytes ≤ 64)) (sym granted.0) (if_short claims.material.id_context lawful.id_context),
  )
