-- What desk, window and protection do at a server is what the kinds of step name.
use Rattle.std.proofs.Common.{◌≡◌, ◌≤◌, ℕ, List, length, Option, Some, None, Result, Ok, Err, refl, sym, ap, ◌∙◌, subst, arith, length-take}
use Rattle.osc_model.specs.{apply_read, nonce_drawn, quiet}
use Rattle.osc_model.specs.StepNotes.{StepNotes}
use Rattle.osc_model.specs.Tree.{Tree}
use Rattle.osc_model.specs.declared.node.Moment.{Moment}
use Rattle.osc_model.specs.declared.reply.Reply.{Reply}
use Rattle.osc_model.specs.declared.step.RefusedRequest.{RefusedRequest}
use Rattle.osc_context.specs.{greatest_number}
use Rattle.osc_window.specs.{IsFresh}
use Rattle.osc_authz.specs.{IsAgreed, Answers, agreed_post, remembering, new_context, OfToken, of_tokens, IsLive, AreKept, HasAdded, HasTaken, DeskState, In, Posts, offered, IsTable, accepted, alive, holder_at, holder_of, meant, with_pending}
use Rattle.osc_authz.specs.SecurityContext.{SecurityContext}
use Rattle.osc_authz.specs.Posting.{Posting}
use Rattle.osc_authz.specs.Standing.{Standing}
use Rattle.osc_authz.specs.declared.error.PostError.{PostError}
use Rattle.osc_authz.specs.declared.rules.ContextRules.{ContextRules}
use Rattle.osc_authz.specs.declared.token_entry.TokenEntry.{TokenEntry}
use Rattle.osc_authz.specs.declared.post.Post.{Post}
use Rattle.osc_authz.specs.declared.agreed_post.AgreedPost.{AgreedPost}
use Rattle.osc_authz.specs.declared.post.PostAnswer.{PostAnswer}
use Rattle.osc_authz.specs.declared.post.PostReply.{PostReply}
use Rattle.osc_authz.specs.declared.post.PostReply.TheVariants.{Known, New}
use Rattle.osc_options.specs.{read_request, IsWithinRanges}
use Rattle.osc_run.specs.{opening_note, reply_note, Replies, IsServerIdle, IsPosted, IsServed}

-- ---- a post

-- with one more pending context the others are as they were
abbrev pub AddedLaw : Type 0
AddedLaw = (now : Standing) (token : List ℕ) (held : SecurityContext) (remember : List AgreedPost → List AgreedPost) (table : List TokenEntry)
    → IsTable (with_pending token held remember (alive now table))
    → HasAdded now token held (of_tokens table) (of_tokens (with_pending token held remember (alive now table)))

pub agreed : AddedLaw → (IsSealing : List ℕ → List ℕ → List ℕ → List ℕ → List ℕ → Type 0) (before after : DeskState) (posting : Posting) (post : Post) (answer : PostAnswer)
    → length posting.draw.0 ≡ 32 → IsAgreed IsSealing before posting post answer after → IsTable after.table
    → IsPosted (record { contexts = of_tokens before.table; tree = posting.on.tree; rules = before.rules }) posting.on.at (record quiet { opens = post.opened; drawn = Some answer.nonce2; holder = post.holder }) (record { contexts = of_tokens after.table; tree = posting.on.tree; rules = after.rules })
agreed law IsSealing before after posting post answer size a is_table =
    let token : List ℕ = a.claims.material.id in
    let its : AgreedPost = agreed_post (offered posting a.nonce1 a.client_id) answer in
    let added : SecurityContext = new_context before.rules posting.on.at a.claims a.scope its in
    let remember : List AgreedPost → List AgreedPost = remembering before.rules.remembered its in
    let table : after.table ≡ with_pending token added remember (alive posting.on before.table) = ap (λ (d : DeskState). d.table) a.agrees.added in
    let eight : length (nonce_drawn posting.draw) ≡ 8 = omega (arith, size, length-take 8 posting.draw.0) in
    record {
      key = a.key;
      protected = a.its.protected;
      iv = a.its.iv;
      text = a.its.text;
      audience = before.audience;
      claims = a.claims;
      scope = a.scope;
      granted = a.granted.comes;
      allowed = a.granted.allowed;
      unrevoked = a.granted.unrevoked;
      post = its;
      short = a.opened.is_post.id_size;
      size = ap length a.agrees.drawn ∙ eight;
      apart = λ same. a.agrees.free.free (0, omega arith, sym same);
      noted = λ i. record quiet { opens = a.noted i; drawn = Some answer.nonce2; holder = a.holder i };
      contexts = subst (λ (t : List TokenEntry). HasAdded posting.on token added (of_tokens before.table) (of_tokens t)) (sym table) (law posting.on token added remember before.table (subst IsTable table is_table));
      tree = refl;
      rules = ap (λ (d : DeskState). d.rules) a.agrees.added;
    }

-- ---- a post that is refused

not_agreed : (answer : Result PostReply PostError) (made : PostAnswer) (error : PostError) → answer ≡ Ok (New made) → answer ≡ Err error → ⊥
not_agreed answer made error is e = cc

unchanged : (IsSealing : List ℕ → List ℕ → List ℕ → List ℕ → List ℕ → Type 0) (before after : DeskState) (posting : Posting) (post : Post) (error : PostError)
    → Posts IsSealing before posting post after → post.answer ≡ Err error → after ≡ before
unchanged IsSealing before after posting post error (Posts.no_post none is same) e = same
unchanged IsSealing before after posting post error (Posts.not_genuine token nonce1 client_id posts none is same) e = same
unchanged IsSealing before after posting post error (Posts.opened key nonce1 client_id token its o its_key answers is) e = by answers
  where
    its_answer : its ≡ Err error
    its_answer = sym (ap (λ (p : Post). p.answer) is) ∙ e

    by : Answers before (offered posting nonce1 client_id) token.text its after → after ≡ before
    by (Answers.refused refusal comes answer same) = same
    by (Answers.disallowed claims scope comes not_taken answer same) = same
    by (Answers.revoked claims scope comes taken gone answer same) = same
    by (Answers.full claims scope granted many answer same) = same
    by (Answers.again claims scope made granted k held answer same) = same
    by (Answers.replayed claims scope made granted k gone answer same) = same
    by (Answers.agreed claims scope made granted k agrees answer) = absurd (not_agreed its made error answer its_answer)

not_made : (answer : Result PostReply PostError) (made : PostAnswer) (reply : PostAnswer) → answer ≡ Ok (New made) → answer ≡ Ok (Known reply) → ⊥
not_made answer made reply is e = cc

-- no context is made then, by anybody's token
unheld : (IsSealing : List ℕ → List ℕ → List ℕ → List ℕ → List ℕ → Type 0) (before after : DeskState) (posting : Posting) (post : Post) (error : PostError)
    → Posts IsSealing before posting post after → post.answer ≡ Err error → post.holder ≡ None
unheld IsSealing before after posting post error (Posts.no_post none is same) e = ap (λ (p : Post). p.holder) is
unheld IsSealing before after posting post error (Posts.not_genuine token nonce1 client_id posts none is same) e = ap (λ (p : Post). p.holder) is
unheld IsSealing before after posting post error (Posts.opened key nonce1 client_id token its o its_key answers is) e = ap (λ (p : Post). p.holder) is ∙ by answers
  where
    its_answer : its ≡ Err error
    its_answer = sym (ap (λ (p : Post). p.answer) is) ∙ e

    by : (answers : Answers before (offered posting nonce1 client_id) token.text its after) → holder_of answers ≡ None
    by (Answers.refused refusal comes answer same) = refl
    by (Answers.disallowed claims scope comes not_taken answer same) = refl
    by (Answers.revoked claims scope comes taken gone answer same) = refl
    by (Answers.full claims scope granted many answer same) = refl
    by (Answers.again claims scope made granted k held answer same) = refl
    by (Answers.replayed claims scope made granted k gone answer same) = refl
    by (Answers.agreed claims scope made granted k agrees answer) = absurd (not_agreed its made error answer its_answer)

-- nor where a post is answered as before
unheld_again : (IsSealing : List ℕ → List ℕ → List ℕ → List ℕ → List ℕ → Type 0) (before after : DeskState) (posting : Posting) (post : Post) (reply : PostAnswer)
    → Posts IsSealing before posting post after → post.answer ≡ Ok (Known reply) → post.holder ≡ None
unheld_again IsSealing before after posting post reply (Posts.no_post none is same) e = ap (λ (p : Post). p.holder) is
unheld_again IsSealing before after posting post reply (Posts.not_genuine token nonce1 client_id posts none is same) e = ap (λ (p : Post). p.holder) is
unheld_again IsSealing before after posting post reply (Posts.opened key nonce1 client_id token its o its_key answers is) e = ap (λ (p : Post). p.holder) is ∙ by answers
  where
    its_answer : its ≡ Ok (Known reply)
    its_answer = sym (ap (λ (p : Post). p.answer) is) ∙ e

    by : (answers : Answers before (offered posting nonce1 client_id) token.text its after) → holder_of answers ≡ None
    by (Answers.refused refusal comes answer same) = refl
    by (Answers.disallowed claims scope comes not_taken answer same) = refl
    by (Answers.revoked claims scope comes taken gone answer same) = refl
    by (Answers.full claims scope granted many answer same) = refl
    by (Answers.again claims scope made granted k held answer same) = refl
    by (Answers.replayed claims scope made granted k gone answer same) = refl
    by (Answers.agreed claims scope made granted k agrees answer) = absurd (not_made its made reply answer its_answer)

pub refused : (IsSealing : List ℕ → List ℕ → List ℕ → List ℕ → List ℕ → Type 0) (before after : DeskState) (posting : Posting) (post : Post) (error : PostError) (why : Option RefusedRequest)
    → Posts IsSealing before posting post after → post.answer ≡ Err error
    → IsServerIdle (record { contexts = of_tokens before.table; tree = posting.on.tree; rules = before.rules }) posting.on.at (record quiet { opens = post.opened; refused = why; holder = post.holder }) (record { contexts = of_tokens after.table; tree = posting.on.tree; rules = after.rules })
refused IsSealing before after posting post error why posts e =
    let same : after ≡ before = unchanged IsSealing before after posting post error posts e in
    record {
      opened = post.opened;
      refused = why;
      noted = ap (λ (h : Option (List ℕ)). let n : StepNotes = record quiet { opens = post.opened; refused = why; holder = h } in n) (unheld IsSealing before after posting post error posts e);
      contexts = subst (λ (d : DeskState). AreKept posting.on (of_tokens before.table) (of_tokens d.table)) (sym same) (record { only = λ c m. m; live = λ c m live. m });
      tree = refl;
      rules = ap (λ (d : DeskState). d.rules) same;
    }

-- a post that is answered as before changes nothing
pub known : (IsSealing : List ℕ → List ℕ → List ℕ → List ℕ → List ℕ → Type 0) (before after : DeskState) (posting : Posting) (post : Post) (answer : PostAnswer)
    → Posts IsSealing before posting post after → post.answer ≡ Ok (Known answer) → after ≡ before
    → IsServerIdle (record { contexts = of_tokens before.table; tree = posting.on.tree; rules = before.rules }) posting.on.at (record quiet { opens = post.opened; holder = post.holder }) (record { contexts = of_tokens after.table; tree = posting.on.tree; rules = after.rules })
known IsSealing before after posting post answer posts e same = record {
  opened = post.opened;
  refused = None;
  noted = ap (λ (h : Option (List ℕ)). let n : StepNotes = record quiet { opens = post.opened; holder = h } in n) (unheld_again IsSealing before after posting post answer posts e);
  contexts = subst (λ (d : DeskState). AreKept posting.on (of_tokens before.table) (of_tokens d.table)) (sym same) (record { only = λ c m. m; live = λ c m live. m });
  tree = refl;
  rules = ap (λ (d : DeskState). d.rules) same;
}

-- ---- a request that opens

-- the context that a request means is one of the table
abbrev pub MeantLaw : Type 0
MeantLaw = (now : Standing) (kid : List ℕ) (kid_context : Option (List ℕ)) (table : List TokenEntry) (held : SecurityContext) → meant now kid kid_context table ≡ Some held
    → (context : OfToken) × In context (of_tokens table) × (context.held ≡ held) × IsLive now held × (held.name.client_id ≡ kid)
    × (holder_at kid table ≡ Some context.token)

-- where it takes a number, the others are as they were
abbrev pub TakenLaw : Type 0
TakenLaw = (now : Standing) (number : ℕ) (context : OfToken) (table : List TokenEntry) → IsTable table → In context (of_tokens table)
    → HasTaken now number context (of_tokens table) (of_tokens (accepted context.held.name.client_id number table))

module _ (taken : TakenLaw) (now : Moment) (table : List TokenEntry) (is_table : IsTable table) (number : ℕ) (few : number ≤ greatest_number) (text : List ℕ) (reply : Reply) (within : IsWithinRanges reply) (tree after : Tree) (rules : ContextRules) where
  abbrev on : Standing
  on = record { at = now; tree = tree }

  abbrev Serves : SecurityContext → List ℕ → Option (List ℕ) → Type 0
  Serves held kid holder = IsServed (record { contexts = of_tokens table; tree = tree; rules = rules }) now
      (record quiet {
        seals = Some (reply_note held.name number reply);
        opens = Some (opening_note held.name number text);
        served = Some (record { context = held.name; number = number; plaintext = text; request = read_request text; moment = now; reply = reply });
        holder = holder;
      })
      (record { contexts = of_tokens (accepted kid number table); tree = after; rules = rules })

  opened_under : (context : OfToken) → In context (of_tokens table) → IsLive on context.held → IsFresh context.held.window number
      → Replies tree (apply_read rules.revoked tree context.held.scope (read_request text)) reply after → Serves context.held context.held.name.client_id (Some context.token)
  opened_under context there live fresh replies = record {
    context = context;
    is_held = there;
    is_live = live;
    number = number;
    lawful = few;
    fresh = fresh;
    text = text;
    reply = reply;
    within = within;
    tree = replies;
    noted = refl;
    contexts = taken on number context table is_table there;
    rules = refl;
  }

  pub opened : MeantLaw → (kid : List ℕ) (kid_context : Option (List ℕ)) (held : SecurityContext) → meant on kid kid_context table ≡ Some held → IsFresh held.window number
      → Replies tree (apply_read rules.revoked tree held.scope (read_request text)) reply after → Serves held kid (holder_at kid table)
  opened law kid kid_context held means fresh replies =
      let m = law on kid kid_context table held means in
      let its : IsLive on m.0.held = subst (IsLive on) (sym m.2) m.3 in
      let its_fresh : IsFresh m.0.held.window number = subst (λ (h : SecurityContext). IsFresh h.window number) (sym m.2) fresh in
      let its_reply : Replies tree (apply_read rules.revoked tree m.0.held.scope (read_request text)) reply after = subst (λ (h : SecurityContext). Replies tree (apply_read rules.revoked tree h.scope (read_request text)) reply after) (sym m.2) replies in
      let serves : Serves m.0.held m.0.held.name.client_id (Some m.0.token) = opened_under m.0 m.1 its its_fresh its_reply in
      let by_its_id : Serves held kid (Some m.0.token) =
      subst (λ (id : List ℕ). Serves held id (Some m.0.token)) m.4 (subst (λ (h : SecurityContext). Serves h h.name.client_id (Some m.0.token)) m.2 serves) in
      subst (Serves held kid) (sym m.5) by_its_id
