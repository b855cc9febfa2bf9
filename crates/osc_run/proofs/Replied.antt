-- Who asked what was opened, and of which request an accepted reply is.
use Rattle.std.proofs.Common.{◌≡◌, ◌≢◌, ◌⊎◌, ◌≤◌, ℕ, Bool, true, false, List, [], ◌∷◌, length, Some, refl, sym, ap, ◌∙◌, inl, inr, ⊎_elim, subst}
use Rattle.osc_model.specs.declared.context.ContextName.{ContextName}
use Rattle.osc_model.specs.declared.context.Side.TheVariants as side
use Rattle.osc_model.specs.declared.reply.Reply.{Reply}
use Rattle.osc_model.specs.declared.step.Note.{Note}
use Rattle.osc_model.specs.declared.step.Entry.{Entry}
use Rattle.osc_coap.specs.{SpellsPlaintext}
use Rattle.osc_options.specs.{reply_plaintext, reply_in, reply_text, IsReplyIn}
use Rattle.osc_context.specs.{key_name_of, longest_id, greatest_number}
use Rattle.osc_protect.specs.{aad_of, request_nonce}
use Rattle.osc_authz.specs.{In}
use Rattle.osc_run.specs.{Noted, Actor, ByServer, ByClient, ByProxy, OpenAsk, Minted, request_note, Holds, IsOfToken, HasOwnSecrets, question_in, questions, IsSealed, HasKeyAndNonceOf, HasOwnNonces}
use Rattle.osc_run.proofs.LawsBelow.{Laws}
use Rattle.osc_run.proofs.Lists.{collected_from}
use Rattle.osc_run.proofs.Parts.{IsLawfulName, IsSealedBy, ServerSeal, SealPart, more_sealed}
use Rattle.osc_run.proofs.Grants.{one_minted}

-- ---- words

-- the holder of the grant sealed this request, maybe in a lie
pub record AskedBy (minted : List Minted) (notes : List Noted) (context : ContextName) (number : ℕ) (plaintext : List ℕ) : Type 0 where
  pub by : ℕ
  pub lied : Bool
  pub holds : Holds minted by context.secret
  pub sealed : IsSealedBy notes by lied (request_note context number plaintext)

pub more_asked_by : (minted : List Minted) (notes : List Noted) (s : Noted) (e : Entry) → AskedBy minted notes e.context e.number e.plaintext → AskedBy minted (s ∷ notes) e.context e.number e.plaintext
more_asked_by minted notes s e a = record { by = a.by; lied = a.lied; holds = a.holds; sealed = more_sealed notes s a.by a.lied _ a.sealed }

-- what a client sealed is among the questions
pub sealed_question : (notes : List Noted) (by : ℕ) (lied : Bool) (t : Note) → IsSealedBy notes by lied t → In (record { by = by; lied = lied; context = t.context; number = t.number; plaintext = t.plaintext }) (questions notes)
sealed_question notes by lied t a =
    collected_from (λ (s : Noted). question_in s.actor s.lied s.notes.seals) a.step notes _ a.noted (λ i. question_in (a.actor i) (a.lied i) (a.seal i))

-- an opening under a name whose IDs differ is not that of a token
pub no_token : (opening : Note) → IsLawfulName opening.context → IsOfToken opening → ⊥
no_token opening lawful of = lawful.apart (ap (λ (x : ContextName). x.client_id) of.1 ∙ sym (ap (λ (x : ContextName). x.server_id) of.1))

-- associated data tells the number
pub same_number : Laws → (a b : ContextName) (m n : ℕ) → a ≡ b → length b.client_id ≤ longest_id → m ≤ greatest_number → n ≤ greatest_number → aad_of a m ≡ aad_of b n → m ≡ n
same_number laws a b m n e short few less h = laws.aad_tells_the_number b m n short few less (ap (λ (x : ContextName). aad_of x m) (sym e) ∙ h)

-- ---- who sealed what opens

-- the server opens what the holder of the grant sealed
pub opened_request : Laws → (minted : List Minted) (notes : List Noted) (name : ContextName) (number : ℕ) (text : List ℕ) (s : Noted) (t : Note) (a : Actor)
    → number ≤ greatest_number → s.actor ≡ a → In s notes → s.notes.seals ≡ Some t
    → t.context ≡ name → t.side ≢ side.Server → t.aad ≡ aad_of name number → t.plaintext ≡ text → IsLawfulName name → SealPart minted notes
    → AskedBy minted notes name number text
opened_request laws minted notes name number text s t ByServer few is m sealed named by aad same lawful k = absurd (by (ap (λ (u : Note). u.side) (k.server s t m is sealed).is))
opened_request laws minted notes name number text s t (ByProxy i) few is m sealed named by aad same lawful k = absurd (k.proxy s t i m is sealed)
opened_request laws minted notes name number text s t (ByClient i) few is m sealed named by aad same lawful k =
    let a : IsSealedBy notes i s.lied t = record { step = s; noted = m; actor = is; lied = refl; seal = sealed } in
    let c = k.client i s.lied t a in
    let its_number : t.number ≡ number = same_number laws t.context name t.number number named lawful.short c.number few (sym (ap (λ (u : Note). u.aad) c.shape) ∙ aad) in
    let whole : t ≡ request_note name number text = c.shape ∙ (λ j. request_note (named j) (its_number j) (same j)) in
    record {
      by = i;
      lied = s.lied;
      holds = subst (λ (x : ContextName). Holds minted i x.secret) named c.holds;
      sealed = subst (IsSealedBy notes i s.lied) whole a;
    }

-- a client opens what the server sealed
pub opened_reply : (minted : List Minted) (notes : List Noted) (s : Noted) (t : Note) (a : Actor) → s.actor ≡ a → In s notes → s.notes.seals ≡ Some t → t.side ≢ side.Client → SealPart minted notes → ServerSeal notes t
opened_reply minted notes s t ByServer is m sealed by k = k.server s t m is sealed
opened_reply minted notes s t (ByProxy i) is m sealed by k = absurd (k.proxy s t i m is sealed)
opened_reply minted notes s t (ByClient i) is m sealed by k =
    let a : IsSealedBy notes i s.lied t = record { step = s; noted = m; actor = is; lied = refl; seal = sealed } in
    absurd (by (ap (λ (u : Note). u.side) (k.client i s.lied t a).shape))

-- ---- the reply that is read

one_of : (a b : Reply) → Some a ≡ Some b → a ≡ b
one_of a b e = cc

-- a client reads the reply that the server sealed
pub one_reply : Laws → (notes : List Noted) (t : Note) (b : ServerSeal notes t) (text : List ℕ) (reply : Reply) → IsReplyIn text reply → t.plaintext ≡ text → b.entry.reply ≡ reply
unfolding reply_text
one_reply laws notes t b text reply reads is =
    let a = b.entry.reply in
    let again : reply_in (reply_plaintext a) ≡ Some a = laws.a_reply_is_read_again a b.least b.most b.within.etag b.within.format in
    let sealed : text ≡ reply_text a = sym is ∙ ap (λ (u : Note). u.plaintext) b.is in
    let spelled : SpellsPlaintext text (reply_plaintext a) = record { lawful = laws.a_written_reply a b.within.etag; whole = sealed } in
    let same = laws.one_plaintext text reads.plaintext (reply_plaintext a) reads.spelled spelled in
    one_of a reply (sym again ∙ ap reply_in (sym same) ∙ reads.says)

-- ---- the plaintext that was asked

-- two honest seals with one key and nonce are one
same_seal : (notes : List Noted) (m n : Note) → HasOwnNonces notes → IsSealed notes m → IsSealed notes n → HasKeyAndNonceOf m n → m ≡ n
same_seal [] m n k a b same = absurd a.1
same_seal (s ∷ notes) m n k a b same =
    ⊎_elim
    (λ (h : a.0 ≡ s). ⊎_elim
    (λ (g : b.0 ≡ s). let both : Some m ≡ Some n = sym a.3 ∙ ap (λ (r : Noted). r.notes.seals) (h ∙ sym g) ∙ b.3 in cc)
    (λ (g : In b.0 notes). absurd (k.0 m n (ap (λ (r : Noted). r.lied) (sym h) ∙ a.2) (ap (λ (r : Noted). r.notes.seals) (sym h) ∙ a.3) (b.0, g, b.2, b.3) same))
    b.1)
    (λ (h : In a.0 notes). ⊎_elim
    (λ (g : b.0 ≡ s).
    absurd (k.0 n m (ap (λ (r : Noted). r.lied) (sym g) ∙ b.2) (ap (λ (r : Noted). r.notes.seals) (sym g) ∙ b.3) (a.0, h, a.2, a.3) (record { key = sym same.key; nonce = sym same.nonce })))
    (λ (g : In b.0 notes). same_seal notes m n k.1 (a.0, h, a.2, a.3) (b.0, g, b.2, b.3) same)
    b.1)
    a.1

-- the entry's plaintext is the one that was sealed of the open request, unless it was a lie of the same client's holder
pub same_text : (minted : List Minted) (notes : List Noted) (by : ℕ) (q : OpenAsk) (text : List ℕ) (e : Entry) → HasOwnSecrets minted → HasOwnNonces notes
    → IsSealedBy notes by false (request_note q.context q.number text) → Holds minted by q.context.secret
    → e.context ≡ q.context → e.number ≡ q.number → (h : AskedBy minted notes e.context e.number e.plaintext) → (lied : Bool) → h.lied ≡ lied
    → (e.plaintext ≡ text) ⊎ In (record { by = by; lied = true; context = q.context; number = q.number; plaintext = e.plaintext }) (questions notes)
same_text minted notes by q text e own nonces a holds named number h false l =
    let m : Note = request_note e.context e.number e.plaintext in
    let n : Note = request_note q.context q.number text in
    let there : IsSealed notes m = (h.sealed.step, h.sealed.noted, h.sealed.lied ∙ l, h.sealed.seal) in
    let here : IsSealed notes n = (a.step, a.noted, a.lied, a.seal) in
    let one : m ≡ n = same_seal notes m n nonces there here (record {
      key = ap (λ (x : ContextName). key_name_of x side.Client) named;
      nonce = λ j. request_nonce (named j) (number j);
    }) in
    inl (ap (λ (u : Note). u.plaintext) one)
same_text minted notes by q text e own nonces a holds named number h true l =
    let secret : h.holds.held.grant.secret ≡ holds.held.grant.secret = h.holds.secret ∙ ap (λ (x : ContextName). x.secret) named ∙ sym holds.secret in
    let same : h.holds.held ≡ holds.held = one_minted minted h.holds.held holds.held own h.holds.granted holds.granted secret in
    let one : h.by ≡ by = sym h.holds.holder ∙ ap (λ (m : Minted). m.grant.holder) same ∙ holds.holder in
    let sealed : IsSealedBy notes by true (request_note q.context q.number e.plaintext) =
    subst (λ (x : ℕ × Bool × Note). IsSealedBy notes x.0 x.1 x.2) (λ j. (one j, l j, request_note (named j) (number j) e.plaintext)) h.sealed in
    inr (sealed_question notes by true (request_note q.context q.number e.plaintext) sealed)
