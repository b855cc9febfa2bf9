-- What the steps of an exchange that goes straight to the server note.
use Rattle.std.proofs.Common.{◌≡◌, ◌∙◌, sym, ap, inl, inr, subst, refl, ℕ, ◌^◌, ◌<◌, ◌≤◌, List, [], ◌∷◌, length, Option, Some, None, Result, Ok, unwrap_or, arith}
use Rattle.std.specs.Prelude.{◌≢◌}
use Rattle.std.proofs.lemmas.List.{length-take}
use Rattle.osc_model.specs.{read_as, nonce_drawn, token_drawn, quiet}
use Rattle.osc_model.specs.Arrival.{Arrival}
use Rattle.osc_model.specs.StepNotes.{StepNotes}
use Rattle.osc_model.specs.declared.algorithm.Algorithm.TheVariants.{EightByteTag}
use Rattle.osc_model.specs.declared.node.Draw.{Draw}
use Rattle.osc_model.specs.declared.node.Moment.{Moment}
use Rattle.osc_model.specs.declared.node.Peer.{Peer}
use Rattle.osc_model.specs.declared.step.ClientResult.TheVariants as result
use Rattle.osc_model.specs.declared.step.Datagram.{Datagram}
use Rattle.osc_model.specs.declared.step.Note.{Note}
use Rattle.osc_model.specs.declared.step.Step.{Step}
use Rattle.osc_cbor.specs.{spelling as item_spelling}
use Rattle.osc_coap.specs.{payload_of, Spells, spelling}
use Rattle.osc_coap.specs.Message.{Message}
use Rattle.osc_cose.specs.{enc_structure, object_item}
use Rattle.osc_dedup.specs.{looked}
use Rattle.osc_message.specs.{own_id, heard, Receives, datagram}
use Rattle.osc_message.specs.declared.heard.Heard.{Heard}
use Rattle.osc_message.specs.declared.heard.Heard.TheVariants as heard_as
use Rattle.osc_message.specs.declared.received.Received.{Received}
use Rattle.osc_message.specs.declared.received.Received.TheVariants as received
use Rattle.osc_ccm.specs.{Sealings}
use Rattle.osc_protect.specs.{longest_message}
use Rattle.osc_scope.specs.{Entry}
use Rattle.osc_token.specs.{IsToken, algorithm_header, claims_item, token_note, token_object}
use Rattle.osc_token.specs.declared.claims.Claims.{Claims}
use Rattle.osc_authz.specs.{IsAgreed, IsKeyFor, known, DeskState, IsPost, post_item, Posts, IsWelcome}
use Rattle.osc_authz.specs.Posting.{Posting}
use Rattle.osc_authz.specs.Standing.{Standing}
use Rattle.osc_authz.specs.declared.error.PostError.{PostError}
use Rattle.osc_authz.specs.declared.granted.ClientDesk.{ClientDesk}
use Rattle.osc_authz.specs.declared.post.Post.{Post}
use Rattle.osc_authz.specs.declared.post.PostAnswer.{PostAnswer}
use Rattle.osc_authz.specs.declared.post.PostReply.{PostReply}
use Rattle.osc_authz.specs.declared.post.PostReply.TheVariants.{New}
use Rattle.osc_server.specs.{standing_of, case_of as server_case, Hears as ServerHears, Answers as ServerAnswers, AnswersNew as ServerAnswersNew, AnswersPost, nonce_of_post, notes_of_post, refusal_of_post}
use Rattle.osc_server.specs.State.{State as Server}
use Rattle.osc_server.specs.declared.case.RequestCase.{RequestCase as ServerCase}
use Rattle.osc_client.specs.{IsLawfulClient, Exchanges, begins, begun_by, busy, post_by, post_with, HostAndPort, through}
use Rattle.osc_client.specs.Sending as sending
use Rattle.osc_client.specs.State.{State as Client}
use Rattle.osc_client.specs.declared.waiting.Awaited.TheVariants.{Exchange}
use Rattle.osc_rounds.specs.{coming, in_bytes, claims_text, IsStraight, MayExchange, AreNotesOfAgreement, AreNotesOfExchange, IsWelcomeUnder, with_key}
use Rattle.osc_proxy.specs.{IsCarried}
use Rattle.osc_rounds.proofs.Agreement.{case_post, heard_post, payload_again}
use Rattle.osc_rounds.proofs.Asking.{received_as}
use Rattle.osc_rounds.proofs.ExchangeRound.{drawn_size}
use Rattle.osc_rounds.proofs.OldKey.{posts_under}
use Rattle.osc_rounds.proofs.Unheard.{still_unheard}

module _ (is_sealing : Sealings) where
  pub record TokenLaws : Type 0 where
    pub welcome : (before after : DeskState) (on : Standing) (draw : Draw) (post : Post) (claims : Claims) (entries : List Entry) (holder : ClientDesk) (nonce1 : List ℕ) (id : ℕ)
        → IsWelcome (is_sealing EightByteTag) before on claims entries holder → length nonce1 ≡ 8
        → known claims.material.id nonce1 (id ∷ []) before.table ≡ None
        → Posts (is_sealing EightByteTag) before (record { on = on; body = item_spelling (post_item holder.token nonce1 (id ∷ [])); draw = draw }) post after
        → (answer : PostAnswer) × (post.answer ≡ Ok (New answer)) × (answer.nonce2 ≡ nonce_drawn draw)
    pub agreed : (before after : DeskState) (posting : Posting) (post : Post) (answer : PostAnswer)
        → Posts (is_sealing EightByteTag) before posting post after → post.answer ≡ Ok (New answer) → IsAgreed (is_sealing EightByteTag) before posting post answer after
    pub written : (token nonce1 client_id : List ℕ) → length token < 2 ^ 64 → 1 ≤ length nonce1 → length nonce1 ≤ 64 → length client_id ≤ 7
        → IsPost (item_spelling (post_item token nonce1 client_id)) token nonce1 client_id
    pub one_post : (body token nonce1 client_id others nonces ids : List ℕ) → IsPost body token nonce1 client_id → IsPost body others nonces ids
        → (token ≡ others) × (nonce1 ≡ nonces) × (client_id ≡ ids)
    pub minted : (key iv text ciphertext : List ℕ) → length iv ≡ 13 → length ciphertext < 2 ^ 64
        → is_sealing EightByteTag key iv (enc_structure algorithm_header []) text ciphertext
        → IsToken (is_sealing EightByteTag) key (item_spelling (object_item (token_object iv ciphertext))) algorithm_header iv text
    pub one_token : (key bytes protected iv text others ivs other : List ℕ)
        → IsToken (is_sealing EightByteTag) key bytes protected iv text → IsToken (is_sealing EightByteTag) key bytes others ivs other
        → (protected ≡ others) × (iv ≡ ivs) × (text ≡ other)

-- ---- a post with a welcome token

module _ (is_sealing : Sealings) (laws : TokenLaws is_sealing)
    (before after : DeskState) (on : Standing) (draw : Draw) (post : Post) (claims : Claims) (entries : List Entry) (holder : ClientDesk) (nonce1 : List ℕ) (client_id : ℕ)
    (welcome : IsWelcome (is_sealing EightByteTag) before on claims entries holder) (size : length nonce1 ≡ 8)
    (unknown : known claims.material.id nonce1 (client_id ∷ []) before.table ≡ None)
    (posts : Posts (is_sealing EightByteTag) before (record { on = on; body = item_spelling (post_item holder.token nonce1 (client_id ∷ [])); draw = draw }) post after) where
  abbrev offering : Posting
  offering = record { on = on; body = item_spelling (post_item holder.token nonce1 (client_id ∷ [])); draw = draw }

  abbrev text : List ℕ
  text = item_spelling (claims_item claims)

  answer : (answer : PostAnswer) × (post.answer ≡ Ok (New answer)) × (answer.nonce2 ≡ nonce_drawn draw)
  answer = laws.welcome before after on draw post claims entries holder nonce1 client_id welcome size unknown posts

  is_agreed : IsAgreed (is_sealing EightByteTag) before offering post answer.0 after
  is_agreed = laws.agreed before after offering post answer.0 posts answer.1

  its_token : is_agreed.opened.token ≡ holder.token
  its_token =
      (laws.one_post (item_spelling (post_item holder.token nonce1 (client_id ∷ []))) is_agreed.opened.token is_agreed.nonce1 is_agreed.client_id holder.token nonce1 (client_id ∷ [])
      is_agreed.opened.is_post
      (laws.written holder.token nonce1 (client_id ∷ []) welcome.holds.token_size (omega (arith, size)) (omega (arith, size)) (omega arith))).0

  -- it opens under the desk's key
  own_key : IsKeyFor (is_sealing EightByteTag) before is_agreed.opened.token is_agreed.key → is_agreed.key ≡ before.key
  own_key (inl own) = own
  own_key (inr old) =
      let holds = welcome.holds in
      absurd (old.1 (
        record { protected = algorithm_header; iv = holds.iv; text = text },
        subst (λ (b : List ℕ). IsToken (is_sealing EightByteTag) before.key b algorithm_header holds.iv text) (sym (its_token ∙ holds.token))
            (laws.minted before.key holds.iv text holds.ciphertext holds.iv_size holds.short holds.sealed),
      ))

  its_key : is_agreed.key ≡ before.key
  its_key = own_key is_agreed.key_is

  its_text : is_agreed.its.text ≡ text
  its_text =
      let holds = welcome.holds in
      let bytes : List ℕ = item_spelling (object_item (token_object holds.iv holds.ciphertext)) in
      let opened : IsToken (is_sealing EightByteTag) before.key bytes is_agreed.its.protected is_agreed.its.iv is_agreed.its.text =
      subst (λ (k : List ℕ). IsToken (is_sealing EightByteTag) k bytes is_agreed.its.protected is_agreed.its.iv is_agreed.its.text) its_key
      (subst (λ (b : List ℕ). IsToken (is_sealing EightByteTag) is_agreed.key b is_agreed.its.protected is_agreed.its.iv is_agreed.its.text) (its_token ∙ holds.token) is_agreed.opened.is_token) in
      let same = laws.one_token before.key bytes is_agreed.its.protected is_agreed.its.iv is_agreed.its.text algorithm_header holds.iv text opened
      (laws.minted before.key holds.iv text holds.ciphertext holds.iv_size holds.short holds.sealed) in
      same.2

  -- it opened the token, to the text of its claims, and drew a nonce
  pub post_notes : AreNotesOfAgreement before.key text draw (notes_of_post post)
  post_notes = record {
    protected = is_agreed.its.protected;
    iv = is_agreed.its.iv;
    id = is_agreed.claims.material.id;
    is =
        ap (λ (o : Option Note). let n : StepNotes = record quiet { opens = o; drawn = nonce_of_post post.answer; refused = refusal_of_post post.answer; holder = post.holder } in n)
        (is_agreed.noted ∙ ap (λ (k : List ℕ). Some (token_note k is_agreed.its.protected is_agreed.its.iv is_agreed.its.text)) its_key)
        ∙ ap (λ (a : Result PostReply PostError). let n : StepNotes = record quiet { opens = Some (token_note before.key is_agreed.its.protected is_agreed.its.iv is_agreed.its.text); drawn = nonce_of_post a; refused = refusal_of_post a; holder = post.holder } in n) answer.1
        ∙ ap (λ (d : List ℕ). let n : StepNotes = record quiet { opens = Some (token_note before.key is_agreed.its.protected is_agreed.its.iv is_agreed.its.text); drawn = Some d; holder = post.holder } in n) answer.2
        ∙ ap (λ (t : List ℕ). let n : StepNotes = record quiet { opens = Some (token_note before.key is_agreed.its.protected is_agreed.its.iv t); drawn = Some (nonce_drawn draw); holder = post.holder } in n) its_text
        ∙ ap (λ (h : Option (List ℕ)). let n : StepNotes = record quiet { opens = Some (token_note before.key is_agreed.its.protected is_agreed.its.iv text); drawn = Some (nonce_drawn draw); holder = h } in n) is_agreed.holder;
  }

-- what a server notes of it, whichever way the post came
pub answer_notes : (is_sealing : Sealings) (laws : TokenLaws is_sealing)
    (server agreed : Server) (came : Arrival Message) (step : Step) (claims : Claims) (entries : List Entry) (holder : ClientDesk) (nonce1 : List ℕ) (client_id : ℕ)
    (key : List ℕ) → IsWelcomeUnder (is_sealing EightByteTag) key server.desk (standing_of server came.at) claims entries holder → length nonce1 ≡ 8
    → known claims.material.id nonce1 (client_id ∷ []) server.desk.table ≡ None
    → came.what.payload ≡ payload_of (item_spelling (post_item holder.token nonce1 (client_id ∷ [])))
    → AnswersPost is_sealing server came step agreed
    → AreNotesOfAgreement key (claims_text claims) came.draw step.notes
answer_notes is_sealing laws server agreed came step claims entries holder nonce1 client_id key welcome size unknown payload it =
    let body : List ℕ = item_spelling (post_item holder.token nonce1 (client_id ∷ [])) in
    let bytes : unwrap_or came.what.payload [] ≡ body = ap (λ (p : Option (List ℕ)). unwrap_or p []) payload ∙ payload_again body in
    let posts : Posts (is_sealing EightByteTag) server.desk (record { on = standing_of server came.at; body = body; draw = came.draw }) it.post agreed.desk =
    subst (λ (b : List ℕ). Posts (is_sealing EightByteTag) server.desk (record { on = standing_of server came.at; body = b; draw = came.draw }) it.post agreed.desk) bytes it.posts in
    let its_post = laws.written holder.token nonce1 (client_id ∷ []) welcome.welcome.holds.token_size (omega (arith, size)) (omega (arith, size)) (omega arith) in
    let under =
    posts_under (is_sealing EightByteTag) key server.desk agreed.desk (record { on = standing_of server came.at; body = body; draw = came.draw }) it.post holder.token welcome.opens
    (λ other nonces ids its. (laws.one_post body holder.token nonce1 (client_id ∷ []) other nonces ids its_post its).0) posts in
    let notes =
    post_notes is_sealing laws (with_key key server.desk) (with_key key agreed.desk) (standing_of server came.at) came.draw it.post claims entries holder nonce1 client_id welcome.welcome size unknown under in
    record { protected = notes.protected; iv = notes.iv; id = notes.id; is = ap (λ (s : Step). s.notes) it.sent.sent ∙ notes.is }

-- ---- what went out

abbrev first_bytes : List Datagram → List ℕ
first_bytes [] = []
first_bytes (one ∷ out) = one.bytes

sends_one : (to : Peer) (message : Message) → [] ≡ datagram to message ∷ [] → ⊥
sends_one to message e = cc

-- ---- client and server

module _ (is_sealing : Sealings)
    (one_reception : (bytes : List ℕ) (a b : Received) → Receives bytes a → Receives bytes b → a ≡ b)
    (client begun : Client) (server agreed : Server) (asked_at now : Moment) (draw server_draw : Draw) (at server_at : Peer) (sent : Message) (first second : Step)
    (lawful : IsLawfulClient begun) (straight : IsStraight client server now draw at server_at)
    (exchanges : Exchanges client asked_at draw first begun) (out : first.out ≡ datagram client.next_hop sent ∷ [])
    (hears : ServerHears is_sealing server (coming now at server_draw sent) second agreed) where
  abbrev body : List ℕ
  body = item_spelling (post_item client.desk.token (nonce_drawn draw) ((begun_by client draw).recipient_id ∷ []))

  abbrev id : ℕ
  id = own_id draw client.endpoint.next_id

  abbrev message : Message
  message = post_with id (token_drawn draw) body

  message_is : post_by client draw ≡ message
  message_is = ap (λ (origin : Option HostAndPort). through origin message) straight.direct

  -- what goes out is the post, and the client drew a nonce
  record HasPosted : Type 0 where
    notes : first.notes ≡ record quiet { drawn = Some (nonce_drawn draw) }
    size : 16 ≤ length draw.0
    bytes : spelling sent ≡ spelling message
    spelled : Spells (spelling message) message
    short : length (spelling message) ≤ longest_message

  posting_so : Exchanges client asked_at draw first begun → HasPosted
  posting_so (busy waits refused) = absurd (sends_one client.next_hop sent (sym (ap (λ (s : Step). s.out) refused.told) ∙ out))
  posting_so (sending.Exchanges.too_long idle long refused) = absurd (sends_one client.next_hop sent (sym (ap (λ (s : Step). s.out) refused.told) ∙ out))
  posting_so (begins idle short spelled told kept) = record {
    notes = ap (λ (s : Step). s.notes) told;
    size = drawn_size client begun asked_at draw (post_by client draw) (Exchange (begun_by client draw)) lawful kept;
    bytes = sym (ap first_bytes (sym (ap (λ (s : Step). s.out) told) ∙ out)) ∙ ap spelling message_is;
    spelled = subst (λ (m : Message). Spells (spelling m) m) message_is spelled;
    short = subst (λ (m : Message). length (spelling m) ≤ longest_message) message_is short;
  }

  posting : HasPosted
  posting = posting_so exchanges

  -- and the server answers it
  abbrev came : Arrival Message
  came = record { at = now; from = at; draw = server_draw; what = message }

  answers : AnswersPost is_sealing server came second agreed
  answers =
      let it : ServerHears is_sealing server (in_bytes came) second agreed =
      subst (λ (b : List ℕ). ServerHears is_sealing server (read_as came b) second agreed) posting.bytes hears in
      let sendable : IsCarried message = record { lawful = posting.spelled.lawful; short = posting.short } in
      let as_it : it.received ≡ received.Message message = received_as one_reception message it.received sendable it.receives in
      let heard_is : heard server.endpoint.seen now at it.received ≡ heard_as.Message message =
      ap (λ (r : Received). heard server.endpoint.seen now at r) as_it
      ∙ heard_post None server.endpoint.seen now at id (token_drawn draw) body straight.unheard in
      let so : ServerAnswersNew is_sealing server came (server_case server.open_scope message) second agreed =
      subst (λ (h : Heard). ServerAnswers is_sealing server (in_bytes came) h second agreed) heard_is it.answers in
      subst (λ (k : ServerCase). ServerAnswersNew is_sealing server came k second agreed) (case_post server.open_scope None id (token_drawn draw) body tt) so

  -- of what the server heard from there only the post is new
  pub exchange_heard : (later : Moment) (other : ℕ) → other ≢ own_id draw client.endpoint.next_id → looked later at other server.endpoint.seen ≡ None
      → looked later at other agreed.endpoint.seen ≡ None
  exchange_heard later other isnt unheard =
      ap (λ (s : Server). looked later at other s.endpoint.seen) answers.sent.kept ∙ still_unheard now later at at id other _ server.endpoint.seen isnt unheard

  module _ (laws : TokenLaws is_sealing) (claims : Claims) (entries : List Entry) (may : MayExchange is_sealing client server now draw claims entries) where
    pub exchange_notes : (made : StepNotes) → made ≡ record quiet { result = Some result.Made }
        → AreNotesOfExchange may.token_key (claims_text claims) (record { client = draw; server = server_draw }) first.notes second.notes made
    exchange_notes made is =
        let nonce_size : length (nonce_drawn draw) ≡ 8 = omega (arith, length-take 8 draw.0, posting.size) in
        record {
          begun_is = posting.notes;
          agreed_is =
              answer_notes is_sealing laws server agreed came second claims entries client.desk (nonce_drawn draw) (begun_by client draw).recipient_id may.token_key may.welcome
              nonce_size may.makes.unknown refl answers;
          made_is = is;
        }
