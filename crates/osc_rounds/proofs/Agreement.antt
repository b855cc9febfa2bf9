-- A post to authz-info is agreed to, and the answer makes a context at the client, whatever way both go.
use Rattle.std.proofs.Common.{◌≡◌, ◌∙◌, sym, ap, subst, refl, ℕ, zero, suc, ◌^◌, ◌<◌, ◌≤◌, Bool, true, false, List, [], ◌∷◌, ◌++◌, length, Option, Some, None, Result, Ok, unwrap_or, codes, arith, ◌+◌, ◌/◌}
use Rattle.std.specs.Prelude.{IfSome}
use Rattle.std.specs.Str.{IsAscii, is_utf8}
use Rattle.std.proofs.lemmas.Bool.{le-leb}
use Rattle.std.proofs.lemmas.List.{length-take}
use Rattle.std.proofs.lemmas.Str.{IsUtf8-from_ascii, is_utf8-from_IsUtf8}
use Rattle.std.proofs.lemmas.Str.Ascii.{IsAscii-nil}
use Rattle.std.proofs.lemmas.Option.{same_Some}
use Rattle.osc_model.specs.{read_as, code, nonce_drawn, HasBegun, IsNotOver, quiet, revocation_of, stands, same_peer}
use Rattle.osc_model.specs.Arrival.{Arrival}
use Rattle.osc_model.specs.Scope.{Scope}
use Rattle.osc_model.specs.declared.algorithm.Algorithm.TheVariants.{EightByteTag}
use Rattle.osc_model.specs.declared.node.Draw.{Draw}
use Rattle.osc_model.specs.declared.node.Moment.{Moment}
use Rattle.osc_model.specs.declared.node.Peer.{Peer}
use Rattle.osc_model.specs.declared.step.ClientResult.TheVariants as result
use Rattle.osc_model.specs.declared.step.Step.{Step}
use Rattle.osc_cbor.specs.{spelling as item_spelling}
use Rattle.osc_coap.specs.{payload_of, spelled_length, HasSpelling, NumberAndValue, spelling}
use Rattle.osc_coap.specs.Message.{Message}
use Rattle.osc_coap.specs.declared.kind.Kind.{Kind}
use Rattle.osc_coap.specs.declared.kind.Kind.TheVariants.{Acknowledgement, Confirmable}
use Rattle.osc_options.specs.{has_oscore}
use Rattle.osc_dedup.specs.{Entry as Noted, looked}
use Rattle.osc_message.specs.{EndpointState, heard, Receives, acknowledgement, datagram, sent_to}
use Rattle.osc_message.specs.declared.heard.Heard.{Heard}
use Rattle.osc_message.specs.declared.heard.Heard.TheVariants as heard_as
use Rattle.osc_message.specs.declared.received.Received.{Received}
use Rattle.osc_message.specs.declared.received.Received.TheVariants as received
use Rattle.osc_ccm.specs.{Sealings}
use Rattle.osc_protect.specs.{HasShortContext}
use Rattle.osc_scope.specs.{Entry, scope_of}
use Rattle.osc_token.specs.{HasLawfulParts}
use Rattle.osc_token.specs.declared.claims.Claims.{Claims}
use Rattle.osc_authz.specs.{ClientContextState, Finishes, end_of, known, DeskState, answer_item, post_item, In, IsPost, Posts, IsLawfulContext, contexts, IsWelcome}
use Rattle.osc_authz.specs.Begun.{Begun}
use Rattle.osc_authz.specs.SecurityContext.{SecurityContext}
use Rattle.osc_authz.specs.Standing.{Standing}
use Rattle.osc_authz.specs.HoldsToken.{HoldsToken}
use Rattle.osc_authz.specs.declared.error.FinishError.{FinishError}
use Rattle.osc_authz.specs.declared.error.PostError.{PostError}
use Rattle.osc_authz.specs.declared.granted.ClientDesk.{ClientDesk}
use Rattle.osc_authz.specs.declared.post.Post.{Post}
use Rattle.osc_authz.specs.declared.post.PostAnswer.{PostAnswer}
use Rattle.osc_authz.specs.declared.post.PostReply.{PostReply}
use Rattle.osc_authz.specs.declared.post.PostReply.TheVariants.{New}
use Rattle.osc_server.specs.{standing_of, case_of as server_case, Hears as ServerHears, Answers as ServerAnswers, AnswersNew as ServerAnswersNew, AnswersPost, post_reply, reply_to}
use Rattle.osc_server.specs.State.{State as Server}
use Rattle.osc_server.specs.declared.case.RequestCase.{RequestCase as ServerCase}
use Rattle.osc_server.specs.declared.case.RequestCase.TheVariants.{Posted}
use Rattle.osc_client.specs.{Comes, ExchangeComes, context_after, ended_by, notes_of, waits_after, case_of as client_case, Hears as ClientHears, post_with, Answers as ClientAnswers, AnswersNew as ClientAnswersNew, Counts, IsHost}
use Rattle.osc_client.specs.Answering as comes
use Rattle.osc_client.specs.State.{State as Client}
use Rattle.osc_client.specs.declared.answering.AnswerEffect.{AnswerEffect}
use Rattle.osc_client.specs.declared.case.ResponseCase.{ResponseCase as ClientCase}
use Rattle.osc_client.specs.declared.case.ResponseCase.TheVariants.{Counted}
use Rattle.osc_client.specs.declared.waiting.Awaited.{Awaited}
use Rattle.osc_client.specs.declared.waiting.Awaited.TheVariants.{Exchange}
use Rattle.osc_client.specs.declared.waiting.Waiting.{Waiting}
use Rattle.osc_rounds.specs.{AwaitsAgreement, AwaitsPost, BegunExchange, IsAgreedTo, agreement, body_of, posted, in_bytes, IsHeld, with_key}
use Rattle.osc_proxy.specs.{IsCarried}
use Rattle.osc_rounds.proofs.Accepting.{same_bytes, same_number}
use Rattle.osc_rounds.proofs.Asking.{received_as}
use Rattle.osc_rounds.proofs.OldKey.{posts_under}
use Rattle.osc_rounds.proofs.Sendable.{payload_most, some_payload}

-- ---- the post at the server

-- a Uri-Host, where the post came through a proxy
abbrev pub host_options : Option (List ℕ) → List NumberAndValue
host_options None = []
host_options (Some host) = (3, host) ∷ []

-- the post, as it comes to the server
abbrev pub post_to : Option (List ℕ) → ℕ → List ℕ → List ℕ → Message
post_to host id token body = record (post_with id token body) { options = host_options host ++ (post_with id token body).options }

abbrev pub AreLawful : Option (List ℕ) → Type 0
AreLawful host = IfSome host (λ h. IsHost h)

pub post_lawful : (host : Option (List ℕ)) (id : ℕ) (token body : List ℕ) → AreLawful host → id < 2 ^ 16 → length token ≤ 8 → HasSpelling (post_to host id token body)
post_lawful None id token body lawful small short = record {
  id = small;
  token = short;
  options = (record { rises = omega arith; number = omega arith; size = omega arith }, (record { rises = omega arith; number = omega arith; size = omega arith }, tt));
  payload = some_payload body;
  empty = λ none. absurd (omega (arith, none));
}
post_lawful (Some host) id token body lawful small short = record {
  id = small;
  token = short;
  options = (
    record { rises = omega arith; number = omega arith; size = omega (arith, lawful.1) },
    (record { rises = omega arith; number = omega arith; size = omega arith }, (record { rises = omega arith; number = omega arith; size = omega arith }, tt)),
  );
  payload = some_payload body;
  empty = λ none. absurd (omega (arith, none));
}

pub heard_post : (host : Option (List ℕ)) (seen : List Noted) (now : Moment) (from : Peer) (id : ℕ) (token body : List ℕ) → looked now from id seen ≡ None
    → heard seen now from (received.Message (post_to host id token body)) ≡ heard_as.Message (post_to host id token body)
heard_post host seen now from id token body unheard = rw unheard refl

abbrev AreSmall : List ℕ → Type 0
AreSmall [] = Unit {0}
AreSmall (b ∷ bytes) = (b < 128) × AreSmall bytes

small_ascii : (bytes : List ℕ) → AreSmall bytes → IsAscii bytes
small_ascii [] small i = IsAscii-nil i
small_ascii (b ∷ bytes) small zero = small.0
small_ascii (b ∷ bytes) small (suc i) = small_ascii bytes small.1 i

name_is_ascii : IsAscii (codes "authz-info")
name_is_ascii =
    small_ascii (codes "authz-info")
    (omega arith, (omega arith, (omega arith, (omega arith, (omega arith, (omega arith, (omega arith, (omega arith, (omega arith, (omega arith, tt))))))))))

name_is_text : is_utf8 (codes "authz-info") ≡ true
name_is_text = is_utf8-from_IsUtf8 (codes "authz-info") (IsUtf8-from_ascii (codes "authz-info") name_is_ascii)

pub case_post : (open_scope : Scope) (host : Option (List ℕ)) (id : ℕ) (token body : List ℕ) → AreLawful host
    → server_case open_scope (post_to host id token body) ≡ Posted
case_post open_scope None id token body lawful = rw name_is_text refl
case_post open_scope (Some host) id token body lawful = rw (le-leb 1 (length host) lawful.0, le-leb (length host) 255 lawful.1, name_is_text) refl

pub payload_again : (bytes : List ℕ) → unwrap_or (payload_of bytes) [] ≡ bytes
payload_again [] = refl
payload_again (b ∷ bytes) = refl

-- ---- the answer at the client

-- the client hears it as a message that counts for what waits
pub record IsCounted (next_hop from : Peer) (waiting : Waiting) (seen : List Noted) (now : Moment) (message : Message) : Type 0 where
  pub heard_so : heard seen now from (received.Message message) ≡ heard_as.Message message
  pub counts : client_case next_hop from (Some waiting) message ≡ Counted

-- in the acknowledgement of the post
case_acknowledged : (next_hop from : Peer) (waiting : Waiting) (id : ℕ) (token : List ℕ) (answer : PostAnswer)
    → same_peer next_hop from ≡ true → waiting.id ≡ id → waiting.token ≡ token
    → client_case next_hop from (Some waiting) (agreement Acknowledgement id token answer) ≡ Counted
case_acknowledged next_hop from waiting id token answer peer same_id same_token = rw (peer, same_id, same_token, same_bytes token, same_number id) refl

pub counts_acknowledged : (next_hop from : Peer) (waiting : Waiting) (seen : List Noted) (now : Moment) (id : ℕ) (token : List ℕ) (answer : PostAnswer)
    → same_peer next_hop from ≡ true → waiting.id ≡ id → waiting.token ≡ token
    → IsCounted next_hop from waiting seen now (agreement Acknowledgement id token answer)
counts_acknowledged next_hop from waiting seen now id token answer peer same_id same_token = record {
  heard_so = refl;
  counts = case_acknowledged next_hop from waiting id token answer peer same_id same_token;
}

-- in a confirmable message
heard_confirmable : (from : Peer) (seen : List Noted) (now : Moment) (id : ℕ) (token : List ℕ) (answer : PostAnswer) → looked now from id seen ≡ None
    → heard seen now from (received.Message (agreement Confirmable id token answer)) ≡ heard_as.Message (agreement Confirmable id token answer)
heard_confirmable from seen now id token answer unheard = rw unheard refl

case_confirmable : (next_hop from : Peer) (waiting : Waiting) (id : ℕ) (token : List ℕ) (answer : PostAnswer)
    → same_peer next_hop from ≡ true → waiting.token ≡ token
    → client_case next_hop from (Some waiting) (agreement Confirmable id token answer) ≡ Counted
case_confirmable next_hop from waiting id token answer peer same_token = rw (peer, same_token, same_bytes token) refl

pub counts_confirmable : (next_hop from : Peer) (waiting : Waiting) (seen : List Noted) (now : Moment) (id : ℕ) (token : List ℕ) (answer : PostAnswer)
    → same_peer next_hop from ≡ true → looked now from id seen ≡ None → waiting.token ≡ token
    → IsCounted next_hop from waiting seen now (agreement Confirmable id token answer)
counts_confirmable next_hop from waiting seen now id token answer peer unheard same_token = record {
  heard_so = heard_confirmable from seen now id token answer unheard;
  counts = case_confirmable next_hop from waiting id token answer peer same_token;
}

abbrev pub made_of : SecurityContext → ClientContextState
made_of held = record { name = held.name; next = 0 }

both_ways : (b : Bool) → b ≡ true → b ≡ false → ⊥
both_ways b is isnt = cc

-- the client's end of an exchange, once it is over by this message
pub record IsEnded (old : Client) (from : Peer) (response : Message) (held : SecurityContext) (step : Step) (new : Client) : Type 0 where
  pub told : step ≡ record { out = sent_to from (acknowledgement response); notes = record quiet { result = Some result.Made } }
  pub kept : new ≡ record old { context = Some (made_of held); waiting = None; endpoint = new.endpoint }

-- ---- the laws below

module _ (is_sealing : Sealings) where
  pub record ExchangeLaws : Type 0 where
    pub itself : (a : Peer) → same_peer a a ≡ true
    pub one_reception : (bytes : List ℕ) (a b : Received) → Receives bytes a → Receives bytes b → a ≡ b
    pub spelled_length : (m : Message) → length (spelling m) ≡ spelled_length m
    pub written : (token nonce1 client_id : List ℕ) → length token < 2 ^ 64 → 1 ≤ length nonce1 → length nonce1 ≤ 64 → length client_id ≤ 7
        → IsPost (item_spelling (post_item token nonce1 client_id)) token nonce1 client_id
    pub one_post : (body token nonce1 client_id others nonces ids : List ℕ) → IsPost body token nonce1 client_id → IsPost body others nonces ids
        → (token ≡ others) × (nonce1 ≡ nonces) × (client_id ≡ ids)
    pub answer_length : (nonce2 : List ℕ) (id : ℕ) → length nonce2 ≡ 8 → length (item_spelling (answer_item nonce2 (id ∷ []))) ≡ 16
    pub welcome : (before after : DeskState) (on : Standing) (draw : Draw) (post : Post) (claims : Claims) (entries : List Entry) (holder : ClientDesk) (nonce1 : List ℕ) (id : ℕ)
        → IsWelcome (is_sealing EightByteTag) before on claims entries holder → length nonce1 ≡ 8
        → known claims.material.id nonce1 (id ∷ []) before.table ≡ None
        → Posts (is_sealing EightByteTag) before (record { on = on; body = item_spelling (post_item holder.token nonce1 (id ∷ [])); draw = draw }) post after
        → (answer : PostAnswer) × (post.answer ≡ Ok (New answer)) × (answer.nonce2 ≡ nonce_drawn draw)
    pub one_name : (before after : DeskState) (on : Standing) (draw : Draw) (post : Post) (answer : PostAnswer)
        (claims : Claims) (entries : List Entry) (client : ClientDesk) (begun : Begun) (finished : Result ClientContextState FinishError)
        → length draw.0 ≡ 32 → length begun.nonce1 ≡ 8 → HoldsToken (is_sealing EightByteTag) before.key claims entries client
        → Posts (is_sealing EightByteTag) before (record { on = on; body = item_spelling (post_item client.token begun.nonce1 (begun.recipient_id ∷ [])); draw = draw }) post after
        → post.answer ≡ Ok (New answer)
        → Finishes client begun (code 2 1) (item_spelling (answer_item answer.nonce2 (answer.recipient_id ∷ []))) finished
        → (held : SecurityContext) × In held (contexts after.table) × (held.scope ≡ scope_of entries)
        × (held.not_before ≡ claims.not_before) × (held.expires ≡ claims.expires)
        × (held.revocation ≡ revocation_of before.rules.revoked claims.material.id)
        × (held.ends ≡ end_of before.rules.seconds on.at)
        × (finished ≡ Ok (record { name = held.name; next = 0 }))
        × (held.window ≡ []) × IsLawfulContext held × (HasLawfulParts claims → HasShortContext held.name)

-- ---- under the key that opens the token

module _ (is_sealing : Sealings) (laws : ExchangeLaws is_sealing)
    (server : Server) (came : Arrival Message) (exchange : BegunExchange) (awaits : AwaitsPost is_sealing server came exchange) where
  pub posts_under_it : (post : Post) (after : DeskState) → Posts (is_sealing EightByteTag) server.desk (posted server.tree exchange came) post after
      → Posts (is_sealing EightByteTag) (with_key awaits.token_key server.desk) (posted server.tree exchange came) post (with_key awaits.token_key after)
  posts_under_it post after posts =
      let ids = exchange.begun.recipient_id ∷ [] in
      let is_post =
      laws.written exchange.holder.token exchange.begun.nonce1 ids awaits.welcome.welcome.holds.token_size (omega (arith, awaits.nonce)) (omega (arith, awaits.nonce)) (omega arith) in
      posts_under (is_sealing EightByteTag) awaits.token_key server.desk after (posted server.tree exchange came) post exchange.holder.token awaits.welcome.opens
      (λ other nonce1 client_id its. (laws.one_post (body_of exchange.holder exchange.begun) exchange.holder.token exchange.begun.nonce1 ids other nonce1 client_id is_post its).0)
      posts

-- ---- the server agrees

module _ (is_sealing : Sealings) (laws : ExchangeLaws is_sealing)
    (server : Server) (came : Arrival Message) (exchange : BegunExchange) (awaits : AwaitsPost is_sealing server came exchange)
    (host : Option (List ℕ)) (lawful : AreLawful host)
    (is_post : came.what ≡ post_to host came.what.id came.what.token (body_of exchange.holder exchange.begun)) (step : Step) (new : Server) where
  abbrev body : List ℕ
  body = body_of exchange.holder exchange.begun

  abbrev id : ℕ
  id = came.what.id

  abbrev token : List ℕ
  token = came.what.token

  agreed_to : AnswersPost is_sealing server (read_as came (post_to host id token body)) step new → IsAgreedTo is_sealing server came exchange step new
  agreed_to it =
      let posts : Posts (is_sealing EightByteTag) server.desk (posted server.tree exchange came) it.post new.desk =
      subst (λ (bytes : List ℕ). Posts (is_sealing EightByteTag) server.desk (record { on = standing_of server came.at; body = bytes; draw = came.draw }) it.post new.desk) (payload_again body) it.posts in
      let answered =
      laws.welcome (with_key awaits.token_key server.desk) (with_key awaits.token_key new.desk) (standing_of server came.at) came.draw it.post exchange.claims exchange.entries exchange.holder
      exchange.begun.nonce1 exchange.begun.recipient_id awaits.welcome.welcome awaits.nonce awaits.makes.unknown (posts_under_it is_sealing laws server came exchange awaits it.post new.desk posts) in
      let reply_is : reply_to server.endpoint (read_as came (post_to host id token body)) (post_reply it.post.answer) ≡ agreement Acknowledgement id token answered.0 =
      ap (λ (a : Result PostReply PostError). reply_to server.endpoint (read_as came (post_to host id token body)) (post_reply a)) answered.1 in
      record {
        answer = answered.0;
        post = it.post;
        posts = posts;
        agrees = answered.1;
        nonce = answered.2;
        out = ap (λ (s : Step). s.out) it.sent.sent ∙ ap (λ (m : Message). datagram came.from m ∷ []) reply_is;
        notes = ap (λ (s : Step). s.notes) it.sent.sent;
        tree = ap (λ (s : Server). s.tree) it.sent.kept;
      }

  pub hears_post : IsCarried came.what → ServerHears is_sealing server (in_bytes came) step new → IsAgreedTo is_sealing server came exchange step new
  hears_post sendable hears =
      let message = post_to host id token body in
      let as_it : hears.received ≡ received.Message message =
      received_as laws.one_reception came.what hears.received sendable hears.receives ∙ ap received.Message is_post in
      let heard_is : heard server.endpoint.seen came.at came.from hears.received ≡ heard_as.Message message =
      ap (λ (r : Received). heard server.endpoint.seen came.at came.from r) as_it
      ∙ heard_post host server.endpoint.seen came.at came.from id token body awaits.unheard in
      let so : ServerAnswersNew is_sealing server (read_as came message) (server_case server.open_scope message) step new =
      subst (λ (h : Heard). ServerAnswers is_sealing server (in_bytes came) h step new) heard_is hears.answers in
      agreed_to (subst (λ (k : ServerCase). ServerAnswersNew is_sealing server (read_as came message) k step new) (case_post server.open_scope host id token body lawful) so)

-- ---- the client has a context

-- a context that counts for a while counts at first
lasts : (now : Moment) (age : Option ℕ) → IfSome age (λ seconds. 0 < seconds) → IsNotOver (end_of age now) now
lasts now None some = λ end is. absurd (cc)
lasts now (Some seconds) some = λ end is. let same : now.ms / 1000 + seconds ≡ end = cc in omega (arith, same, some)

module _ (is_sealing : Sealings) (laws : ExchangeLaws is_sealing)
    (server : Server) (came : Arrival Message) (exchange : BegunExchange) (awaits : AwaitsPost is_sealing server came exchange)
    (step : Step) (agreed : Server) (size : length came.draw.0 ≡ 32)
    (is : IsAgreedTo is_sealing server came exchange step agreed) where
  abbrev now : Moment
  now = came.at

  abbrev entries : List Entry
  entries = exchange.entries

  abbrev holder : ClientDesk
  holder = exchange.holder

  abbrev its : Begun
  its = exchange.begun

  nonce2_size : length is.answer.nonce2 ≡ 8
  nonce2_size = omega (arith, ap (λ (n : List ℕ). length n) is.nonce, length-take 8 came.draw.0, size)

  -- the answer is a message that a datagram can carry, whatever way it goes
  pub agreement_sendable : (kind : Kind) (to : ℕ) (under : List ℕ) → to < 2 ^ 16 → length under ≤ 8 → IsCarried (agreement kind to under is.answer)
  agreement_sendable kind to under small short = record {
    lawful = record {
      id = small;
      token = short;
      options = (record { rises = omega arith; number = omega arith; size = omega arith }, tt);
      payload = some_payload (item_spelling (answer_item is.answer.nonce2 (is.answer.recipient_id ∷ [])));
      empty = λ none. absurd (omega (arith, none));
    };
    short = omega (
      arith,
      laws.spelled_length (agreement kind to under is.answer),
      short,
      payload_most (item_spelling (answer_item is.answer.nonce2 (is.answer.recipient_id ∷ []))),
      laws.answer_length is.answer.nonce2 is.answer.recipient_id nonce2_size,
    );
  }

  finishes : (finished : Result ClientContextState FinishError)
      → Finishes holder its (code 2 1) (item_spelling (answer_item is.answer.nonce2 (is.answer.recipient_id ∷ []))) finished
      → (held : SecurityContext) × IsHeld agreed now entries held × (finished ≡ Ok (made_of held))
  finishes finished finish =
      let one =
      laws.one_name (with_key awaits.token_key server.desk) (with_key awaits.token_key agreed.desk) (standing_of server now) came.draw is.post is.answer exchange.claims entries holder its finished size awaits.nonce
      awaits.welcome.welcome.holds (posts_under_it is_sealing laws server came exchange awaits is.post agreed.desk is.posts) is.agrees finish in (
        one.0,
        record {
          here = one.1;
          live = record {
            begun = subst (λ (bound : Option ℕ). HasBegun bound now) (sym one.3) awaits.welcome.welcome.begun;
            not_over = subst (λ (bound : Option ℕ). IsNotOver bound now) (sym one.4) awaits.welcome.welcome.not_over;
            unrevoked = (λ i. stands (is.tree i) (one.5 i)) ∙ awaits.welcome.welcome.unrevoked;
            young = subst (λ (bound : Option ℕ). IsNotOver bound now) (sym one.6) (lasts now server.desk.rules.seconds awaits.makes.lasting);
          };
          scope = one.2;
          window = one.8;
          short = one.10 awaits.welcome.welcome.lawful;
        },
        one.7,
      )

  module _ (kind : Kind) (to : ℕ) (under : List ℕ) where
    abbrev response : Message
    response = agreement kind to under is.answer

    makes : (outcome : AnswerEffect) → ExchangeComes holder its response outcome
        → (held : SecurityContext) × IsHeld agreed now entries held × (outcome ≡ ended_by (Ok (made_of held)))
    makes outcome (comes.protected plain stays) = absurd (both_ways (has_oscore response.options) plain refl)
    makes outcome (comes.ExchangeComes.other plain error success stays) = absurd (both_ways false (sym success) refl)
    makes outcome (comes.ExchangeComes.failed plain error ends) = absurd (both_ways false error refl)
    makes outcome (comes.finished plain error success finish) =
        let payload = item_spelling (answer_item is.answer.nonce2 (is.answer.recipient_id ∷ [])) in
        let made = finishes finish.came (subst (λ (bytes : List ℕ). Finishes holder its (code 2 1) bytes finish.came) (payload_again payload) finish.finishes) in
        (made.0, made.1, finish.is ∙ ap ended_by made.2)

    module _ (old : Client) (later : Moment) (hop : Peer) (draw : Draw) (waits : AwaitsAgreement old hop holder its under) (third : Step) (after : Client) where
      abbrev back : Arrival Message
      back = record { at = later; from = hop; draw = draw; what = response }

      abbrev ending : AnswerEffect → Waiting → EndpointState → Client
      ending outcome waiting endpoint = record old { context = context_after outcome old.context; waiting = waits_after outcome waiting; endpoint = endpoint }

      kept_so : (outcome : AnswerEffect) (waiting : Waiting) (held : SecurityContext) (endpoint : EndpointState) → outcome ≡ ended_by (Ok (made_of held)) → after ≡ ending outcome waiting endpoint
          → after ≡ record old { context = Some (made_of held); waiting = None; endpoint = after.endpoint }
      kept_so outcome waiting held endpoint ends kept =
          kept
          ∙ ap (λ (e : EndpointState). ending outcome waiting e) (sym (ap (λ (c : Client). c.endpoint) kept))
          ∙ ap (λ (o : AnswerEffect). ending o waiting after.endpoint) ends

      counted : Counts is_sealing old back third after → (held : SecurityContext) × IsHeld agreed now entries held × IsEnded old hop response held third after
      counted it =
          let what_is : it.waiting.what ≡ Exchange its = ap (λ (w : Waiting). w.what) (same_Some it.waiting waits.waiting (sym it.waits ∙ waits.waits)) ∙ waits.exchange in
          let comes_to : ExchangeComes old.desk its response it.outcome = subst (λ (w : Awaited). Comes is_sealing old.desk old.context w response it.outcome) what_is it.comes in
          let made = makes it.outcome (subst (λ (d : ClientDesk). ExchangeComes d its response it.outcome) waits.desk comes_to) in (
            made.0,
            made.1,
            record {
              told = it.told ∙ ap (λ (o : AnswerEffect). let s : Step = record { out = sent_to hop (acknowledgement response); notes = notes_of o } in s) made.2;
              kept = kept_so it.outcome it.waiting made.0 _ made.2 it.kept;
            },
          )

      pub hears_agreement : IsCarried response
          → IsCounted old.next_hop hop waits.waiting old.endpoint.seen later response
          → ClientHears is_sealing old (in_bytes back) third after
          → (held : SecurityContext) × IsHeld agreed now entries held × IsEnded old hop response held third after
      hears_agreement sendable is hears =
          let as_it : hears.received ≡ received.Message response = received_as laws.one_reception response hears.received sendable hears.receives in
          let heard_is : heard old.endpoint.seen later hop hears.received ≡ heard_as.Message response =
          ap (λ (r : Received). heard old.endpoint.seen later hop r) as_it ∙ is.heard_so in
          let case_is : client_case old.next_hop hop old.waiting response ≡ Counted =
          ap (λ (w : Option Waiting). client_case old.next_hop hop w response) waits.waits ∙ is.counts in
          let so : ClientAnswersNew is_sealing old back (client_case old.next_hop hop old.waiting response) third after =
          subst (λ (h : Heard). ClientAnswers is_sealing old (in_bytes back) h third after) heard_is hears.answers in
          counted (subst (λ (k : ClientCase). ClientAnswersNew is_sealing old back k third after) case_is so)
