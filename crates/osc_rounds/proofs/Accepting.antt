-- A protected reply to what a client asked is its answer.
use Rattle.std.proofs.Common.{◌≡◌, ◌∙◌, sym, ap, subst, refl, ℕ, ◌<◌, ◌≤◌, Bool, true, false, List, [], ◌∷◌, length, Option, Some, None}
use Rattle.std.specs.Prelude.{IfSome, bytes_eq, nat_eq}
use Rattle.std.proofs.lemmas.Bool.{eq-eqb}
use Rattle.std.proofs.lemmas.Option.{same_Some}
use Rattle.std.proofs.lemmas.Slice.Eq.{bytes_eq-Decides}
use Rattle.osc_model.specs.Arrival.{Arrival}
use Rattle.osc_model.specs.declared.context.ContextName.{ContextName}
use Rattle.osc_model.specs.declared.context.Side.TheVariants as side
use Rattle.osc_model.specs.declared.node.Moment.{Moment}
use Rattle.osc_model.specs.declared.node.Peer.{Peer}
use Rattle.osc_model.specs.declared.reply.Reply.{Reply}
use Rattle.osc_model.specs.declared.step.Step.{Step}
use Rattle.osc_coap.specs.{NumberAndValue, SpellsPlaintext, HasPlaintextSpelling, plaintext_spelling}
use Rattle.osc_coap.specs.Message.{Message}
use Rattle.osc_coap.specs.Plaintext.{Plaintext}
use Rattle.osc_coap.specs.declared.kind.Kind.TheVariants.{Acknowledgement, Confirmable}
use Rattle.osc_options.specs.{reply_in, reply_plaintext, value, has_oscore, outer_options, plaintext_of, protected, merge, IsReplyIn, IsWithinRanges, reply_text}
use Rattle.osc_dedup.specs.{Entry, looked}
use Rattle.osc_model.specs.{same_peer}
use Rattle.osc_message.specs.{heard, Receives, acknowledgement, sent_to}
use Rattle.osc_message.specs.declared.heard.Heard.{Heard}
use Rattle.osc_message.specs.declared.heard.Heard.TheVariants as heard_as
use Rattle.osc_message.specs.declared.received.Received.{Received}
use Rattle.osc_message.specs.declared.received.Received.TheVariants as received
use Rattle.osc_context.specs.{algorithm_of, key_of, greatest_number}
use Rattle.osc_protect.specs.{aad_of, IsProtectedResponse, IsResponse, SealedResponse, plain_bytes, response_nonce, response_value, Compressed, SpellsValue}
use Rattle.osc_ccm.specs.{Sealings}
use Rattle.osc_authz.specs.{ClientContextState}
use Rattle.osc_run.specs.{response_note}
use Rattle.osc_client.specs.{AskComes, Comes, IsSealedFor, context_after, notes_of, waits_after, case_of as client_case, Answers as ClientAnswers, AnswersNew as ClientAnswersNew, Counts, Hears as ClientHears}
use Rattle.osc_client.specs.Answering as comes
use Rattle.osc_client.specs.State.{State as Client}
use Rattle.osc_client.specs.declared.answering.AnswerEffect.{AnswerEffect}
use Rattle.osc_client.specs.declared.answering.AnswerEffect.TheVariants.{Answers}
use Rattle.osc_client.specs.declared.case.ResponseCase.{ResponseCase}
use Rattle.osc_client.specs.declared.case.ResponseCase.TheVariants.{Counted}
use Rattle.osc_client.specs.declared.waiting.Awaited.{Awaited}
use Rattle.osc_client.specs.declared.waiting.Awaited.TheVariants.{Ask}
use Rattle.osc_client.specs.declared.waiting.OpenAsk.{OpenAsk}
use Rattle.osc_client.specs.declared.waiting.Waiting.{Waiting}
use Rattle.osc_rounds.specs.{AnsweredRequest, AwaitsReply, CarriesReply, ComesBack, IsAnsweredWith, in_acknowledgement, in_confirmable, in_bytes}
use Rattle.osc_proxy.specs.{IsCarried}
use Rattle.osc_rounds.proofs.Asking.{received_as, one_option, in_place, payload_is}

module _ (is_sealing : Sealings) where
  pub record ReplyLaws : Type 0 where
    pub one_reception : (bytes : List ℕ) (a b : Received) → Receives bytes a → Receives bytes b → a ≡ b
    pub one_value : (bytes : List ℕ) (c d : Compressed) → SpellsValue bytes c → SpellsValue bytes d → c ≡ d
    pub option_nine : (m : Message) (code : ℕ) (bytes payload : List ℕ) → value 9 (protected m code bytes payload).options ≡ Some bytes
    pub value_short : length (response_value None) ≤ 255
    pub says : (name : ContextName) (number : ℕ) (own : Option ℕ) (m p : Message) → IfSome own (λ n. n ≤ greatest_number)
        → IsProtectedResponse is_sealing name number own m p
        → (response : SealedResponse) × IsResponse p response × (response.own ≡ own)
        × is_sealing (algorithm_of name) (key_of name side.Server) (response_nonce name number own) (aad_of name number) (plain_bytes m) response.sealed
        × ((text : List ℕ) → is_sealing (algorithm_of name) (key_of name side.Server) (response_nonce name number own) (aad_of name number) text response.sealed → text ≡ plain_bytes m)
    pub one_plaintext : (bytes : List ℕ) (p q : Plaintext) → SpellsPlaintext bytes p → SpellsPlaintext bytes q → p ≡ q
    pub spelled : (reply : Reply) → IfSome reply.etag (λ tag. length tag ≡ 8) → HasPlaintextSpelling (reply_plaintext reply)
    pub again : (reply : Reply) → 64 ≤ reply.code.0 → reply.code.0 < 192
        → IfSome reply.etag (λ tag. length tag ≡ 8) → IfSome reply.format (λ format. format < 65536)
        → reply_in (reply_plaintext reply) ≡ Some reply

-- ---- it counts

pub same_bytes : (bytes : List ℕ) → bytes_eq bytes bytes ≡ true
same_bytes bytes = (bytes_eq-Decides bytes bytes).1 refl

pub same_number : (n : ℕ) → nat_eq n n ≡ true
same_number n = eq-eqb n n refl

heard_in_acknowledgement : (seen : List Entry) (now : Moment) (from : Peer) (m : Message) (options : List NumberAndValue) (sealed : List ℕ)
    → m.kind ≡ Acknowledgement
    → heard seen now from (received.Message (in_place m 68 options sealed)) ≡ heard_as.Message (in_place m 68 options sealed)
heard_in_acknowledgement seen now from m options sealed kind = rw kind refl

heard_in_confirmable : (seen : List Entry) (now : Moment) (from : Peer) (m : Message) (options : List NumberAndValue) (sealed : List ℕ)
    → m.kind ≡ Confirmable → looked now from m.id seen ≡ None
    → heard seen now from (received.Message (in_place m 68 options sealed)) ≡ heard_as.Message (in_place m 68 options sealed)
heard_in_confirmable seen now from m options sealed kind unheard = rw (kind, unheard) refl

heard_as_message : (client : Client) (now : Moment) (from : Peer) (request m : Message) (options : List NumberAndValue) (sealed : List ℕ)
    → ComesBack client now from request m
    → heard client.endpoint.seen now from (received.Message (in_place m 68 options sealed)) ≡ heard_as.Message (in_place m 68 options sealed)
heard_as_message client now from request m options sealed (in_acknowledgement kind id) = heard_in_acknowledgement client.endpoint.seen now from m options sealed kind
heard_as_message client now from request m options sealed (in_confirmable kind unheard) =
    heard_in_confirmable client.endpoint.seen now from m options sealed kind unheard

counts_for : (client : Client) (now : Moment) (from : Peer) (waiting : Waiting) (request m : Message) (v sealed : List ℕ)
    → length v ≤ 255 → same_peer client.next_hop from ≡ true → ComesBack client now from request m → waiting.id ≡ request.id → waiting.token ≡ m.token
    → client_case client.next_hop from (Some waiting) (in_place m 68 ((9, v) ∷ []) sealed) ≡ Counted
counts_for client now from waiting request m v sealed short peer (in_acknowledgement kind id) sent token =
    rw (one_option v short, peer, kind, sent, id, token, same_bytes m.token, same_number request.id) refl
counts_for client now from waiting request m v sealed short peer (in_confirmable kind unheard) sent token =
    rw (one_option v short, peer, kind, token, same_bytes m.token) refl

reply_heard : (client : Client) (now : Moment) (from : Peer) (request m : Message) (v sealed : List ℕ) → ComesBack client now from request m
    → heard client.endpoint.seen now from (received.Message (protected m 68 v sealed)) ≡ heard_as.Message (protected m 68 v sealed)
reply_heard client now from request m v sealed comes =
    let options : List NumberAndValue = merge (outer_options m.options) ((9, v) ∷ []) in
    heard_as_message client now from request m options sealed comes

reply_case : (client : Client) (now : Moment) (from : Peer) (waiting : Waiting) (request m : Message) (v sealed : List ℕ)
    → outer_options m.options ≡ [] → length v ≤ 255 → same_peer client.next_hop from ≡ true → ComesBack client now from request m
    → waiting.id ≡ request.id → waiting.token ≡ m.token
    → client_case client.next_hop from (Some waiting) (protected m 68 v sealed) ≡ Counted
reply_case client now from waiting request m v sealed inside short peer comes id token =
    let options : merge (outer_options m.options) ((9, v) ∷ []) ≡ (9, v) ∷ [] = ap (λ (outer : List NumberAndValue). merge outer ((9, v) ∷ [])) inside in
    rw options (counts_for client now from waiting request m v sealed short peer comes id token)

protects : (m : Message) (v sealed : List ℕ) → outer_options m.options ≡ [] → has_oscore (protected m 68 v sealed).options ≡ true
protects m v sealed inside = rw inside refl

-- ---- what it says

both_ways : (b : Bool) → b ≡ true → b ≡ false → ⊥
both_ways b is isnt = cc

module _ (is_sealing : Sealings) (laws : ReplyLaws is_sealing)
    (name : ContextName) (number : ℕ) (m p : Message)
    (made : IsProtectedResponse is_sealing name number None m p) where
  abbrev said : SealedResponse
  said = record { own = None; sealed = made.sealed }

  value_is : value 9 p.options ≡ Some (response_value None)
  value_is = ap (λ (q : Message). value 9 q.options) made.whole ∙ laws.option_nine m 68 (response_value None) made.sealed

  abbrev nothing : Compressed
  nothing = record { partial_iv = None; kid_context = None; kid = None }

  spelled : SpellsValue (response_value None) nothing
  spelled = record { lawful = record { number = tt; kid_context = tt }; whole = refl }

  reads_as : (response : SealedResponse) → IsResponse p response → response ≡ said
  reads_as response is =
      let it : Compressed = record { partial_iv = response.own; kid_context = is.kid_context; kid = is.kid } in
      let bytes : is.bytes ≡ response_value None = same_Some is.bytes (response_value None) (sym is.option ∙ value_is) in
      let same : it ≡ nothing = laws.one_value (response_value None) it nothing (subst (λ (b : List ℕ). SpellsValue b it) bytes is.spelled) spelled in
      let payload : response.sealed ≡ made.sealed = payload_is made.sealed response.sealed (sym (ap (λ (q : Message). q.payload) made.whole) ∙ is.payload) in
      let own : response.own ≡ None = ap (λ (c : Compressed). c.partial_iv) same in
      ap (λ (o : Option ℕ). let r : SealedResponse = record { own = o; sealed = response.sealed } in r) own
      ∙ ap (λ (s : List ℕ). let r : SealedResponse = record { own = None; sealed = s } in r) payload

  reads : IsResponse p said
  reads =
      let it = laws.says name number None m p tt made in
      subst (IsResponse p) (reads_as it.0 it.1) it.1

  opens_once : (text : List ℕ) → is_sealing (algorithm_of name) (key_of name side.Server) (response_nonce name number None) (aad_of name number) text made.sealed → text ≡ plain_bytes m
  opens_once text is =
      let it = laws.says name number None m p tt made in
      let same : it.0.sealed ≡ made.sealed = ap (λ (r : SealedResponse). r.sealed) (reads_as it.0 it.1) in
      it.4 text (subst (λ (s : List ℕ). is_sealing (algorithm_of name) (key_of name side.Server) (response_nonce name number None) (aad_of name number) text s) (sym same) is)

  -- ---- it answers

  module _ (reply : Reply) (within : IsWithinRanges reply) (least : 64 ≤ reply.code.0) (most : reply.code.0 < 192)
      (plaintext : plaintext_of m ≡ reply_plaintext reply) (inside : outer_options m.options ≡ []) where
    text_is : plain_bytes m ≡ reply_text reply
    unfolding reply_text
    text_is = ap plaintext_spelling plaintext

    is_reply : IsReplyIn (reply_text reply) reply
    unfolding reply_text
    is_reply = record {
      plaintext = reply_plaintext reply;
      spelled = record { lawful = laws.spelled reply within.etag; whole = refl };
      says = laws.again reply least most within.etag within.format;
    }

    one_reply : (other : Reply) → IsReplyIn (reply_text reply) other → reply ≡ other
    one_reply other is =
        same_Some reply other
        (sym is_reply.says ∙ ap reply_in (laws.one_plaintext (reply_text reply) is_reply.plaintext is.plaintext is_reply.spelled is.spelled) ∙ is.says)

    is_protected : has_oscore p.options ≡ true
    is_protected = ap (λ (q : Message). has_oscore q.options) made.whole ∙ protects m (response_value None) made.sealed inside

    module _ (context : ClientContextState) (ask : OpenAsk) (name_is : context.name ≡ name) (number_is : ask.number ≡ number) where
      sealed_for : (response : SealedResponse) (text : List ℕ) → IsResponse p response → IsSealedFor is_sealing context ask response text
          → text ≡ reply_text reply
      sealed_for response text is sealed =
          let a : IsSealedFor is_sealing context ask said text = subst (λ (r : SealedResponse). IsSealedFor is_sealing context ask r text) (reads_as response is) sealed in
          let b : is_sealing (algorithm_of name) (key_of name side.Server) (response_nonce name ask.number None) (aad_of name ask.number) text made.sealed =
          subst (λ (n : ContextName). is_sealing (algorithm_of n) (key_of n side.Server) (response_nonce n ask.number None) (aad_of n ask.number) text made.sealed) name_is a in
          let c : is_sealing (algorithm_of name) (key_of name side.Server) (response_nonce name number None) (aad_of name number) text made.sealed =
          subst (λ (n : ℕ). is_sealing (algorithm_of name) (key_of name side.Server) (response_nonce name n None) (aad_of name n) text made.sealed) number_is b in
          opens_once text c ∙ text_is

      is_sealed_for : IsSealedFor is_sealing context ask said (plain_bytes m)
      is_sealed_for =
          subst (λ (n : ℕ). is_sealing (algorithm_of context.name) (key_of context.name side.Server) (response_nonce context.name n None) (aad_of context.name n) (plain_bytes m) made.sealed) (sym number_is)
          (subst (λ (n : ContextName). is_sealing (algorithm_of n) (key_of n side.Server) (response_nonce n number None) (aad_of n number) (plain_bytes m) made.sealed) (sym name_is) made.is_sealed)

      abbrev outcome_due : AnswerEffect
      outcome_due = Answers (response_note name number None (reply_text reply)) reply

      noted_as : (own : Option ℕ) (text : List ℕ) (other : Reply) → own ≡ None → text ≡ reply_text reply → reply ≡ other
          → let due : AnswerEffect = Answers (response_note context.name ask.number own text) other in due ≡ outcome_due
      noted_as own text other a b c =
          ap (λ (n : ContextName). let o : AnswerEffect = Answers (response_note n ask.number own text) other in o) name_is
          ∙ ap (λ (n : ℕ). let o : AnswerEffect = Answers (response_note name n own text) other in o) number_is
          ∙ ap (λ (x : Option ℕ). let o : AnswerEffect = Answers (response_note name number x text) other in o) a
          ∙ ap (λ (t : List ℕ). let o : AnswerEffect = Answers (response_note name number None t) other in o) b
          ∙ ap (λ (r : Reply). let o : AnswerEffect = Answers (response_note name number None (reply_text reply)) r in o) (sym c)

      answers_so : (outcome : AnswerEffect) → AskComes is_sealing context ask p outcome → outcome ≡ outcome_due
      answers_so outcome (comes.AskComes.failed plain error is) = absurd (both_ways (has_oscore p.options) is_protected plain)
      answers_so outcome (comes.AskComes.other plain error is) = absurd (both_ways (has_oscore p.options) is_protected plain)
      answers_so outcome (comes.AskComes.malformed plain none is) = absurd (none said reads)
      answers_so outcome (comes.AskComes.not_genuine response plain reading none is) =
          absurd (none (plain_bytes m) (subst (λ (r : SealedResponse). IsSealedFor is_sealing context ask r (plain_bytes m)) (sym (reads_as response reading)) is_sealed_for))
      answers_so outcome (comes.AskComes.no_response response text plain reading sealed none is) =
          absurd (none reply (subst (λ (t : List ℕ). IsReplyIn t reply) (sym (sealed_for response text reading sealed)) is_reply))
      answers_so outcome (comes.AskComes.answered response text other plain reading sealed says is) =
          let text_same : text ≡ reply_text reply = sealed_for response text reading sealed in
          let same : reply ≡ other = one_reply other (subst (λ (t : List ℕ). IsReplyIn t other) text_same says) in
          is ∙ noted_as response.own text other (ap (λ (r : SealedResponse). r.own) (reads_as response reading)) text_same same

-- ---- it comes to the client

module _ (is_sealing : Sealings) (laws : ReplyLaws is_sealing)
    (old : Client) (came : Arrival Message) (name : ContextName) (number : ℕ) (request m : Message) (reply : Reply) (step : Step) (new : Client)
    (awaits : AwaitsReply old came.from name number request) (carries : CarriesReply old came.at came.from request reply m)
    (made : IsProtectedResponse is_sealing name number None m came.what) where
  abbrev now : Moment
  now = came.at

  abbrev from : Peer
  from = came.from

  abbrev p : Message
  p = came.what

  abbrev ask : OpenAsk
  ask = record { number = number }

  abbrev context : ClientContextState
  context = record { name = name; next = awaits.next }

  abbrev due : AnswerEffect
  due = Answers (response_note name number None (reply_text reply)) reply

  abbrev request_answered : AnsweredRequest
  request_answered = record { name = name; number = number; reply = reply }

  counted : Counts is_sealing old came step new → IsAnsweredWith (sent_to from (acknowledgement p)) old request_answered step new
  counted it =
      let waiting_is : it.waiting ≡ awaits.waiting = same_Some it.waiting awaits.waiting (sym it.waits ∙ awaits.waits) in
      let what_is : it.waiting.what ≡ Ask ask = ap (λ (w : Waiting). w.what) waiting_is ∙ awaits.asks in
      let comes_to : AskComes is_sealing context ask p it.outcome =
      subst (λ (k : Option ClientContextState). Comes is_sealing old.desk k (Ask ask) p it.outcome) awaits.held
      (subst (λ (w : Awaited). Comes is_sealing old.desk old.context w p it.outcome) what_is it.comes) in
      let outcome_is : it.outcome ≡ due = answers_so is_sealing laws name number m p made reply carries.within carries.least carries.most carries.plaintext carries.inside context ask refl refl it.outcome comes_to in
      record {
        told = it.told ∙ ap (λ (o : AnswerEffect). let s : Step = record { out = sent_to from (acknowledgement p); notes = notes_of o } in s) outcome_is;
        context = ap (λ (c : Client). c.context) it.kept ∙ ap (λ (o : AnswerEffect). context_after o old.context) outcome_is;
        waiting = ap (λ (c : Client). c.waiting) it.kept ∙ ap (λ (o : AnswerEffect). waits_after o it.waiting) outcome_is;
        desk = ap (λ (c : Client). c.desk) it.kept;
        next_hop = ap (λ (c : Client). c.next_hop) it.kept;
        origin = ap (λ (c : Client). c.origin) it.kept;
      }

  pub reply_counts : IsCarried p → ClientHears is_sealing old (in_bytes came) step new → Counts is_sealing old came step new
  reply_counts sendable hears =
      let v = response_value None in
      let as_it : hears.received ≡ received.Message (protected m 68 v made.sealed) =
      received_as laws.one_reception p hears.received sendable hears.receives ∙ ap received.Message made.whole in
      let heard_is : heard old.endpoint.seen now from hears.received ≡ heard_as.Message p =
      ap (λ (r : Received). heard old.endpoint.seen now from r) as_it
      ∙ reply_heard old now from request m v made.sealed carries.comes
      ∙ ap heard_as.Message (sym made.whole) in
      let case_is : client_case old.next_hop from old.waiting p ≡ Counted =
      ap (client_case old.next_hop from old.waiting) made.whole
      ∙ ap (λ (w : Option Waiting). client_case old.next_hop from w (protected m 68 v made.sealed)) awaits.waits
      ∙ reply_case old now from awaits.waiting request m v made.sealed carries.inside laws.value_short awaits.peer carries.comes
      awaits.id (awaits.token ∙ sym carries.token) in
      let so : ClientAnswersNew is_sealing old came (client_case old.next_hop from old.waiting p) step new =
      subst (λ (h : Heard). ClientAnswers is_sealing old (in_bytes came) h step new) heard_is hears.answers in
      subst (λ (c : ResponseCase). ClientAnswersNew is_sealing old came c step new) case_is so

  pub reply_accepted : IsCarried p → ClientHears is_sealing old (in_bytes came) step new
      → IsAnsweredWith (sent_to from (acknowledgement p)) old request_answered step new
  reply_accepted sendable hears = counted (reply_counts sendable hears)
