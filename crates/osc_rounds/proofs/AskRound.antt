-- A request that goes straight to the server is asked, served and answered.
use Rattle.std.proofs.Common.{◌≡◌, ◌∙◌, sym, ap, subst, refl, ℕ, ◌+◌, ◌^◌, ◌<◌, ◌≤◌, List, [], ◌∷◌, ◌++◌, length, if◌then◌else◌, Option, Some, None, arith, inl, inr, true}
use Rattle.std.specs.Prelude.{◌≢◌, drop, IfSome}
use Rattle.std.specs.List.{AllByRecursion}
use Rattle.std.specs.Option.{ForSome}
use Rattle.std.proofs.lemmas.List.Elements.{recursion_from_All}
use Rattle.std.proofs.lemmas.List.{length-take}
use Rattle.std.proofs.lemmas.Option.{same_Some}
use Rattle.osc_model.specs.{apply_read, token_drawn, IsWithinLimits, same_peer}
use Rattle.osc_model.specs.Arrival.{Arrival}
use Rattle.osc_model.specs.Scope.{Scope}
use Rattle.osc_model.specs.Tree.{Tree}
use Rattle.osc_model.specs.declared.algorithm.Algorithm.{Algorithm}
use Rattle.osc_model.specs.declared.context.ContextName.{ContextName}
use Rattle.osc_model.specs.declared.node.Draw.{Draw}
use Rattle.osc_model.specs.declared.node.Moment.{Moment}
use Rattle.osc_model.specs.declared.node.Peer.{Peer}
use Rattle.osc_model.specs.declared.reply.Reply.{Reply}
use Rattle.osc_model.specs.declared.request.Request.{Request}
use Rattle.osc_model.specs.declared.step.Datagram.{Datagram}
use Rattle.osc_model.specs.declared.step.Step.{Step}
use Rattle.osc_ccm.specs.{most_tag, Sealings, Tags, IsLongerBy}
use Rattle.osc_coap.specs.{spelled_length, spelling}
use Rattle.osc_coap.specs.Message.{Message}
use Rattle.osc_coap.specs.declared.kind.Kind.{Kind}
use Rattle.osc_coap.specs.declared.kind.Kind.TheVariants.{Acknowledgement, Confirmable}
use Rattle.osc_dedup.specs.{looked}
use Rattle.osc_options.specs.{reply_plaintext, etag_option, format_option, with_reply, request_options, outer_options, plaintext_of, read_request}
use Rattle.osc_message.specs.{EndpointState, own_id, acknowledgement, empty_acknowledgement, is_confirmable, reply_start, sent_to}
use Rattle.osc_context.specs.{longest_id}
use Rattle.osc_protect.specs.{HasShortContext, IsProtectedRequest, longest_message, plain_bytes, request_length, request_value}
use Rattle.osc_authz.specs.{ClientContextState, IsLive, In, IsLawfulContext, IsTable, contexts, meant}
use Rattle.osc_authz.specs.SecurityContext.{SecurityContext}
use Rattle.osc_authz.specs.Standing.{Standing}
use Rattle.osc_authz.specs.declared.token_entry.TokenEntry.{TokenEntry}
use Rattle.osc_run.specs.{request_note, Replies as AppliesTo}
use Rattle.osc_server.specs.State.{State as Server}
use Rattle.osc_server.specs.{standing_of, Hears as ServerHears, answered, reply_to}
use Rattle.osc_client.specs.{Asked, plain_of, plain_request, waits, HostAndPort, through}
use Rattle.osc_client.specs.State.{State as Client}
use Rattle.osc_client.specs.declared.waiting.Awaited.TheVariants.{Ask}
use Rattle.osc_client.specs.declared.waiting.Waiting.{Waiting}
use Rattle.osc_rounds.specs.{IsAskedAndAnswered, IsLawfulServer, IsServedAndAnswered, StraightRequest, asked_text, AwaitsReply, AwaitsRequest, CarriesReply, ComesBack, IsAnsweredWith, IsForServer, IsServed, OpenedRequest, in_acknowledgement, nothing, in_bytes, IsStraight, MayAsk}
use Rattle.osc_proxy.specs.{IsCarried}
use Rattle.osc_rounds.proofs.Accepting.{ReplyLaws, reply_accepted}
use Rattle.osc_rounds.proofs.Asking.{RequestLaws, request_served}
use Rattle.osc_rounds.proofs.Sent.{IsSent, id_few}
use Rattle.osc_rounds.proofs.Unheard.{still_unheard}
use Rattle.osc_rounds.proofs.Sendable.{IsShortReply, TextLaw, request_sendable, response_sendable}

module _ (is_sealing : Sealings) (tag : Tags) where
  pub record RoundLaws : Type 0 where
    pub itself : (a : Peer) → same_peer a a ≡ true
    pub meant_is : (on : Standing) (table : List TokenEntry) (held : SecurityContext) → IsTable table → In held (contexts table) → IsLive on held
        → meant on held.name.client_id held.name.id_context table ≡ Some held
    pub request : RequestLaws is_sealing
    pub reply : ReplyLaws is_sealing
    pub spelled_length : (m : Message) → length (spelling m) ≡ spelled_length m
    pub text_length : TextLaw
    pub sealed_length : (algorithm : Algorithm) → IsLongerBy (tag algorithm) (is_sealing algorithm)
    pub short_tag : (algorithm : Algorithm) → tag algorithm ≤ most_tag
    pub encrypted : (request : Request) → outer_options (request_options request) ≡ []
    pub written : (message : Message) (reply : Reply) → plaintext_of (with_reply message reply) ≡ reply_plaintext reply
    pub least : (root : Option (List ℕ)) (old new : Tree) (scope : Scope) (text : List ℕ) (reply : Reply) → AppliesTo old (apply_read root old scope (read_request text)) reply new → 64 ≤ reply.code.0
    pub most : (root : Option (List ℕ)) (old new : Tree) (scope : Scope) (text : List ℕ) (reply : Reply) → AppliesTo old (apply_read root old scope (read_request text)) reply new → reply.code.0 < 192
    pub short : (root : Option (List ℕ)) (old new : Tree) (scope : Scope) (text : List ℕ) (reply : Reply) → IsWithinLimits old → AppliesTo old (apply_read root old scope (read_request text)) reply new → length reply.payload ≤ 512

-- ---- a context of a table

each_lawful : (all : List SecurityContext) (held : SecurityContext) → AllByRecursion IsLawfulContext all → In held all → IsLawfulContext held
each_lawful [] held lawful here = absurd here
each_lawful (other ∷ all) held lawful (inl same) = subst IsLawfulContext (sym same) lawful.0
each_lawful (other ∷ all) held lawful (inr here) = each_lawful all held lawful.1 here

pub lawful_context : (table : List TokenEntry) (held : SecurityContext) → IsTable table → In held (contexts table) → IsLawfulContext held
lawful_context table held is here = each_lawful (contexts table) held (recursion_from_All IsLawfulContext (contexts table) is.lawful) here

-- ---- a reply is encrypted whole

nothing_outside : (etag : Option (List ℕ)) (format : Option ℕ) → outer_options (etag_option etag ++ format_option format) ≡ []
nothing_outside None None = refl
nothing_outside None (Some format) = refl
nothing_outside (Some tag) None = refl
nothing_outside (Some tag) (Some format) = refl

etag_short : (etag : Option (List ℕ)) → IfSome etag (λ tag. length tag ≡ 8) → ForSome etag (λ tag. length tag ≤ 8)
etag_short None is tag e = absurd (cc)
etag_short (Some bytes) is tag e = let same : bytes ≡ tag = same_Some bytes tag e in subst (λ (t : List ℕ). length t ≤ 8) same (omega (arith, is))

-- ---- what the server sends back

module _ (is_sealing : Sealings) (tag : Tags) (laws : RoundLaws is_sealing tag)
    (old : Server) (came : Arrival Message) (request : OpenedRequest) (step : Step) (new : Server)
    (kind : came.what.kind ≡ Confirmable) (id : came.what.id < 2 ^ 16) (token : length came.what.token ≤ 8) (limits : IsWithinLimits old.tree)
    (is : IsServed is_sealing old came request step new) where
  abbrev message : Message
  message = came.what

  abbrev held : SecurityContext
  held = request.held

  abbrev number : ℕ
  number = request.number

  abbrev text : List ℕ
  text = request.text

  abbrev pub plain : Message
  plain = reply_to old.endpoint came is.reply

  pub plain_kind : plain.kind ≡ Acknowledgement
  plain_kind = rw kind refl

  pub plain_id : plain.id ≡ message.id
  plain_id = rw kind refl

  pub plain_inside : outer_options plain.options ≡ []
  plain_inside = nothing_outside is.reply.etag is.reply.format

  -- it carries the reply, however it comes to the client
  pub carries : (asked : Client) (server_at : Peer) (first answer : Message) → ComesBack asked came.at server_at first answer
      → answer.token ≡ first.token → outer_options answer.options ≡ [] → plaintext_of answer ≡ plaintext_of plain
      → CarriesReply asked came.at server_at first is.reply answer
  carries asked server_at first answer comes same inside plaintext = record {
    comes = comes;
    token = same;
    inside = inside;
    plaintext = plaintext ∙ laws.written (reply_start came.draw old.endpoint.next_id message is.reply.code.0) is.reply;
    within = is.within;
    least = laws.least old.desk.rules.revoked old.tree new.tree held.scope text is.reply is.applied;
    most = laws.most old.desk.rules.revoked old.tree new.tree held.scope text is.reply is.applied;
  }

  reply_short : IsShortReply is.reply
  reply_short = record {
    code = omega (arith, laws.least old.desk.rules.revoked old.tree new.tree held.scope text is.reply is.applied);
    etag = etag_short is.reply.etag is.within.etag;
    payload = laws.short old.desk.rules.revoked old.tree new.tree held.scope text is.reply limits is.applied;
  }

  pub answer_sendable : IsCarried is.answer
  answer_sendable =
      response_sendable is_sealing tag laws.spelled_length laws.sealed_length laws.text_length held.name number plain is.answer is.reply is.protected
      plain_inside (subst (λ (n : ℕ). n < 2 ^ 16) (sym plain_id) id) token laws.reply.value_short laws.short_tag
      (laws.written (reply_start came.draw old.endpoint.next_id message is.reply.code.0) is.reply) reply_short

  -- in the acknowledgement nothing is acknowledged
  no_acknowledgement : (at : Peer) → sent_to at (acknowledgement is.answer) ≡ []
  no_acknowledgement at =
      ap (λ (kind : Kind). sent_to at (if is_confirmable kind then Some (empty_acknowledgement is.answer.id) else None))
      (ap (λ (m : Message). m.kind) is.protected.whole ∙ plain_kind)

  pub comes_back : (asked : Client) (server_at : Peer) → AwaitsReply asked server_at held.name number message
      → IsServedAndAnswered is_sealing
      (record { asked = asked; server = old; at = came.from; server_at = server_at; now = came.at; held = held; number = number; text = text }) step new
  comes_back asked server_at awaits = record {
    reply = is.reply;
    applied = is.applied;
    entry = ap (λ (s : Step). s.notes) is.told;
    kept = is.desk;
    answer = is.answer;
    out = ap (λ (s : Step). s.out) is.told;
    answered = λ draw third after hears.
        let back : Arrival Message = record { at = came.at; from = server_at; draw = draw; what = is.answer } in
        subst (λ (out : List Datagram). IsAnsweredWith out asked (record { name = held.name; number = number; reply = is.reply }) third after) (no_acknowledgement server_at)
        (reply_accepted is_sealing laws.reply asked back held.name number message plain is.reply third after awaits
        (carries asked server_at message plain (in_acknowledgement plain_kind plain_id) refl plain_inside refl) is.protected answer_sendable hears);
  }

-- where a confirmable message is answered, no other is noted
answered_unheard : (endpoint : EndpointState) (came : Arrival Message) (later : Moment) (answer : Message) (other : ℕ) → came.what.kind ≡ Confirmable → other ≢ came.what.id
    → looked later came.from other endpoint.seen ≡ None → looked later came.from other (answered endpoint came answer).seen ≡ None
answered_unheard endpoint came later answer other kind isnt unheard =
    rw kind (still_unheard came.at later came.from came.from came.what.id other (record { until = came.at.ms + 247000; reply = Some (spelling answer) }) endpoint.seen isnt unheard)

-- ---- what the client asks

module _ (is_sealing : Sealings) (tag : Tags) (laws : RoundLaws is_sealing tag)
    (client asked : Client) (server : Server) (asks_for : Asked) (now : Moment) (at server_at : Peer) (context : ClientContextState) (held : SecurityContext) (first : Step)
    (lawful : IsLawfulServer server) (short_name : HasShortContext context.name) (goes : IsStraight client server now asks_for.draw at server_at) (ends : MayAsk client server now context held)
    (sent : IsSent is_sealing tag client asked asks_for first context) where
  abbrev pub draw : Draw
  draw = asks_for.draw

  abbrev pub request : Request
  request = asks_for.request

  abbrev pub way : StraightRequest
  way = record {
    asked = asked;
    server = server;
    at = at;
    server_at = server_at;
    now = now;
    held = held;
    number = context.next;
    text = asked_text client draw request;
  }

  pub few : own_id draw client.endpoint.next_id < 2 ^ 16
  few = id_few is_sealing tag client asked asks_for first context sent

  pub short : HasShortContext held.name
  short = subst HasShortContext (sym ends.one_name) short_name

  -- what the table says of the context
  pub client_id_short : length held.name.client_id ≤ longest_id
  client_id_short = let is = lawful_context server.desk.table held lawful.table ends.here in omega (arith, ap (λ (id : List ℕ). length id) is.one_byte)

  pub awaits_request : AwaitsRequest server now at held context.next (own_id draw client.endpoint.next_id)
  awaits_request = record {
    lawful = record { context = short; client_id = client_id_short };
    means = laws.meant_is (standing_of server now) server.desk.table held lawful.table ends.here ends.live;
    number_lawful = ends.number;
    fresh = ends.fresh;
    unheard = goes.unheard;
  }

  abbrev pub bare_request : Message
  bare_request = plain_request (own_id draw client.endpoint.next_id) (token_drawn draw) request

  pub plain_is : plain_of client draw request ≡ bare_request
  plain_is = ap (λ (origin : Option HostAndPort). through origin bare_request) goes.direct

  pub direct : outer_options bare_request.options ≡ []
  direct = laws.encrypted request

  pub for_server : IsForServer bare_request
  for_server = record { kind = refl; outside = nothing direct }

  pub token_short : length (token_drawn draw) ≤ 8
  token_short = omega (arith, length-take 8 (drop 8 draw.0))

  pub its : IsProtectedRequest is_sealing held.name context.next bare_request sent.message
  its =
      subst (λ (m : Message). IsProtectedRequest is_sealing held.name context.next m sent.message) plain_is
      (subst (λ (n : ContextName). IsProtectedRequest is_sealing n context.next (plain_of client draw request) sent.message) (sym ends.one_name) sent.made)

  pub value_short : length (request_value held.name context.next) ≤ 255
  value_short = laws.request.value_short held.name context.next short client_id_short

  fits : request_length tag held.name context.next bare_request ≤ longest_message
  fits =
      subst (λ (m : Message). request_length tag held.name context.next m ≤ longest_message) plain_is
      (subst (λ (n : ContextName). request_length tag n context.next (plain_of client draw request) ≤ longest_message) (sym ends.one_name) sent.free.fits)

  pub sendable : IsCarried sent.message
  sendable =
      request_sendable is_sealing tag laws.spelled_length laws.sealed_length held.name context.next bare_request sent.message its direct few token_short value_short fits

  abbrev pub waiting : Waiting
  waiting = waits client.endpoint asks_for.at draw (Ask (record { number = context.next }))

  pub number_taken : asked.context ≡ Some (record { name = held.name; next = context.next + 1 })
  number_taken =
      ap (λ (c : Client). c.context) sent.kept
      ∙ ap (λ (n : ContextName). Some (let k : ClientContextState = record { name = n; next = context.next + 1 } in k)) (sym ends.one_name)

  pub awaits : AwaitsReply asked server_at held.name context.next sent.message
  awaits = record {
    next = context.next + 1;
    held = number_taken;
    waiting = waiting;
    waits = ap (λ (c : Client). c.waiting) sent.kept;
    asks = refl;
    id = ap (λ (m : Message). m.id) (sym its.whole);
    token = ap (λ (m : Message). m.token) (sym its.whole);
    peer = ap (λ (c : Client). same_peer c.next_hop server_at) sent.kept ∙ ap (λ (p : Peer). same_peer p server_at) goes.next_hop ∙ laws.itself server_at;
    number_lawful = ends.number;
  }

  abbrev heard_as : Draw → Arrival Message
  heard_as server_draw = record { at = now; from = at; draw = server_draw; what = sent.message }

  abbrev served_as : (server_draw : Draw) (second : Step) (after : Server) → ServerHears is_sealing server (in_bytes (heard_as server_draw)) second after
      → IsServed is_sealing server (heard_as server_draw) (record { held = held; number = context.next; text = plain_bytes bare_request }) second after
  served_as server_draw second after hears =
      request_served is_sealing laws.request server (heard_as server_draw) held context.next bare_request second after awaits_request for_server its sendable hears

  -- of what the server heard from there only the request is new
  no_other_heard : (server_draw : Draw) (second : Step) (after : Server) → ServerHears is_sealing server (in_bytes (heard_as server_draw)) second after
      → (later : Moment) (id : ℕ) → id ≢ own_id draw client.endpoint.next_id → looked later at id server.endpoint.seen ≡ None → looked later at id after.endpoint.seen ≡ None
  no_other_heard server_draw second after hears later id other unheard =
      let it = served_as server_draw second after hears in
      ap (λ (s : Server). looked later at id s.endpoint.seen) it.kept
      ∙ answered_unheard server.endpoint (heard_as server_draw) later it.answer id (ap (λ (m : Message). m.kind) its.whole)
      (subst (λ (m : Message). id ≢ m.id) (sym its.whole) other) unheard

  pub is_asked : IsAskedAndAnswered is_sealing way client draw first
  is_asked = record {
    message = sent.message;
    out = ap (λ (s : Step). s.out) sent.told;
    sealed = ap (λ (s : Step). s.notes.seals) sent.told ∙ ap (λ (n : ContextName). Some (request_note n context.next (asked_text client draw request))) (sym ends.one_name);
    unserved = ap (λ (s : Step). s.notes.served) sent.told;
    context = number_taken;
    served = λ server_draw second after hears.
        let opened : OpenedRequest = record { held = held; number = context.next; text = asked_text client draw request } in
        let is : IsServed is_sealing server (heard_as server_draw) opened second after =
        subst (λ (m : Message). IsServed is_sealing server (heard_as server_draw) (record { held = held; number = context.next; text = plain_bytes m }) second after) (sym plain_is)
        (served_as server_draw second after hears) in
        comes_back is_sealing tag laws server (heard_as server_draw) opened second after
        (ap (λ (m : Message). m.kind) its.whole)
        (subst (λ (m : Message). m.id < 2 ^ 16) (sym its.whole) few)
        (subst (λ (m : Message). length m.token ≤ 8) (sym its.whole) token_short)
        lawful.limits is asked server_at awaits;
    heard = no_other_heard;
  }
