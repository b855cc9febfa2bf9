-- A request that goes through a forward proxy is asked, served and answered.
use Rattle.std.proofs.Common.{◌≡◌, ◌∙◌, sym, ap, subst, refl, ℕ, ◌+◌, ◌^◌, ◌<◌, ◌≤◌, Bool, true, false, not, List, [], ◌∷◌, length, Option, Some, None, arith}
use Rattle.std.specs.Prelude.{filter}
use Rattle.osc_model.specs.Arrival.{Arrival}
use Rattle.osc_model.specs.{token_drawn, IsWithinLimits, same_peer}
use Rattle.osc_model.specs.declared.node.Draw.{Draw}
use Rattle.osc_model.specs.declared.node.Moment.{Moment}
use Rattle.osc_model.specs.declared.node.Peer.{Peer}
use Rattle.osc_model.specs.declared.request.Request.{Request}
use Rattle.osc_model.specs.declared.step.Step.{Step}
use Rattle.osc_coap.specs.{is_request_code, is_response_code, AreOptions, NumberAndValue, HasSpelling, spelling}
use Rattle.osc_coap.specs.Message.{Message}
use Rattle.osc_coap.specs.declared.kind.Kind.TheVariants.{Acknowledgement, Confirmable}
use Rattle.osc_options.specs.{request_options, AreInOrder, merge, outer_options, has_unrecognised_unsafe}
use Rattle.osc_dedup.specs.{looked}
use Rattle.osc_message.specs.{EndpointState, own_id, datagram, empty_acknowledgement}
use Rattle.osc_context.specs.{longest_id}
use Rattle.osc_ccm.specs.{Sealings, Tags}
use Rattle.osc_protect.specs.{HasShortContext, plain_bytes, request_value, response_value}
use Rattle.osc_authz.specs.{ClientContextState}
use Rattle.osc_authz.specs.SecurityContext.{SecurityContext}
use Rattle.osc_server.specs.{standing_of, Hears as ServerHears}
use Rattle.osc_server.specs.State.{State as Server}
use Rattle.osc_client.specs.{Hears as ClientHears, Asked, plain_of, plain_request, waits, HostAndPort, proxy_options, through}
use Rattle.osc_client.specs.State.{State as Client}
use Rattle.osc_client.specs.declared.waiting.Awaited.TheVariants.{Ask}
use Rattle.osc_client.specs.declared.waiting.Waiting.{Waiting}
use Rattle.osc_proxy.specs.{answer as sent_back, forwarded, forwarded_options, has_proxy_uri, is_taken_out, IsAnswerTo, IsCarried}
use Rattle.osc_rounds.specs.{IsLawfulServer, asked_text, AwaitsReply, AwaitsRequest, CarriesReply, IsAnsweredWith, IsServed, OpenedRequest, a_uri_host, in_confirmable, in_bytes, IsForProxy, MayAsk}
use Rattle.osc_rounds.proofs.Accepting.{reply_accepted}
use Rattle.osc_rounds.proofs.AskRound.{RoundLaws, answer_sendable, carries, lawful_context, plain, plain_id, plain_inside, plain_kind}
use Rattle.osc_rounds.proofs.AskedThrough.{IsAskedAndAnsweredThrough, IsAskedThrough, IsForwardedAs, IsServedAndAnsweredThrough, RequestToProxy, SendsThrough}
use Rattle.osc_rounds.proofs.Asking.{request_served}
use Rattle.osc_rounds.proofs.Forwarded.{outer_forwarded, request_forwarded, response_sent_back, text_forwarded, uri_in_protected, uri_outside}
use Rattle.osc_rounds.proofs.ProxyOptions.{Reads, outer_merged, proxy_forwarded, proxy_in_order, proxy_outside, proxy_reads, proxy_without_uri}
use Rattle.osc_rounds.proofs.Sendable.{request_short}
use Rattle.osc_rounds.proofs.Sent.{IsSent, its_id}

-- ---- to a proxy

module _ (is_sealing : Sealings) (tag : Tags) (laws : RoundLaws is_sealing tag)
    (client asked : Client) (asks_for : Asked) (origin : HostAndPort) (proxy_at : Peer) (context : ClientContextState) (first : Step)
    (may : SendsThrough client asks_for.draw origin proxy_at context) (is : IsSent is_sealing tag client asked asks_for first context) where
  abbrev draw : Draw
  draw = asks_for.draw

  abbrev request : Request
  request = asks_for.request

  abbrev pub to_proxy : RequestToProxy
  to_proxy = record { origin = origin; proxy_at = proxy_at; asks = asks_for; name = context.name; number = context.next }

  abbrev bare_request : Message
  bare_request = plain_request (own_id draw client.endpoint.next_id) (token_drawn draw) request

  abbrev asked_for : Message
  asked_for = plain_of client draw request

  outside : outer_options asked_for.options ≡ proxy_options (Some origin)
  outside =
      ap (λ (o : Option HostAndPort). outer_options (through o bare_request).options) may.through
      ∙ outer_merged (proxy_options (Some origin)) (request_options request) (laws.encrypted request)
      ∙ proxy_outside origin

  in_order : AreInOrder 0 (outer_options asked_for.options)
  in_order = subst (AreInOrder 0) (sym outside) (proxy_in_order origin)

  no_uri : has_proxy_uri asked_for.options ≡ false
  no_uri = sym (uri_outside asked_for.options) ∙ ap has_proxy_uri outside ∙ proxy_without_uri origin

  kind_is : asked_for.kind ≡ Confirmable
  kind_is = ap (λ (o : Option HostAndPort). (through o bare_request).kind) may.through

  token_is : asked_for.token ≡ token_drawn draw
  token_is = ap (λ (o : Option HostAndPort). (through o bare_request).token) may.through

  abbrev value_of : List ℕ
  value_of = request_value context.name context.next

  options_are : is.message.options ≡ merge (proxy_options (Some origin)) ((9, value_of) ∷ [])
  options_are = ap (λ (m : Message). m.options) is.made.whole ∙ ap (λ (outer : List NumberAndValue). merge outer ((9, value_of) ∷ [])) outside

  read : Reads origin.host origin.port is.message.options
  read = subst (Reads origin.host origin.port) (sym options_are) (proxy_reads origin value_of may.origin_lawful.host may.origin_lawful.port)

  for_proxy : IsForProxy origin is.message
  for_proxy = record {
    kind = ap (λ (m : Message). m.kind) is.made.whole ∙ kind_is;
    code = ap (λ (m : Message). is_request_code m.code) is.made.whole;
    token = ap (λ (m : Message). length m.token) is.made.whole ∙ ap length token_is ∙ may.token_size;
    carried = record {
      lawful = is.spelled.lawful;
      short = request_short is_sealing tag laws.spelled_length laws.sealed_length context.name context.next asked_for is.message is.made is.free.fits;
    };
    safe = read.forwardable;
    no_uri = read.no_uri;
    scheme = read.scheme;
    host = read.host_is;
    port = read.port_is;
    bare = ap has_proxy_uri options_are ∙ uri_in_protected (proxy_options (Some origin)) value_of (proxy_without_uri origin);
  }

  goes_on : (id : ℕ) (token : List ℕ)
      → IsForwardedAs is_sealing context.name context.next (asked_text client draw request) (forwarded id token asked_for) (forwarded id token is.message)
  goes_on id token = record {
    protected = request_forwarded is_sealing context.name context.next asked_for is.message id token in_order no_uri is.made;
    for_server = record {
      kind = kind_is;
      outside = a_uri_host origin.host may.origin_lawful.host (outer_forwarded asked_for.options no_uri ∙ ap forwarded_options outside ∙ proxy_forwarded origin);
    };
    text_is = text_forwarded id token asked_for no_uri;
  }

  id_is : is.message.id ≡ own_id draw client.endpoint.next_id
  id_is = its_id is_sealing tag client asked asks_for first context is

  abbrev waiting : Waiting
  waiting = waits client.endpoint asks_for.at draw (Ask (record { number = context.next }))

  awaits : AwaitsReply asked proxy_at context.name context.next is.message
  awaits = record {
    next = context.next + 1;
    held = ap (λ (c : Client). c.context) is.kept;
    waiting = waiting;
    waits = ap (λ (c : Client). c.waiting) is.kept;
    asks = refl;
    id = sym id_is;
    token = sym (ap (λ (m : Message). m.token) is.made.whole ∙ token_is);
    peer = ap (λ (c : Client). same_peer c.next_hop proxy_at) is.kept ∙ ap (λ (p : Peer). same_peer p proxy_at) may.next_hop ∙ laws.itself proxy_at;
    number_lawful = may.number;
  }

  pub asked_through : IsAskedThrough is_sealing client to_proxy first asked
  asked_through = record {
    message = is.message;
    out = ap (λ (s : Step). s.out) is.told ∙ ap (λ (p : Peer). datagram p is.message ∷ []) may.next_hop;
    sealed = ap (λ (s : Step). s.notes.seals) is.told;
    unserved = ap (λ (s : Step). s.notes.served) is.told;
    context = ap (λ (c : Client). c.context) is.kept;
    id = id_is;
    heard = ap (λ (c : Client). c.endpoint.seen) is.kept;
    for_proxy = for_proxy;
    goes_on = goes_on;
    awaits = awaits;
  }

-- ---- what a proxy forwards and sends back can be sent

abbrev FewerLaw : Type 0
FewerLaw = (keeps : NumberAndValue → Bool) (before : ℕ) (options : List NumberAndValue) → AreOptions before options → AreOptions before (filter keeps options)

abbrev ShorterLaw : Type 0
ShorterLaw = (id : ℕ) (token : List ℕ) (message : Message) → HasSpelling message → length token ≤ length message.token
    → length (spelling (forwarded id token message)) ≤ length (spelling message)

module _ (is_sealing : Sealings) (tag : Tags) where
  pub record ThroughLaws : Type 0 where
    pub round : RoundLaws is_sealing tag
    pub fewer : FewerLaw
    pub shorter : ShorterLaw

-- code 0.00 is that of no request, and of no response
no_request : (code : ℕ) → code ≡ 0 → is_request_code code ≡ true → ⊥
no_request code none is = let wrong : is_request_code 0 ≡ true = subst (λ (n : ℕ). is_request_code n ≡ true) none is in absurd cc

forwarded_sendable : FewerLaw → ShorterLaw → (origin : HostAndPort) (id : ℕ) (token : List ℕ) (m : Message) → id < 2 ^ 16 → length token ≡ 8
    → IsForProxy origin m → IsCarried (forwarded id token m)
forwarded_sendable fewer shorter origin id token m few eight is = record {
  lawful = record {
    id = few;
    token = omega (arith, eight);
    options = fewer (λ (option : NumberAndValue). not (is_taken_out (has_proxy_uri m.options) option.0)) 0 m.options is.carried.lawful.options;
    payload = is.carried.lawful.payload;
    empty = λ none. absurd (no_request m.code none is.code);
  };
  short = omega (arith, shorter id token m is.carried.lawful (omega (arith, eight, is.token)), is.carried.short);
}

-- ---- what the server sends back

module _ (is_sealing : Sealings) (tag : Tags) (laws : RoundLaws is_sealing tag)
    (asked : Client) (old : Server) (came : Arrival Message) (opened : OpenedRequest) (request : Message) (step : Step) (new : Server)
    (kind : came.what.kind ≡ Confirmable) (id : came.what.id < 2 ^ 16) (eight : length came.what.token ≡ 8) (limits : IsWithinLimits old.tree)
    (is : IsServed is_sealing old came opened step new)
    (request_eight : length request.token ≡ 8) (awaits : AwaitsReply asked came.from opened.held.name opened.number request) where
  abbrev now : Moment
  now = came.at

  abbrev proxy_at : Peer
  proxy_at = came.from

  abbrev message : Message
  message = came.what

  abbrev held : SecurityContext
  held = opened.held

  abbrev number : ℕ
  number = opened.number

  few : length message.token ≤ 8
  few = omega (arith, eight)

  abbrev to_send : Message
  to_send = plain is_sealing tag laws old came opened step new kind id few limits is

  sends_kind : to_send.kind ≡ Acknowledgement
  sends_kind = plain_kind is_sealing tag laws old came opened step new kind id few limits is

  sends_id : to_send.id ≡ message.id
  sends_id = plain_id is_sealing tag laws old came opened step new kind id few limits is

  sends_inside : outer_options to_send.options ≡ []
  sends_inside = plain_inside is_sealing tag laws old came opened step new kind id few limits is

  sendable : IsCarried is.answer
  sendable = answer_sendable is_sealing tag laws old came opened step new kind id few limits is

  code_is : is.answer.code ≡ 68
  code_is = ap (λ (m : Message). m.code) is.protected.whole

  answer_token : is.answer.token ≡ message.token
  answer_token = ap (λ (m : Message). m.token) is.protected.whole

  forwardable : IsAnswerTo message is.answer
  forwardable = record {
    carried = sendable;
    kind = ap (λ (m : Message). m.kind) is.protected.whole ∙ sends_kind;
    code = ap is_response_code code_is;
    id = ap (λ (m : Message). m.id) is.protected.whole ∙ sends_id;
    token = answer_token;
    safe =
        ap (λ (m : Message). has_unrecognised_unsafe 0 m.options) is.protected.whole
        ∙ ap (λ (outer : List NumberAndValue). has_unrecognised_unsafe 0 (merge outer ((9, response_value None) ∷ []))) sends_inside;
  }

  -- it goes back to the client
  module _ (endpoint : EndpointState) (back_id : ℕ) (draw : Draw) (third : Step) (after : Client) (back_few : back_id < 2 ^ 16) (unheard : looked now proxy_at back_id endpoint.seen ≡ None) where
    abbrev meanwhile : Client
    meanwhile = record asked { endpoint = endpoint }

    abbrev back : Message
    back = sent_back Confirmable back_id request.token is.answer

    abbrev plain_back : Message
    plain_back = sent_back Confirmable back_id request.token to_send

    back_sendable : IsCarried back
    back_sendable = record {
      lawful = record {
        id = back_few;
        token = omega (arith, request_eight);
        options = sendable.lawful.options;
        payload = sendable.lawful.payload;
        empty = λ none. absurd (omega (arith, none, code_is));
      };
      short = omega (arith, laws.spelled_length back, laws.spelled_length is.answer, sendable.short, request_eight, eight, ap length answer_token);
    }

    still_awaits : AwaitsReply meanwhile proxy_at held.name number request
    still_awaits = record {
      next = awaits.next;
      held = awaits.held;
      waiting = awaits.waiting;
      waits = awaits.waits;
      asks = awaits.asks;
      id = awaits.id;
      token = awaits.token;
      peer = awaits.peer;
      number_lawful = awaits.number_lawful;
    }

    carries_it : CarriesReply meanwhile now proxy_at request is.reply plain_back
    carries_it =
        carries is_sealing tag laws old came opened step new kind id few limits is meanwhile proxy_at request plain_back
        (in_confirmable refl unheard) refl sends_inside refl

    abbrev comes : Arrival Message
    comes = record { at = now; from = proxy_at; draw = draw; what = back }

    answered : ClientHears is_sealing meanwhile (in_bytes comes) third after
        → IsAnsweredWith (datagram proxy_at (empty_acknowledgement back_id) ∷ []) asked (record { name = held.name; number = number; reply = is.reply }) third after
    answered hears =
        let it =
        reply_accepted is_sealing laws.reply meanwhile comes held.name number request plain_back is.reply third after still_awaits carries_it
        (response_sent_back is_sealing held.name number None to_send is.answer Confirmable back_id request.token is.protected) back_sendable hears in
        record { told = it.told; context = it.context; waiting = it.waiting; desk = it.desk; next_hop = it.next_hop; origin = it.origin }

  pub comes_back_through : IsServedAndAnsweredThrough is_sealing (record { asked = asked; message = request; server = old; request = opened }) came step new
  comes_back_through = record {
    reply = is.reply;
    applied = is.applied;
    entry = ap (λ (s : Step). s.notes) is.told;
    kept = is.desk;
    response = is.answer;
    out = ap (λ (s : Step). s.out) is.told;
    forwardable = forwardable;
    answered = λ endpoint id draw third after few unheard hears. answered endpoint id draw third after few unheard hears;
  }

-- ---- there and back

module _ (is_sealing : Sealings) (tag : Tags) (laws : ThroughLaws is_sealing tag)
    (client asked : Client) (server : Server) (now : Moment) (asks_for : Asked) (origin : HostAndPort) (proxy_at : Peer) (context : ClientContextState) (held : SecurityContext) (first : Step)
    (lawful : IsLawfulServer server) (ends : MayAsk client server now context held) (short : HasShortContext held.name)
    (is : IsAskedThrough is_sealing client (record { origin = origin; proxy_at = proxy_at; asks = asks_for; name = held.name; number = context.next }) first asked) where
  abbrev text : List ℕ
  text = asked_text client asks_for.draw asks_for.request

  client_id_short : length held.name.client_id ≤ longest_id
  client_id_short = let it = lawful_context server.desk.table held lawful.table ends.here in omega (arith, ap (λ (id : List ℕ). length id) it.one_byte)

  module _ (id : ℕ) (token : List ℕ) (server_draw : Draw) (second : Step) (after : Server)
      (few : id < 2 ^ 16) (eight : length token ≡ 8) (unheard : looked now proxy_at id server.endpoint.seen ≡ None) where
    awaits_request : AwaitsRequest server now proxy_at held context.next id
    awaits_request = record {
      lawful = record { context = short; client_id = client_id_short };
      means = laws.round.meant_is (standing_of server now) server.desk.table held lawful.table ends.here ends.live;
      number_lawful = ends.number;
      fresh = ends.fresh;
      unheard = unheard;
    }

    abbrev plain_on : Message
    plain_on = forwarded id token (plain_of client asks_for.draw asks_for.request)

    abbrev goes_as : IsForwardedAs is_sealing held.name context.next text plain_on (forwarded id token is.message)
    goes_as = is.goes_on id token

    abbrev comes_on : Arrival Message
    comes_on = record { at = now; from = proxy_at; draw = server_draw; what = forwarded id token is.message }

    abbrev opened_on : OpenedRequest
    opened_on = record { held = held; number = context.next; text = text }

    served : ServerHears is_sealing server (in_bytes comes_on) second after → IsServed is_sealing server comes_on opened_on second after
    served hears =
        subst (λ (t : List ℕ). IsServed is_sealing server comes_on (record { held = held; number = context.next; text = t }) second after) goes_as.text_is
        (request_served is_sealing laws.round.request server comes_on held context.next plain_on second after
        awaits_request goes_as.for_server goes_as.protected (forwarded_sendable laws.fewer laws.shorter origin id token is.message few eight is.for_proxy) hears)

    served_and_answered : ServerHears is_sealing server (in_bytes comes_on) second after
        → IsServedAndAnsweredThrough is_sealing (record { asked = asked; message = is.message; server = server; request = opened_on }) comes_on second after
    served_and_answered hears =
        comes_back_through is_sealing tag laws.round asked server comes_on opened_on is.message second after
        is.for_proxy.kind few eight lawful.limits (served hears) is.for_proxy.token is.awaits

  pub answered_through : IsAskedAndAnsweredThrough is_sealing client
      (record { origin = origin; proxy_at = proxy_at; asks = asks_for; held = held; number = context.next; server = server; now = now }) first asked
  answered_through = record {
    message = is.message;
    out = is.out;
    sealed = is.sealed;
    unserved = is.unserved;
    context = is.context;
    id = is.id;
    heard = is.heard;
    for_proxy = is.for_proxy;
    served = λ id token server_draw second after few eight unheard hears. served_and_answered id token server_draw second after few eight unheard hears;
  }
