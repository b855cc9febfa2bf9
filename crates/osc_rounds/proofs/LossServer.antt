-- What the server makes of a request on the road: the first copy is served, each later one is answered by the same bytes, and ticks change
-- nothing of it.
use Rattle.std.proofs.Common.{◌≡◌, ◌∙◌, sym, ap, subst, refl, ℕ, ◌+◌, ◌^◌, ◌<◌, ◌≤◌, List, [], ◌∷◌, length, Option, Some, None, arith}
use Rattle.osc_model.specs.{apply_read, exchange_lifetime, sends, IsWithinLimits}
use Rattle.osc_model.specs.Arrival.{Arrival}
use Rattle.osc_model.specs.Tree.{Tree}
use Rattle.osc_model.specs.declared.node.Draw.{Draw}
use Rattle.osc_model.specs.declared.node.Moment.{Moment}
use Rattle.osc_model.specs.declared.node.Peer.{Peer}
use Rattle.osc_model.specs.declared.step.Step.{Step}
use Rattle.osc_coap.specs.{NumberAndValue, spelling}
use Rattle.osc_coap.specs.Message.{Message}
use Rattle.osc_coap.specs.declared.kind.Kind.TheVariants.{Acknowledgement, Confirmable}
use Rattle.osc_options.specs.{read_request, outer_options, merge, protected}
use Rattle.osc_dedup.specs.{Entry, alive, looked, with_note}
use Rattle.osc_dedup.specs.declared.table.Remembered.{Remembered}
use Rattle.osc_message.specs.{EndpointState, heard, datagram}
use Rattle.osc_message.specs.Sending.{again}
use Rattle.osc_message.specs.declared.heard.Heard.{Heard}
use Rattle.osc_message.specs.declared.heard.Heard.TheVariants as heard_as
use Rattle.osc_message.specs.declared.received.Received.{Received}
use Rattle.osc_message.specs.declared.received.Received.TheVariants as received
use Rattle.osc_context.specs.{greatest_number}
use Rattle.osc_window.specs.{IsFresh}
use Rattle.osc_protect.specs.{IsProtectedRequest, IsProtectedResponse, plain_bytes, request_value}
use Rattle.osc_ccm.specs.{Sealings, Tags}
use Rattle.osc_authz.specs.{DeskState, In, IsLive, IsTable, contexts, holder_at, meant}
use Rattle.osc_run.specs.{Replies as AppliesTo}
use Rattle.osc_proxy.specs.{IsCarried}
use Rattle.osc_server.specs.State.{State as Server}
use Rattle.osc_server.specs.{standing_of, notes_of_request, answered, Answers as ServerAnswers, Hears as ServerHears}
use Rattle.osc_server.specs.Hearing.{Ticks as ServerTicks}
use Rattle.osc_rounds.specs.{AwaitsRequest, CarriesReply, IsForServer, IsServed, OpenedRequest, in_acknowledgement, in_bytes}
use Rattle.osc_rounds.specs.Asked.{HasServed, IsLawfulName}
use Rattle.osc_rounds.specs.AskRound.{StraightRequest}
use Rattle.osc_rounds.specs.Loss.{Given, IsServedAt, IsWithin, OnTheRoad, route_of}
use Rattle.osc_rounds.proofs.Asking.{in_place, received_as, request_served}
use Rattle.osc_rounds.proofs.AskRound.{RoundLaws, plain, plain_kind, plain_id, plain_inside, carries, answer_sendable}
use Rattle.osc_rounds.proofs.Unheard.{unheard_at_tick}

-- what the table of messages says: what is noted is found while it lives, and letting the dead go keeps it
pub record TableLaws : Type 0 where
  pub noted : (now later : Moment) (peer : Peer) (id : ℕ) (noted : Remembered) (seen : List Entry) → later.ms < noted.until
      → looked later peer id (with_note now peer id noted seen) ≡ Some noted
  pub stays : (now later : Moment) (peer : Peer) (id : ℕ) (noted : Remembered) (seen : List Entry) → now.ms < noted.until
      → looked later peer id seen ≡ Some noted → looked later peer id (alive now seen) ≡ Some noted

module _ (is_sealing : Sealings) (road : OnTheRoad) where
  abbrev pub way : StraightRequest
  way = road.way

  -- what is known of a request on the road
  pub record IsOnTheRoad : Type 0 where
    pub bare : Message
    pub made : IsProtectedRequest is_sealing way.held.name way.number bare road.message
    pub for_server : IsForServer bare
    pub text : way.text ≡ plain_bytes bare
    pub carried : IsCarried road.message
    pub kind : road.message.kind ≡ Confirmable
    pub id : road.message.id < 2 ^ 16
    pub token : length road.message.token ≤ 8
    pub bare_id : bare.id ≡ road.message.id
    pub lawful : IsLawfulName way.held.name
    pub number : way.number ≤ greatest_number
    pub fresh : IsFresh way.held.window way.number
    pub table : IsTable way.server.desk.table
    pub here : In way.held (contexts way.server.desk.table)
    pub limits : IsWithinLimits way.server.tree

  -- the server has heard nothing of it
  pub record IsUnheard (server : Server) : Type 0 where
    pub tree : server.tree ≡ way.server.tree
    pub desk : server.desk ≡ way.server.desk
    pub unheard : (later : Moment) → way.now.ms ≤ later.ms → looked later way.at road.message.id server.endpoint.seen ≡ None

  -- what was given is a reply that the client takes, whenever it comes
  pub record IsForClient (given : Given) : Type 0 where
    pub plain : Message
    pub protected : IsProtectedResponse is_sealing way.held.name way.number None plain given.answer
    pub kind : plain.kind ≡ Acknowledgement
    pub id : plain.id ≡ road.message.id
    pub carries : CarriesReply way.asked way.now way.server_at road.message given.reply plain
    pub carried : IsCarried given.answer

  -- the server has served it, and notes so
  pub record HasGiven (given : Given) (server : Server) : Type 0 where
    pub tree : server.tree ≡ given.tree
    pub desk : server.desk ≡ given.desk
    pub until : ℕ
    pub lasts : way.now.ms + exchange_lifetime ≤ until
    pub found : (later : Moment) → later.ms < until
        → looked later way.at road.message.id server.endpoint.seen ≡ Some (record { until = until; reply = Some (spelling given.answer) })

  abbrev pub ServerStands : Option Given → Server → Type 0
  ServerStands None server = IsUnheard server
  ServerStands (Some given) server = HasGiven given server × IsForClient given

  abbrev pub copy_at : Moment → Draw → Arrival Message
  copy_at now draw = record { at = now; from = way.at; draw = draw; what = road.message }

heard_again : (seen : List Entry) (now : Moment) (from : Peer) (m : Message) (options : List NumberAndValue) (sealed : List ℕ) (noted : Remembered)
    → m.kind ≡ Confirmable → looked now from m.id seen ≡ Some noted
    → heard seen now from (received.Message (in_place m 2 options sealed)) ≡ heard_as.Alone (again from noted.reply)
heard_again seen now from m options sealed noted kind found = rw (kind, found) refl

protected_again : (seen : List Entry) (now : Moment) (from : Peer) (m : Message) (v sealed : List ℕ) (noted : Remembered) → m.kind ≡ Confirmable → looked now from m.id seen ≡ Some noted
    → heard seen now from (received.Message (protected m 2 v sealed)) ≡ heard_as.Alone (again from noted.reply)
protected_again seen now from m v sealed noted kind found =
    let options : List NumberAndValue = merge (outer_options m.options) ((9, v) ∷ []) in
    heard_again seen now from m options sealed noted kind found

-- what is found of a confirmable message once it was answered
answered_found : TableLaws → (endpoint : EndpointState) (came : Arrival Message) (later : Moment) (answer : Message) → came.what.kind ≡ Confirmable
    → later.ms < came.at.ms + exchange_lifetime
    → looked later came.from came.what.id (answered endpoint came answer).seen ≡ Some (record { until = came.at.ms + exchange_lifetime; reply = Some (spelling answer) })
answered_found table endpoint came later answer kind lives =
    rw kind (table.noted came.at later came.from came.what.id (record { until = came.at.ms + exchange_lifetime; reply = Some (spelling answer) }) endpoint.seen lives)

module _ (is_sealing : Sealings) (tag : Tags) (laws : RoundLaws is_sealing tag) (table : TableLaws) (road : OnTheRoad) (is : IsOnTheRoad is_sealing road)
    (old new : Server) (now : Moment) (step : Step) where
  abbrev its : StraightRequest
  its = road.way

  meant_then : IsUnheard is_sealing road old → IsWithin (route_of its) now → IsLive (standing_of its.server now) its.held
      → meant (standing_of old now) its.held.name.client_id its.held.name.id_context old.desk.table ≡ Some its.held
  meant_then un time live =
      ap (λ (tree : Tree). meant (record { at = now; tree = tree }) its.held.name.client_id its.held.name.id_context old.desk.table) un.tree
      ∙ ap (λ (desk : DeskState). meant (record { at = now; tree = its.server.tree }) its.held.name.client_id its.held.name.id_context desk.table) un.desk
      ∙ laws.meant_is (standing_of its.server now) its.server.desk.table its.held is.table is.here live

  awaits_then : IsUnheard is_sealing road old → IsWithin (route_of its) now → IsLive (standing_of its.server now) its.held → AwaitsRequest old now its.at its.held its.number is.bare.id
  awaits_then un time live = record {
    lawful = is.lawful;
    means = meant_then un time live;
    number_lawful = is.number;
    fresh = is.fresh;
    unheard = subst (λ (id : ℕ). looked now its.at id old.endpoint.seen ≡ None) (sym is.bare_id) (un.unheard now time.0);
  }

  -- the first copy
  pub first_copy : (draw : Draw) → IsUnheard is_sealing road old → IsWithin (route_of its) now → IsLive (standing_of its.server now) its.held
      → ServerHears is_sealing old (in_bytes (copy_at is_sealing road now draw)) step new
      → (given : Given) × IsServedAt road now given step × HasGiven is_sealing road given new × IsForClient is_sealing road given
  first_copy draw un time live hears =
      let came : Arrival Message = copy_at is_sealing road now draw in
      let request : OpenedRequest = record { held = its.held; number = its.number; text = plain_bytes is.bare } in
      let it : IsServed is_sealing old came request step new =
      request_served is_sealing laws.request old came its.held its.number is.bare step new (awaits_then un time live) is.for_server is.made is.carried hears in
      let limits : IsWithinLimits old.tree = subst IsWithinLimits (sym un.tree) is.limits in
      let given : Given = record { reply = it.reply; tree = new.tree; desk = new.desk; answer = it.answer } in (
        given,
        record {
          applied =
              subst (λ (tree : Tree). AppliesTo tree (apply_read its.server.desk.rules.revoked tree its.held.scope (read_request its.text)) it.reply new.tree) un.tree
              (subst (λ (desk : DeskState). AppliesTo old.tree (apply_read desk.rules.revoked old.tree its.held.scope (read_request its.text)) it.reply new.tree) un.desk
              (subst (λ (text : List ℕ). AppliesTo old.tree (apply_read old.desk.rules.revoked old.tree its.held.scope (read_request text)) it.reply new.tree) (sym is.text) it.applied));
          desk = subst (λ (desk : DeskState). HasServed its.held.name.client_id its.number desk new.desk) un.desk it.desk;
          told = it.told
              ∙ ap (λ (text : List ℕ). let s : Step = record { out = datagram its.at it.answer ∷ []; notes = notes_of_request now its.held (holder_at its.held.name.client_id old.desk.table) its.number text it.reply } in s) (sym is.text)
              ∙ ap (λ (desk : DeskState). let s : Step = record { out = datagram its.at it.answer ∷ []; notes = notes_of_request now its.held (holder_at its.held.name.client_id desk.table) its.number its.text it.reply } in s) un.desk;
        },
        record {
          tree = refl;
          desk = refl;
          until = now.ms + exchange_lifetime;
          lasts = omega (arith, time.0);
          found = λ later lives.
              ap (λ (s : Server). looked later its.at road.message.id s.endpoint.seen) it.kept
              ∙ answered_found table old.endpoint came later it.answer is.kind lives;
        },
        record {
          plain = plain is_sealing tag laws old came request step new is.kind is.id is.token limits it;
          protected = it.protected;
          kind = plain_kind is_sealing tag laws old came request step new is.kind is.id is.token limits it;
          id = plain_id is_sealing tag laws old came request step new is.kind is.id is.token limits it;
          carries =
              let c = carries is_sealing tag laws old came request step new is.kind is.id is.token limits it its.asked its.server_at road.message
              (plain is_sealing tag laws old came request step new is.kind is.id is.token limits it)
              (in_acknowledgement
              (plain_kind is_sealing tag laws old came request step new is.kind is.id is.token limits it)
              (plain_id is_sealing tag laws old came request step new is.kind is.id is.token limits it))
              refl (plain_inside is_sealing tag laws old came request step new is.kind is.id is.token limits it) refl in
              record {
                comes = in_acknowledgement
                    (plain_kind is_sealing tag laws old came request step new is.kind is.id is.token limits it)
                    (plain_id is_sealing tag laws old came request step new is.kind is.id is.token limits it);
                token = c.token;
                inside = c.inside;
                plaintext = c.plaintext;
                within = c.within;
                least = c.least;
                most = c.most;
              };
          carried = answer_sendable is_sealing tag laws old came request step new is.kind is.id is.token limits it;
        },
      )

  -- each later one
  pub later_copy : (draw : Draw) (given : Given) → HasGiven is_sealing road given old → IsWithin (route_of its) now
      → ServerHears is_sealing old (in_bytes (copy_at is_sealing road now draw)) step new
      → (step ≡ sends (datagram its.at given.answer ∷ [])) × (new ≡ old)
  later_copy draw given has time hears =
      let v = request_value its.held.name its.number in
      let noted : Remembered = record { until = has.until; reply = Some (spelling given.answer) } in
      let as_it : hears.received ≡ received.Message (protected is.bare 2 v is.made.sealed) =
      received_as laws.request.one_reception road.message hears.received is.carried hears.receives ∙ ap received.Message is.made.whole in
      let found : looked now its.at is.bare.id old.endpoint.seen ≡ Some noted =
      subst (λ (id : ℕ). looked now its.at id old.endpoint.seen ≡ Some noted) (sym is.bare_id) (has.found now (omega (arith, time.1, has.lasts))) in
      let heard_is : heard old.endpoint.seen now its.at hears.received ≡ heard_as.Alone (again its.at noted.reply) =
      ap (λ (r : Received). heard old.endpoint.seen now its.at r) as_it
      ∙ protected_again old.endpoint.seen now its.at is.bare v is.made.sealed noted is.for_server.kind found in
      subst (λ (h : Heard). ServerAnswers is_sealing old (in_bytes (copy_at is_sealing road now draw)) h step new) heard_is hears.answers

  -- a tick
  pub tick_before : IsUnheard is_sealing road old → ServerTicks old now step new → IsUnheard is_sealing road new
  tick_before un ticks = record {
    tree = ap (λ (s : Server). s.tree) ticks.kept ∙ un.tree;
    desk = ap (λ (s : Server). s.desk) ticks.kept ∙ un.desk;
    unheard = λ later after.
        ap (λ (s : Server). looked later its.at road.message.id s.endpoint.seen) ticks.kept
        ∙ unheard_at_tick now later its.at road.message.id old.endpoint.seen (un.unheard later after);
  }

  pub tick_after : (given : Given) → HasGiven is_sealing road given old → IsWithin (route_of its) now → ServerTicks old now step new → HasGiven is_sealing road given new
  tick_after given has time ticks = record {
    tree = ap (λ (s : Server). s.tree) ticks.kept ∙ has.tree;
    desk = ap (λ (s : Server). s.desk) ticks.kept ∙ has.desk;
    until = has.until;
    lasts = has.lasts;
    found = λ later lives.
        ap (λ (s : Server). looked later its.at road.message.id s.endpoint.seen) ticks.kept
        ∙ table.stays now later its.at road.message.id (record { until = has.until; reply = Some (spelling given.answer) }) old.endpoint.seen
        (omega (arith, time.1, has.lasts)) (has.found later lives);
  }
