-- What is promised of a request over a network that loses, from its account; and that a request that a client asked is on the road.
use Rattle.std.proofs.Common.{◌≡◌, ◌≢◌, ◌∙◌, sym, ap, subst, refl, Bool, true, ℕ, ◌+◌, ◌^◌, ◌<◌, ◌≤◌, List, [], ◌∷◌, ◌++◌, length, Option, Some, None, arith}
use Rattle.std.specs.Prelude.{IfSome}
use Rattle.std.specs.List.{AllByRecursion}
use Rattle.std.proofs.lemmas.Bool.{lt-ltb}
use Rattle.std.proofs.lemmas.Option.{same_Some}
use Rattle.osc_model.specs.declared.node.Moment.{Moment}
use Rattle.osc_model.specs.declared.node.Peer.{Peer}
use Rattle.osc_model.specs.declared.step.Datagram.{Datagram}
use Rattle.osc_model.specs.declared.step.Step.{Step}
use Rattle.osc_coap.specs.{spelling}
use Rattle.osc_coap.specs.Message.{Message}
use Rattle.osc_dedup.specs.{looked}
use Rattle.osc_message.specs.{Open, Sent, datagram, own_id}
use Rattle.osc_message.specs.{with_open}
use Rattle.osc_message.specs.Pace.{Pace, allowed, goes_at_once, sent_at}
use Rattle.osc_message.specs.Schedule.{done_over, schedule}
use Rattle.osc_message.specs.Timeout.{timeout_of}
use Rattle.osc_message.specs.declared.due.Due.{Due}
use Rattle.osc_protect.specs.{HasShortContext, plain_bytes}
use Rattle.osc_ccm.specs.{Sealings, Tags}
use Rattle.osc_authz.specs.{ClientContextState}
use Rattle.osc_authz.specs.SecurityContext.{SecurityContext}
use Rattle.osc_server.specs.State.{State as Server}
use Rattle.osc_client.specs.{IsLawfulClient, Asked}
use Rattle.osc_client.specs.State.{State as Client}
use Rattle.osc_rounds.specs.{IsStraight, MayAsk}
use Rattle.osc_rounds.specs.AskRound.{IsLawfulServer}
use Rattle.osc_rounds.specs.Loss.{AreWithin, ClientTick, Ends, Given, Goes, Happening, LivesAtFirst, OnTheRoad, request_of, route_of}
use Rattle.osc_rounds.proofs.LossAccount.{Account, ComesTo, IsAccount, first_account, open_as}
use Rattle.osc_rounds.specs.LossClaim.{EndsOnce, IsAskedOverLoss, IsByTimetable, IsServedFirst, IsServedOnce, IsServedOverLoss, answered, gave_up, happening_of, served, ticks_of, unheard, waits}
use Rattle.osc_rounds.proofs.AskRound as round
use Rattle.osc_rounds.proofs.AskRound.{RoundLaws}
use Rattle.osc_rounds.proofs.Sent.{IsSent}
use Rattle.osc_rounds.proofs.LossServer.{IsOnTheRoad, IsUnheard, ServerStands, TableLaws}
use Rattle.osc_rounds.proofs.Unheard.{unheard_later}
use Rattle.osc_rounds.proofs.LossClient.{Asks as AsksNow, ClientStands}
use Rattle.osc_rounds.proofs.LossRound.{Stands, addressed, goes_by_account}
use Rattle.osc_rounds.proofs.LossServed.{GivesOnce, gives_once, nothing, something}
use Rattle.osc_rounds.proofs.LossAnswered.{LearnsOnce, learns_in_time, learns_once, learnt, over, still, timed}

-- ---- a list of happenings in two

module _ (road : OnTheRoad) where
  pub record IsSplit (before : List Happening) (one : Happening) (after : List Happening) (old last : Account) : Type 0 where
    pub mid : Account
    pub next : Account
    pub leads : IsAccount road old before mid
    pub comes : ComesTo road mid one.event one.step next
    pub goes_on : IsAccount road next after last

  split_at : (before : List Happening) (one : Happening) (after : List Happening) (old last : Account) → IsAccount road old (before ++ one ∷ after) last
      → IsSplit before one after old last
  split_at [] one after old last is = record { mid = old; next = is.0; leads = refl; comes = is.1; goes_on = is.2 }
  split_at (first ∷ before) one after old last is =
      let rest = split_at before one after is.0 last is.2 in
      record { mid = rest.mid; next = rest.next; leads = (is.0, is.1, rest.leads); comes = rest.comes; goes_on = rest.goes_on }

-- ---- what is promised

module _ (is_sealing : Sealings) (tag : Tags) (laws : RoundLaws is_sealing tag) (table : TableLaws)
    (scheduled : (message : Open) (went : Moment) (ticks : List Moment) → done_over message (record { at = went; repeats = 0 }) ticks ≡ schedule went message.timeout ticks)
    (road : OnTheRoad) (is : IsOnTheRoad is_sealing road) where
  abbrev first_sent : Sent
  first_sent = record { at = road.went; repeats = 0 }

  by_timetable : (all : List Happening) (last : Account) → IsAccount road (first_account road) all last → IsByTimetable road all
  by_timetable all last account before after now step all_is none =
      let split = split_at road before (happening_of (ClientTick now) step) after (first_account road) last
      (subst (λ (l : List Happening). IsAccount road (first_account road) l last) all_is account) in
      let it = timed road first_sent before None first_sent split.mid now step split.next none split.leads split.comes in (
        it.0,
        sym (scheduled (open_as road first_sent) road.went (ticks_of before ++ now ∷ [])) ∙ it.1
            ∙ ap (λ (l : List (Moment × Due)). l ++ it.0) (scheduled (open_as road first_sent) road.went (ticks_of before)),
        it.2,
      )

  served_of : (all : List Happening) (last : Account) (ends : Ends) → ServerStands is_sealing road last.given ends.server → GivesOnce road all last → IsServedOnce road all ends.server
  served_of all last ends stands (nothing nowhere entries given) =
      let un : IsUnheard is_sealing road ends.server = subst (λ (g : Option Given). ServerStands is_sealing road g ends.server) given stands in
      unheard nowhere entries un.tree un.desk
  served_of all last ends stands (something given it has) =
      let so : ServerStands is_sealing road (Some given) ends.server = subst (λ (g : Option Given). ServerStands is_sealing road g ends.server) has stands in
      served given it so.0.tree so.0.desk

  some_waits : (client : Client) (sent : Sent) → AsksNow road sent client → client.waiting ≢ None
  some_waits client sent asks none = let wrong : Some asks.awaits.waiting ≡ None = sym asks.awaits.waits ∙ none in cc

  same_given : (all : List Happening) (last : Account) (given : Given) → last.given ≡ Some given → GivesOnce road all last → IsServedFirst road all given
  same_given all last given has (nothing nowhere entries none) = let wrong : Some given ≡ None = sym has ∙ none in absurd (cc)
  same_given all last given has (something other it is_other) = subst (IsServedFirst road all) (same_Some other given (sym is_other ∙ has)) it

  ends_of : (all : List Happening) (last : Account) (ends : Ends) → ClientStands road last.asking ends.client → GivesOnce road all last → LearnsOnce road all last
      → EndsOnce road all ends.client
  ends_of all last ends stands gives (still none results sent asking) =
      waits none results (some_waits ends.client sent (subst (λ (s : Option Sent). ClientStands road s ends.client) asking stands))
  ends_of all last ends stands gives (learnt given it has asking) =
      let done : ClientStands road None ends.client = subst (λ (s : Option Sent). ClientStands road s ends.client) asking stands in
      answered given (same_given all last given has gives) it (done.waiting, done.sending)
  ends_of all last ends stands gives (over it asking) =
      let done : ClientStands road None ends.client = subst (λ (s : Option Sent). ClientStands road s ends.client) asking stands in
      gave_up it (done.waiting, done.sending)

  pub served_over_loss : (all : List Happening) (start ends : Ends) → Stands is_sealing tag laws table road is (first_account road) start → AreWithin (route_of road.way) all → LivesAtFirst road.way all
      → Goes is_sealing (route_of road.way) start all ends → IsServedOverLoss road all ends
  served_over_loss all start ends stands time live goes =
      let it = goes_by_account is_sealing tag laws table road is all (first_account road) start ends stands time live goes in
      let last : Account = it.0 in
      let gives : GivesOnce road all last = gives_once road all (Some first_sent) last it.1 in
      let learns : LearnsOnce road all last = learns_once road all None first_sent last (record { first = refl; few = omega arith }) it.1 in
      record {
        served_once = served_of all last ends it.2.server gives;
        ends_once = ends_of all last ends it.2.client gives learns;
        asked_again = by_timetable all last it.1;
        both = λ replies.
            let answer = learns_in_time road all last replies learns in
            record { given = answer.0; served = same_given all last answer.0 answer.2 gives; answered = answer.1 };
        addressed = addressed is_sealing tag laws table road is last ends it.2;
      }

-- ---- it is on the road

module _ (is_sealing : Sealings) (tag : Tags) (laws : RoundLaws is_sealing tag) (table : TableLaws)
    (client asked : Client) (server : Server) (asks_for : Asked) (now : Moment) (at server_at : Peer) (context : ClientContextState) (held : SecurityContext) (first : Step)
    (lawful : IsLawfulServer server) (lawful_client : IsLawfulClient client) (goes : IsStraight client server now asks_for.draw at server_at)
    (ends : MayAsk client server now context held)
    (sent : IsSent is_sealing tag client asked asks_for first context) where
  pub short_name : HasShortContext context.name
  short_name = subst (λ (c : Option ClientContextState). IfSome c (λ k. HasShortContext k.name)) ends.has lawful_client.context

  abbrev pub road : OnTheRoad
  road = record {
    way = round.way is_sealing tag laws client asked server asks_for now at server_at context held first lawful short_name goes ends sent;
    went = asks_for.at;
    message = sent.message;
    timeout = timeout_of asks_for.draw;
  }

  its_id : sent.message.id ≡ own_id asks_for.draw client.endpoint.next_id
  its_id = ap (λ (m : Message). m.id) (round.its is_sealing tag laws client asked server asks_for now at server_at context held first lawful short_name goes ends sent).whole

  pub on_the_road : IsOnTheRoad is_sealing road
  on_the_road =
      let awaits = round.awaits_request is_sealing tag laws client asked server asks_for now at server_at context held first lawful short_name goes ends sent in
      let made = round.its is_sealing tag laws client asked server asks_for now at server_at context held first lawful short_name goes ends sent in
      record {
        bare = round.bare_request is_sealing tag laws client asked server asks_for now at server_at context held first lawful short_name goes ends sent;
        made = made;
        for_server = round.for_server is_sealing tag laws client asked server asks_for now at server_at context held first lawful short_name goes ends sent;
        text = ap plain_bytes (round.plain_is is_sealing tag laws client asked server asks_for now at server_at context held first lawful short_name goes ends sent);
        carried = round.sendable is_sealing tag laws client asked server asks_for now at server_at context held first lawful short_name goes ends sent;
        kind = ap (λ (m : Message). m.kind) made.whole;
        id = subst (λ (m : Message). m.id < 2 ^ 16) (sym made.whole)
            (round.few is_sealing tag laws client asked server asks_for now at server_at context held first lawful short_name goes ends sent);
        token = subst (λ (m : Message). length m.token ≤ 8) (sym made.whole)
            (round.token_short is_sealing tag laws client asked server asks_for now at server_at context held first lawful short_name goes ends sent);
        bare_id = ap (λ (m : Message). m.id) (sym made.whole);
        lawful = awaits.lawful;
        number = awaits.number_lawful;
        fresh = awaits.fresh;
        table = lawful.table;
        here = ends.here;
        limits = lawful.limits;
      }

  abbrev pub start : Ends
  start = record { client = asked; server = server; requests = first.out; replies = [] }

  -- one message is open so, which goes out at once
  abbrev opens : Peer → ℕ → Bool → List Open
  opens to id at_once =
      (record { to = to; id = id; timeout = timeout_of asks_for.draw; bytes = spelling sent.message; sent = sent_at asks_for.at at_once }) ∷ []

  at_once : (pace : Pace) (to : Peer) → goes_at_once pace to [] ≡ true
  at_once pace to = lt-ltb 0 (allowed pace to) (omega arith)

  -- the message is the only one that is open
  opened_alone : asked.endpoint.sending ≡ open_as road (record { at = asks_for.at; repeats = 0 }) ∷ []
  opened_alone =
      ap (λ (c : Client). c.endpoint.sending) sent.kept
      ∙ ap (λ (all : List Open). with_open client.endpoint.pace asks_for.at client.next_hop (own_id asks_for.draw client.endpoint.next_id) (timeout_of asks_for.draw) (spelling sent.message) all)
      (lawful_client.still ends.idle)
      ∙ ap (opens client.next_hop (own_id asks_for.draw client.endpoint.next_id)) (at_once client.endpoint.pace client.next_hop)
      ∙ ap (λ (to : Peer). opens to (own_id asks_for.draw client.endpoint.next_id) true) goes.next_hop
      ∙ ap (λ (id : ℕ). opens server_at id true) (sym its_id)

  sent_alone : first.out ≡ request_of road ∷ []
  sent_alone = ap (λ (s : Step). s.out) sent.told ∙ ap (λ (to : Peer). datagram to sent.message ∷ []) goes.next_hop

  pub starts : Stands is_sealing tag laws table road on_the_road (first_account road) start
  starts = record {
    client = record {
      awaits = round.awaits is_sealing tag laws client asked server asks_for now at server_at context held first lawful short_name goes ends sent;
      sending = opened_alone;
      few = omega arith;
    };
    server = record {
      tree = refl;
      desk = refl;
      unheard = λ later after.
          subst (λ (id : ℕ). looked later at id server.endpoint.seen ≡ None) (sym its_id)
          (unheard_later now later at (own_id asks_for.draw client.endpoint.next_id) server.endpoint.seen after goes.unheard);
    };
    requests = subst (λ (all : List Datagram). AllByRecursion (λ sent. sent ≡ request_of road) all) (sym sent_alone) (refl, tt);
    replies = refl;
  }

  pub asked_over_loss : ((message : Open) (went : Moment) (ticks : List Moment) → done_over message (record { at = went; repeats = 0 }) ticks ≡ schedule went message.timeout ticks)
      → IsAskedOverLoss is_sealing road.way client asks_for first
  asked_over_loss scheduled = record {
    message = sent.message;
    out = ap (λ (s : Step). s.out) sent.told;
    unserved = ap (λ (s : Step). s.notes.served) sent.told;
    goes = λ all last time live it. served_over_loss is_sealing tag laws table scheduled road on_the_road all start last starts time live it;
  }
