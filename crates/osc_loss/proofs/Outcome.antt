-- What is promised of a message over a network that loses, from its account.
use Rattle.std.proofs.Common.{◌≡◌, ◌≢◌, ◌∙◌, sym, ap, subst, refl, List, [], ◌∷◌, ◌++◌, Option, Some, None, arith}
use Rattle.std.specs.List.{AllByRecursion}
use Rattle.std.proofs.lemmas.Option.{same_Some}
use Rattle.osc_model.specs.declared.node.Draw.{Draw}
use Rattle.osc_model.specs.declared.node.Moment.{Moment}
use Rattle.osc_model.specs.declared.step.Datagram.{Datagram}
use Rattle.osc_model.specs.declared.step.Step.{Step}
use Rattle.osc_dedup.specs.{looked}
use Rattle.osc_message.specs.{Open, Sent, done_over, schedule}
use Rattle.osc_message.specs.declared.due.Due.{Due}
use Rattle.osc_ccm.specs.{Sealings}
use Rattle.osc_authz.specs.{ClientContextState}
use Rattle.osc_server.specs.State.{State as Server}
use Rattle.osc_client.specs.State.{State as Client}
use Rattle.osc_rounds.specs.{Ends}
use Rattle.osc_rounds.proofs.Unheard.{unheard_later}
use Rattle.osc_loss.specs.Road.{ClientTick, Happening, Road, happening_of}
use Rattle.osc_loss.specs.Round.{EndsOnce, Given, IsAnsweredOverLoss, IsAnsweredWhateverComes, IsByTimetable, IsTakenUpFirst, IsTakenUpOnce, answered, gave_up, request_of, taken_up, ticks_of, unheard, waits}
use Rattle.osc_loss.proofs.Account.{Account, ComesTo, IsAccount, account_of}
use Rattle.osc_loss.proofs.AccountServer.{GivesOnce, gives_once, nothing, something}
use Rattle.osc_loss.proofs.AccountClient.{LearnsOnce, learns_in_time, learns_once, learnt, over, still, timed}
use Rattle.osc_loss.proofs.Going.{ClientStands, IsRound, Led, RoundLaws, Stands, goes_by_account}
use Rattle.osc_loss.proofs.Ticking.{IsDone, open_as}

module _ (is_sealing : Sealings) (Makes : Server → Moment → Draw → Step → Server → Given → Type 0) (Keeps : Given → Option ClientContextState → Type 0) (Ready : Server → Moment → Draw → Type 0)
    (Fits : Given → Type 0) (road : Road) (first : Client) (laws : RoundLaws) (is : IsRound is_sealing Makes Keeps Ready Fits road first)
    (scheduled : (message : Open) (went : Moment) (ticks : List Moment) → done_over message (record { at = went; repeats = 0 }) ticks ≡ schedule went message.timeout ticks) where
  abbrev first_sent : Sent
  first_sent = record { at = road.went; repeats = 0 }

  abbrev first_account : Account
  first_account = account_of None (Some first_sent) first.context

  abbrev Leads : Ends → Account → List Happening → Ends → Account → Type 0
  Leads ends old all last new = IsAccount is_sealing Makes Keeps road ends old all last new

  -- ---- a list of happenings in two

  record IsSplit (before : List Happening) (one : Happening) (after : List Happening) (ends : Ends) (old : Account) (last : Ends) (end : Account) : Type 0 where
    mid : Ends
    account : Account
    next_ends : Ends
    next : Account
    leads : Leads ends old before mid account
    comes : ComesTo is_sealing Makes Keeps road mid account one.event one.step next_ends next

  split_at : (before : List Happening) (one : Happening) (after : List Happening) (ends : Ends) (old : Account) (last : Ends) (end : Account)
      → Leads ends old (before ++ one ∷ after) last end → IsSplit before one after ends old last end
  split_at [] one after ends old last end it =
      record { mid = ends; account = old; next_ends = it.0; next = it.1; leads = (refl, refl); comes = it.3 }
  split_at (happening ∷ before) one after ends old last end it =
      let rest = split_at before one after it.0 it.1 last end it.4 in
      record {
        mid = rest.mid;
        account = rest.account;
        next_ends = rest.next_ends;
        next = rest.next;
        leads = (it.0, it.1, it.2, it.3, rest.leads);
        comes = rest.comes;
      }

  -- ---- each part of what is promised

  module _ (all : List Happening) (start last : Ends) (led : Led is_sealing Makes Keeps Ready Fits road first laws is start first_account all last) where
    by_timetable : IsByTimetable road all
    by_timetable before after now step all_is none =
        let split = split_at before (happening_of (ClientTick now) step) after start first_account last led.end
        (subst (λ (l : List Happening). Leads start first_account l last led.end) all_is led.leads) in
        let it = timed is_sealing Makes Keeps road first_sent before start None first_sent first.context split.mid split.account now step split.next_ends split.next none split.leads split.comes in (
          it.0,
          sym (scheduled (open_as road first_sent) road.went (ticks_of before ++ now ∷ [])) ∙ it.1
              ∙ ap (λ (l : List (Moment × Due)). l ++ it.0) (scheduled (open_as road first_sent) road.went (ticks_of before)),
          it.2,
        )

    abbrev Gives : Type 0
    Gives = GivesOnce is_sealing Makes Keeps road start all last led.end

    abbrev Learns : Type 0
    Learns = LearnsOnce is_sealing Makes Keeps road all led.end

    once : Gives → IsTakenUpOnce is_sealing Makes Keeps road start all last
    once (nothing nowhere entries given) = unheard nowhere entries
    once (something given it has) = taken_up given it

    same_given : (given : Given) → led.end.given ≡ Some given → Gives → IsTakenUpFirst is_sealing Makes Keeps road start all last given
    same_given given has (nothing nowhere entries none) = let wrong : Some given ≡ None = sym has ∙ none in absurd (cc)
    same_given given has (something other it is_other) = subst (IsTakenUpFirst is_sealing Makes Keeps road start all last) (same_Some other given (sym is_other ∙ has)) it

    abbrev StandsSo : Option Sent → Option ClientContextState → Type 0
    StandsSo asking context = ClientStands is_sealing Makes Keeps Ready Fits road first laws is asking context last.client

    waiting_so : (sent : Sent) → led.end.asking ≡ Some sent → last.client.waiting ≢ None
    waiting_so sent asking none =
        let stands : StandsSo (Some sent) led.end.context = subst (λ (s : Option Sent). StandsSo s led.end.context) asking led.client in
        let wrong : Some is.waits.waiting ≡ None = sym is.waits.waits ∙ sym (ap (λ (c : Client). c.waiting) stands.0.kept) ∙ none in
        cc

    done_so : led.end.asking ≡ None → IsDone last.client × (last.client.context ≡ led.end.context)
    done_so asking = subst (λ (s : Option Sent). StandsSo s led.end.context) asking led.client

    ends_of : Gives → Learns → EndsOnce is_sealing Makes Keeps road start all last
    ends_of gives (still none results sent asking) = waits none results (waiting_so sent asking)
    ends_of gives (learnt given it has asking context) =
        let done = done_so asking in
        answered given (same_given given has gives) it (done.0.waiting, done.0.sending) (subst (Keeps given) (sym done.1) context)
    ends_of gives (over it asking) =
        let done = done_so asking in
        gave_up it (done.0.waiting, done.0.sending)

    pub answered_over_loss : IsAnsweredOverLoss is_sealing Makes Keeps road start all last
    answered_over_loss =
        let gives : Gives = gives_once is_sealing Makes Keeps road all (Some first_sent) first.context start last led.end led.leads in
        let learns : Learns =
        learns_once is_sealing Makes Keeps road all start None first_sent first.context last led.end (record { first = refl; few = omega arith }) led.leads in
        record {
          taken_up_once = once gives;
          ends_once = ends_of gives learns;
          sent_again = by_timetable;
          both = λ replies.
              let it = learns_in_time is_sealing Makes Keeps road all led.end replies learns in
              record { given = it.0; taken_up = same_given it.0 it.2 gives; learnt = it.1 };
        }

  -- ---- from where the message has just gone out

  pub answered_whatever_comes : (server : Server) (out : List Datagram) → out ≡ request_of road ∷ []
      → first.endpoint.sending ≡ open_as road first_sent ∷ [] → looked road.route.now road.route.at road.message.id server.endpoint.seen ≡ None
      → IsAnsweredWhateverComes is_sealing Makes Keeps road (record { client = first; server = server; requests = out; replies = [] }) Ready
  answered_whatever_comes server out sent sending new_there all last goes time remembers leaves ready =
      let start : Ends = record { client = first; server = server; requests = out; replies = [] } in
      let stands : Stands is_sealing Makes Keeps Ready Fits road first laws is None 0 (Some first_sent) first.context start = record {
        client = (record { kept = refl; sending = sending; few = omega arith }, refl);
        server = λ later after. unheard_later road.route.now later road.route.at road.message.id server.endpoint.seen after new_there;
        requests = subst (λ (all : List Datagram). AllByRecursion (λ sent. sent ≡ request_of road) all) (sym sent) (refl, tt);
        replies = refl;
      } in
      answered_over_loss all start last
      (goes_by_account is_sealing Makes Keeps Ready Fits road first laws is all None 0 (Some first_sent) first.context start last goes stands time remembers ready leaves)
