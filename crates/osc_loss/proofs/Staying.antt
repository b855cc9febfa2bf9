-- A context stays at a server while whatever else comes there, and so the server is ready when the first copy of the request does.
use Rattle.std.proofs.Common.{◌≡◌, ◌≢◌, ◌∙◌, sym, ap, subst, refl, ℕ, ◌+◌, ◌<◌, Bool, true, false, List, [], ◌∷◌, ◌++◌, Option, Some, None, Result, inl, inr}
use Rattle.std.specs.Prelude.{◌⊎◌, filter, nat_lt}
use Rattle.std.specs.List.{AllByRecursion}
use Rattle.std.proofs.lemmas.List.Elements.{All-from_recursion, recursion_from_All}
use Rattle.osc_model.specs.{read_as}
use Rattle.osc_model.specs.Arrival.{Arrival}
use Rattle.osc_model.specs.declared.algorithm.Algorithm.TheVariants.{EightByteTag}
use Rattle.osc_model.specs.declared.context.ContextName.{ContextName}
use Rattle.osc_model.specs.declared.node.Draw.{Draw}
use Rattle.osc_model.specs.declared.node.Moment.{Moment}
use Rattle.osc_model.specs.declared.step.Entry.{Entry}
use Rattle.osc_model.specs.declared.step.Step.{Step}
use Rattle.osc_coap.specs.Message.{Message}
use Rattle.osc_options.specs.{read_request}
use Rattle.osc_ccm.specs.{Sealings}
use Rattle.osc_window.specs.{IsFresh, put, width, with_accepted, is_near}
use Rattle.osc_authz.specs.{Answers, DeskState, HasAdded, HasTaken, In, IsLive, IsConfirmedOf, IsPendingOf, IsTable, LastAnswerState, OfToken, Posts, accepted, alive, answered_by, confirmed_by, contexts, holder_at, listed, meant, of_token, of_tokens, remembering, with_pending}
use Rattle.osc_authz.specs.Agreement as judged
use Rattle.osc_authz.specs.Post as posted
use Rattle.osc_authz.specs.Posting.{Offer, Posting}
use Rattle.osc_authz.specs.SecurityContext.{SecurityContext}
use Rattle.osc_authz.specs.Standing.{Standing}
use Rattle.osc_authz.specs.declared.agreed_post.AgreedPost.{AgreedPost}
use Rattle.osc_authz.specs.declared.post.Post.{Post}
use Rattle.osc_authz.specs.declared.post.PostReply.{PostReply}
use Rattle.osc_authz.specs.declared.error.PostError.{PostError}
use Rattle.osc_authz.specs.declared.token_entry.TokenEntry.{TokenEntry}
use Rattle.osc_server.specs.State.{State as Server}
use Rattle.osc_server.specs.{AnswersPost, Hears, Serves, answer_to, nonce_of_post, standing_of}
use Rattle.osc_rounds.specs.{Ends, IsLawfulServer, Route}
use Rattle.osc_loss.specs.Road.{AtClient, AtServer, ClientTick, Event, Goes, Happening, Happens, IsReadyAtFirst, IsReadyBy, OtherAtClient, OtherAtServer, ServerTick}
use Rattle.osc_loss.specs.Session.{MayServe, RequestOnItsWay}
use Rattle.osc_loss.specs.Staying.{AreLeavingContext, AreLeavingContextBy, HasFresh, IsLiveThere, LeavesContext, StaysLive, StaysLiveBy}
use Rattle.osc_loss.proofs.AnyServer.{DeskDoes, Notes, a_message, judges, notes, nothing, nothing_there, serves}

-- ---- the window

module _ (P : ℕ → Type 0) where
  put_all : (n : ℕ) (all : List ℕ) → P n → AllByRecursion P all → AllByRecursion P (put n all)
  put_all n [] p are = (p, tt)
  put_all n (m ∷ later) p are = at (nat_lt m n) refl (put_all n later p are.1)
    where
      at : (b : Bool) → nat_lt m n ≡ b → AllByRecursion P (put n later) → AllByRecursion P (put n (m ∷ later))
      at true less rest = rw less (are.0, rest)
      at false more rest = rw more (p, (are.0, are.1))

  filter_all : (keeps : ℕ → Bool) (all : List ℕ) → AllByRecursion P all → AllByRecursion P (filter keeps all)
  filter_all keeps [] are = tt
  filter_all keeps (m ∷ later) are = at (keeps m) refl (filter_all keeps later are.1)
    where
      at : (b : Bool) → keeps m ≡ b → AllByRecursion P (filter keeps later) → AllByRecursion P (filter keeps (m ∷ later))
      at true stays rest = rw stays (are.0, rest)
      at false out rest = rw out rest

fresh_still : (window : List ℕ) (n number : ℕ) → IsFresh window number → n ≢ number → n < number + width → IsFresh (with_accepted window n) number
fresh_still window n number fresh other near =
    let P : ℕ → Type 0 = λ m. (m ≢ number) × (m < number + width) in
    All-from_recursion P (with_accepted window n) (filter_all P (is_near (put n window)) (put n window) (put_all P n window (other, near) (recursion_from_All P window fresh)))

-- ---- the contexts of a table

in_parts : (token : List ℕ) (confirmed pending : Option SecurityContext) (rest : List OfToken) (others : List SecurityContext) (c : OfToken)
    → (In c rest → In c.held others) → In c (of_token token true confirmed ++ of_token token false pending ++ rest) → In c.held (listed confirmed ++ listed pending ++ others)
in_parts token None None rest others c more here = more here
in_parts token (Some one) None rest others c more (inl same) = inl (ap (λ (o : OfToken). o.held) same)
in_parts token (Some one) None rest others c more (inr here) = inr (more here)
in_parts token None (Some one) rest others c more (inl same) = inl (ap (λ (o : OfToken). o.held) same)
in_parts token None (Some one) rest others c more (inr here) = inr (more here)
in_parts token (Some one) (Some two) rest others c more (inl same) = inl (ap (λ (o : OfToken). o.held) same)
in_parts token (Some one) (Some two) rest others c more (inr (inl same)) = inr (inl (ap (λ (o : OfToken). o.held) same))
in_parts token (Some one) (Some two) rest others c more (inr (inr here)) = inr (inr (more here))

in_contexts : (table : List TokenEntry) (c : OfToken) → In c (of_tokens table) → In c.held (contexts table)
in_contexts [] c here = absurd here
in_contexts (entry ∷ table) c here = in_parts entry.id entry.confirmed entry.pending (of_tokens table) (contexts table) c (in_contexts table c) here

-- ---- the laws below

pub record StayLaws : Type 0 where
  pub added : (on : Standing) (token : List ℕ) (held : SecurityContext) (remember : List AgreedPost → List AgreedPost) (table : List TokenEntry)
      → IsTable (with_pending token held remember (alive on table))
      → HasAdded on token held (of_tokens table) (of_tokens (with_pending token held remember (alive on table)))
  pub taken : (on : Standing) (number : ℕ) (context : OfToken) (table : List TokenEntry)
      → IsTable table → In context (of_tokens table)
      → HasTaken on number context (of_tokens table) (of_tokens (accepted context.held.name.client_id number table))
  pub tokens : (answers : Bool) (id : List ℕ) (last : LastAnswerState) (table : List TokenEntry)
      → of_tokens (answered_by answers id last table) ≡ of_tokens (accepted id last.number table)
  pub meant_is : (on : Standing) (kid : List ℕ) (kid_context : Option (List ℕ)) (table : List TokenEntry) (held : SecurityContext)
      → meant on kid kid_context table ≡ Some held
      → (context : OfToken) × In context (of_tokens table) × (context.held ≡ held)
      × IsLive on held × (held.name.client_id ≡ kid) × (holder_at kid table ≡ Some context.token)
  pub one_context : (table : List TokenEntry) (context other : OfToken)
      → IsTable table → In context (of_tokens table) → In other (of_tokens table)
      → context.held.name.client_id ≡ other.held.name.client_id → context ≡ other

-- ---- a step of the server

module _ (is_sealing : Sealings) (laws : StayLaws) (request : RequestOnItsWay) (token : List ℕ) where
  by_desk : (old new : Server) → new.desk ≡ old.desk → HasFresh request token old → HasFresh request token new
  by_desk old new same has = record {
    context = has.context;
    here = subst (λ (desk : DeskState). In has.context (of_tokens desk.table)) (sym same) has.here;
    its_token = has.its_token;
    one_name = has.one_name;
    fresh = has.fresh;
  }

  module _ (old new : Server) (came : Arrival (List ℕ)) (step : Step) (has : HasFresh request token old) (leaves : LeavesContext request token step.notes)
      (live : IsLiveThere request old came.at) (lawful : IsLawfulServer new) where
    abbrev on : Standing
    on = standing_of old came.at

    its_live : IsLive on has.context.held
    its_live = live.live has.context has.here has.one_name

    -- a request is served
    module _ (message : Message) (it : Serves is_sealing old (read_as came message) step new) where
      abbrev table : List TokenEntry
      table = old.desk.table

      meant_one : (context : OfToken) × In context (of_tokens table) × (context.held ≡ it.held)
          × IsLive on it.held × (it.held.name.client_id ≡ it.request.kid) × (holder_at it.request.kid table ≡ Some context.token)
      meant_one = laws.meant_is on it.request.kid it.request.kid_context table it.held it.opened.meant.is_meant

      abbrev one : OfToken
      one = meant_one.0

      abbrev number : ℕ
      number = it.request.number

      kid_is : one.held.name.client_id ≡ it.request.kid
      kid_is = ap (λ (h : SecurityContext). h.name.client_id) meant_one.2 ∙ meant_one.4

      table_is : of_tokens new.desk.table ≡ of_tokens (accepted one.held.name.client_id number table)
      table_is =
          ap (λ (s : Server). of_tokens s.desk.table) it.sent.kept
          ∙ laws.tokens old.desk.rules.answers it.request.kid (answer_to (read_as came message) it.request it.protected.sealed) table
          ∙ ap (λ (id : List ℕ). of_tokens (accepted id number table)) (sym kid_is)

      taken : HasTaken on number one (of_tokens table) (of_tokens (accepted one.held.name.client_id number table))
      taken = laws.taken on number one table live.lawful.table meant_one.1

      abbrev entry : Entry
      entry =
          record {
            context = it.held.name;
            number = number;
            plaintext = it.text;
            request = read_request it.text;
            moment = came.at;
            reply = it.reply;
          }

      served_is : step.notes.served ≡ Some entry
      served_is = ap (λ (s : Step). s.notes.served) it.sent.sent

      holder_is : step.notes.holder ≡ Some one.token
      holder_is = ap (λ (s : Step). s.notes.holder) it.sent.sent ∙ meant_one.5

      -- it is the context itself that takes the number
      itself : has.context ≡ one → HasFresh request token new
      itself same =
          let name : it.held.name ≡ request.name = ap (λ (h : SecurityContext). h.name) (sym meant_one.2) ∙ ap (λ (c : OfToken). c.held.name) (sym same) ∙ has.one_name in
          let other = leaves.number entry served_is name in
          record {
            context = confirmed_by number one;
            here = subst (λ (all : List OfToken). In (confirmed_by number one) all) (sym table_is) taken.here;
            its_token = ap (λ (c : OfToken). c.token) (sym same) ∙ has.its_token;
            one_name = ap (λ (c : OfToken). c.held.name) (sym same) ∙ has.one_name;
            fresh = fresh_still one.held.window number request.number (subst (λ (c : OfToken). IsFresh c.held.window request.number) same has.fresh) other.0 other.1;
          }

      served_so : HasFresh request token new
      served_so = by (taken.live has.context has.here its_live)
        where
          by : In has.context (of_tokens (accepted one.held.name.client_id number table)) ⊎ ((has.context ≡ one) ⊎ IsConfirmedOf one.token has.context) → HasFresh request token new
          by (inl here) = record {
            context = has.context;
            here = subst (λ (all : List OfToken). In has.context all) (sym table_is) here;
            its_token = has.its_token;
            one_name = has.one_name;
            fresh = has.fresh;
          }
          by (inr (inl same)) = itself same
          by (inr (inr confirmed)) =
              let of_it : step.notes.holder ≡ Some token = holder_is ∙ ap (λ (t : List ℕ). Some t) (sym confirmed.0 ∙ has.its_token) in
              let name : it.held.name ≡ request.name = leaves.served entry served_is of_it in
              let names : has.context.held.name ≡ one.held.name = has.one_name ∙ sym name ∙ ap (λ (h : SecurityContext). h.name) (sym meant_one.2) in
              itself (laws.one_context table has.context one live.lawful.table has.here meant_one.1 (ap (λ (n : ContextName). n.client_id) names))

    -- a post is judged
    module _ (message : Message) (it : AnswersPost is_sealing old (read_as came message) step new) where
      by_answers : (offer : Offer) (text : List ℕ) (answer : Result PostReply PostError) (answers : Answers old.desk offer text answer new.desk)
          → offer.on ≡ on → it.post.answer ≡ answer → it.post.holder ≡ judged.holder_of answers → HasFresh request token new
      by_answers offer text answer (judged.Answers.refused error comes is same) at told holder = by_desk old new same has
      by_answers offer text answer (judged.Answers.disallowed claims scope comes below is same) at told holder = by_desk old new same has
      by_answers offer text answer (judged.Answers.revoked claims scope comes taken gone is same) at told holder = by_desk old new same has
      by_answers offer text answer (judged.Answers.full claims scope granted many is same) at told holder = by_desk old new same has
      by_answers offer text answer (judged.Answers.again claims scope made room found held is same) at told holder = by_desk old new same has
      by_answers offer text answer (judged.Answers.replayed claims scope made room found gone is same) at told holder = by_desk old new same has
      by_answers offer text answer (judged.Answers.agreed claims scope made room unknown agrees is) at told holder =
          let drawn : step.notes.drawn ≡ Some made.nonce2 =
          ap (λ (s : Step). s.notes.drawn) it.sent.sent ∙ ap nonce_of_post (told ∙ is) in
          let some : step.notes.drawn ≢ None = λ none. (let wrong : Some made.nonce2 ≡ None = sym drawn ∙ none in cc) in
          let isnt : step.notes.holder ≢ Some token = leaves.posted some in
          let holder_is : step.notes.holder ≡ Some claims.material.id = ap (λ (s : Step). s.notes.holder) it.sent.sent ∙ holder in
          let table_is = ap (λ (d : DeskState). d.table) agrees.added in
          let added = laws.added offer.on claims.material.id (judged.new_context old.desk.rules offer.on.at claims scope (judged.agreed_post offer made))
          (remembering old.desk.rules.remembered (judged.agreed_post offer made)) old.desk.table (subst IsTable table_is lawful.table) in
          by table_is (added.live has.context has.here (subst (λ (s : Standing). IsLive s has.context.held) (sym at) its_live)) (λ pending. isnt (holder_is ∙ ap (λ (t : List ℕ). Some t) (sym pending ∙ has.its_token)))
        where
          by : {after : List TokenEntry} {its : List ℕ} → new.desk.table ≡ after → In has.context (of_tokens after) ⊎ IsPendingOf its has.context → (has.context.token ≡ its → ⊥)
              → HasFresh request token new
          by table_is (inl here) isnt = record {
            context = has.context;
            here = subst (λ (t : List TokenEntry). In has.context (of_tokens t)) (sym table_is) here;
            its_token = has.its_token;
            one_name = has.one_name;
            fresh = has.fresh;
          }
          by table_is (inr pending) isnt = absurd (isnt pending.0)

      by_posts : (posting : Posting) → posting.on ≡ on → Posts (is_sealing EightByteTag) old.desk posting it.post new.desk → HasFresh request token new
      by_posts posting at (posted.Posts.no_post none is same) = by_desk old new same has
      by_posts posting at (posted.Posts.not_genuine its nonce1 client_id is_post none is same) = by_desk old new same has
      by_posts posting at (posted.Posts.opened key nonce1 client_id its answer is_opened key_is answers is) =
          by_answers _ its.text answer answers at (ap (λ (p : Post). p.answer) is) (ap (λ (p : Post). p.holder) is)

      judged_so : HasFresh request token new
      judged_so = by_posts _ refl it.posts

    by_does : (message : Message) → DeskDoes is_sealing old came step new message → HasFresh request token new
    by_does message (nothing_there same) = by_desk old new same has
    by_does message (serves it) = served_so message it
    by_does message (judges it) = judged_so message it

    by_notes : Notes is_sealing old came step new → HasFresh request token new
    by_notes (nothing seen desk) = by_desk old new desk has
    by_notes (a_message it) = by_does it.message it.does

    stays_at_other : Hears is_sealing old came step new → HasFresh request token new
    stays_at_other hears = by_notes (notes is_sealing old came step new hears)

  -- ---- one after the other

  serves_then : (old : Server) (now : Moment) (draw : Draw) → HasFresh request token old → IsLiveThere request old now → MayServe request old now draw
  serves_then old now draw has live = record {
    lawful = live.lawful;
    held = has.context.held;
    here = in_contexts old.desk.table has.context has.here;
    one_name = has.one_name;
    live = live.live has.context has.here has.one_name;
    fresh = has.fresh;
  }

  module _ (route : Route) (old mid new : Ends) (later : List Happening) (rest : Goes is_sealing route mid later new) (has : HasFresh request token old.server) where
    abbrev Ready : Type 0
    Ready = IsReadyAtFirst is_sealing (MayServe request) route mid later new rest

    abbrev Live : Type 0
    Live = StaysLive is_sealing request route mid later new rest

    by_event : (event : Event) (step : Step) → Happens is_sealing route old event step mid → AreLeavingContextBy request token event step (AreLeavingContext request token later)
        → StaysLiveBy is_sealing request old event mid Live → (HasFresh request token mid.server → AreLeavingContext request token later → Live → Ready)
        → IsReadyBy is_sealing (MayServe request) old event Ready
    by_event (ClientTick now) step happens leave stay more = more (subst (λ (e : Ends). HasFresh request token e.server) (sym happens.2) has) leave stay
    by_event (ServerTick now) step happens leave stay more =
        more (subst (λ (e : Ends). HasFresh request token e.server) (sym happens.2) (by_desk old.server happens.0 (ap (λ (s : Server). s.desk) happens.1.kept) has)) leave stay
    by_event (AtServer now draw sent) step happens leave stay more = serves_then old.server now draw has stay
    by_event (AtClient now draw sent) step happens leave stay more = more (subst (λ (e : Ends). HasFresh request token e.server) (sym happens.1.2) has) leave stay
    by_event (OtherAtServer came) step happens leave stay more =
        let same : mid.server ≡ happens.0 = ap (λ (e : Ends). e.server) happens.2 in
        more
        (subst (HasFresh request token) (sym same)
        (stays_at_other old.server happens.0 came step has leave.0 stay.0 (subst IsLawfulServer same stay.1.0) happens.1))
        leave.1 stay.1.1
    by_event (OtherAtClient came) step happens leave stay more = more (subst (λ (e : Ends). HasFresh request token e.server) (sym happens.2) has) leave stay

  pub ready_at_first : (route : Route) (all : List Happening) (old new : Ends) (goes : Goes is_sealing route old all new) → HasFresh request token old.server
      → AreLeavingContext request token all → StaysLive is_sealing request route old all new goes
      → IsReadyAtFirst is_sealing (MayServe request) route old all new goes
  ready_at_first route [] old new goes has leaves live = tt
  ready_at_first route (happening ∷ later) old new goes has leaves live =
      by_event route old goes.0 new later goes.2 has happening.event happening.step goes.1 leaves live
      (λ next leaves_next live_next. ready_at_first route later goes.0 new goes.2 next leaves_next live_next)
