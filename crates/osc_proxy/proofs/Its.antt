-- Each open message that is a request has an exchange that is open, whatever happens to the one and the other.
use Rattle.std.proofs.Common.{◌≡◌, inl, inr, ℕ, Bool, true, false, not, nat_eq, ◌&&◌, bytes_eq, List, [], ◌∷◌, ◌++◌, refl, ap, ap₂, sym, ◌∙◌, subst, Some, None}
use Rattle.std.specs.Prelude.{filter, if◌then◌else◌}
use Rattle.std.specs.List.{filter_map}
use Rattle.std.proofs.lemmas.Bool.{and_from, and_parts, cases_eq, eq-eqb, eqb-true}
use Rattle.std.proofs.lemmas.List.Elements.{All-cons, All-filter, All-head, All-nil, All-push, All-tail, All-weaker, filter_passes}
use Rattle.std.proofs.lemmas.Option.{same_Some}
use Rattle.std.proofs.lemmas.Slice.Eq.{bytes_eq-Decides}
use Rattle.osc_coap.specs.declared.kind.Kind.{Kind}
use Rattle.osc_coap.specs.declared.kind.Kind.TheVariants.{Confirmable, NonConfirmable, Acknowledgement, Reset as ResetKind}
use Rattle.osc_model.specs.declared.node.Draw.{Draw}
use Rattle.osc_model.specs.declared.node.Moment.{Moment}
use Rattle.osc_model.specs.declared.node.Peer.{Peer}
use Rattle.osc_model.specs.{same_peer}
use Rattle.osc_message.specs.{Open, acknowledged, goes_at_once, is_named as names_message, sent_at, EndpointState, acknowledged_by, own_id, after, due_of, dues, ticked, timeout_of}
use Rattle.osc_message.specs.Pace.{Pace}
use Rattle.osc_message.specs.declared.due.Due.{Due}
use Rattle.osc_message.specs.declared.due.Due.TheVariants.{Keep, Send, GiveUp}
use Rattle.osc_proxy.specs.Inner.Bounds.{names_one}
use Rattle.osc_proxy.specs.{EachHasItsExchange, has_exchange, is_its, is_request, Changes, get, has_room, with_own}
use Rattle.osc_proxy.specs.Exchanges.{Table}
use Rattle.osc_proxy.specs.Inner.Going.{back_kept_by}
use Rattle.osc_proxy.specs.declared.exchanges.Exchange.{Exchange}
use Rattle.osc_proxy.proofs.Keys.{some_found, there_any}

abbrev pub Its : Table → Open → Type 0
Its table message = is_request message.bytes ≡ true → has_exchange table message ≡ true

-- ---- names

pub one_peer : (a b : Peer) → same_peer a b ≡ true → a ≡ b
one_peer a b same =
    let both = and_parts (bytes_eq a.address b.address) (nat_eq a.scope b.scope && nat_eq a.port b.port) same in
    let numbers = and_parts (nat_eq a.scope b.scope) (nat_eq a.port b.port) both.1 in
    let address : a.address ≡ b.address = (bytes_eq-Decides a.address b.address).0 both.0 in
    let scope : a.scope ≡ b.scope = eqb-true a.scope b.scope numbers.0 in
    let port : a.port ≡ b.port = eqb-true a.port b.port numbers.1 in
    subst (λ (x : List ℕ). a ≡ record { address = x; scope = b.scope; port = b.port }) address
    (ap₂ (λ (s p : ℕ). record { address = a.address; scope = s; port = p }) scope port)

pub peer_same : (a b : Peer) → a ≡ b → same_peer a b ≡ true
peer_same a b e =
    and_from (bytes_eq a.address b.address) (nat_eq a.scope b.scope && nat_eq a.port b.port)
    ((bytes_eq-Decides a.address b.address).1 (ap (λ (p : Peer). p.address) e))
    (and_from (nat_eq a.scope b.scope) (nat_eq a.port b.port) (eq-eqb a.scope b.scope (ap (λ (p : Peer). p.scope) e))
    (eq-eqb a.port b.port (ap (λ (p : Peer). p.port) e)))

-- whoever names the exchange names its message
pub its_named : (from : Peer) (id : ℕ) (exchange : Exchange) (message : Open) → same_peer exchange.target from ≡ true → id ≡ exchange.id
    → is_its exchange message ≡ true → names_message from id message ≡ true
its_named from id exchange message peer same its =
    let whole = and_parts exchange.confirmable (same_peer exchange.target message.to && nat_eq exchange.id message.id) its in
    subst (λ (p : Peer). (same_peer p message.to && nat_eq id message.id) ≡ true) (one_peer exchange.target from peer)
    (subst (λ i. (same_peer exchange.target message.to && nat_eq i message.id) ≡ true) (sym same) whole.1)

-- ---- an exchange is closed, and the messages that are named leave

its_left : (old new : Table) (key : ℕ) (exchange : Exchange) (message : Open) → get old key ≡ Some exchange → Changes old new key None
    → is_its exchange message ≡ false → Its old message → Its new message
its_left old new key exchange message was changes other its request =
    let found = some_found (λ e. is_its e message) old (its request) in
    elim (cases_eq found.key key) [
      | inl same ↦
          let here : found.there.exchange ≡ exchange = same_Some found.there.exchange exchange (sym found.there.is ∙ ap (get old) same ∙ was) in
          let wrong : true ≡ false = sym found.there.passes ∙ ap (λ (e : Exchange). is_its e message) here ∙ other in
          absurd (cc)
      | inr differs ↦
          there_any (λ e. is_its e message) new found.key found.there.exchange (changes.others found.key differs ∙ found.there.is) found.there.passes
    ]

apart : (its named : Bool) → (its ≡ true → named ≡ true) → not named ≡ true → its ≡ false
apart true true names kept = absurd (cc)
apart true false names kept = sym (names refl)
apart false named names kept = refl

pub each_closed : (old new : Table) (key : ℕ) (exchange : Exchange) (test : Open → Bool) (sending : List Open) → get old key ≡ Some exchange
    → Changes old new key None → ((message : Open) → is_its exchange message ≡ true → test message ≡ true)
    → EachHasItsExchange old sending → EachHasItsExchange new (filter (λ message. not (test message)) sending)
each_closed old new key exchange test sending was changes names each =
    let kept : Open → Bool = λ message. not (test message) in
    let passes = filter_passes kept sending in
    let its = All-filter kept (Its old) sending each in
    All-weaker (λ message. (not (test message) ≡ true) × Its old message) (Its new)
    (λ message both.
    its_left old new key exchange message was changes (apart (is_its exchange message) (test message) (names message) both.0) both.1)
    (filter kept sending)
    (λ k d within. (passes k d within, its k d within))

-- .. or none that are named, where messages leave
pub each_fewer : (table : Table) (peer : Peer) (id : ℕ) (sending : List Open) → EachHasItsExchange table sending
    → EachHasItsExchange table (acknowledged peer id sending)
each_fewer table peer id sending each = All-filter (λ message. not (names_message peer id message)) (Its table) sending each

pub each_fewer_by : (table : Table) (from : Peer) (kind : Kind) (id : ℕ) (sending : List Open) → EachHasItsExchange table sending
    → EachHasItsExchange table (acknowledged_by from kind id sending)
each_fewer_by table from Confirmable id sending each = each
each_fewer_by table from NonConfirmable id sending each = each
each_fewer_by table from Acknowledgement id sending each = each_fewer table from id sending each
each_fewer_by table from ResetKind id sending each = each_fewer table from id sending each

-- ---- a message is made

pub each_own : (table : Table) (confirmable : Bool) (endpoint : EndpointState) (now : Moment) (draw : Draw) (to : Peer) (bytes : List ℕ)
    → (confirmable ≡ true → is_request bytes ≡ false) → EachHasItsExchange table endpoint.sending
    → EachHasItsExchange table (with_own confirmable endpoint now draw to bytes).sending
each_own table true endpoint now draw to bytes other each =
    All-push (Its table) endpoint.sending _ each
    (λ request.
    let wrong : true ≡ false = sym request ∙ other refl in
    absurd (cc))
each_own table false endpoint now draw to bytes other each = each

pub each_back : (table : Table) (confirmable : Bool) (endpoint : EndpointState) (now : Moment) (draw : Draw) (to : Peer) (bytes : List ℕ)
    → (confirmable ≡ true → is_request bytes ≡ false) → EachHasItsExchange table endpoint.sending
    → EachHasItsExchange table (back_kept_by confirmable endpoint now draw to bytes).sending
each_back table confirmable endpoint now draw to bytes other each = by (has_room confirmable to endpoint)
  where
    by : (room : Bool) → EachHasItsExchange table (if room then with_own confirmable endpoint now draw to bytes else endpoint).sending
    by true = each_own table confirmable endpoint now draw to bytes other each
    by false = each

-- ---- an exchange is opened

its_more : (old new : Table) (key : ℕ) (exchange : Exchange) (message : Open) → get old key ≡ None → Changes old new key (Some exchange)
    → Its old message → Its new message
its_more old new key exchange message free changes its request =
    let found = some_found (λ e. is_its e message) old (its request) in
    elim (cases_eq found.key key) [
      | inl same ↦
          let wrong : Some found.there.exchange ≡ None = sym found.there.is ∙ ap (get old) same ∙ free in
          absurd (cc)
      | inr differs ↦
          there_any (λ e. is_its e message) new found.key found.there.exchange (changes.others found.key differs ∙ found.there.is) found.there.passes
    ]

-- with the message that was just made
pub each_opened : (old new : Table) (key : ℕ) (exchange : Exchange) (confirmable : Bool) (endpoint : EndpointState) (now : Moment) (draw : Draw) (to : Peer)
    (bytes : List ℕ) → get old key ≡ None → Changes old new key (Some exchange) → exchange.confirmable ≡ confirmable → exchange.target ≡ to
    → exchange.id ≡ own_id draw endpoint.next_id → EachHasItsExchange old endpoint.sending
    → EachHasItsExchange new (with_own confirmable endpoint now draw to bytes).sending
each_opened old new key exchange true endpoint now draw to bytes free changes confirmable target id each =
    let message : Open = record {
      to = to;
      id = own_id draw endpoint.next_id;
      timeout = timeout_of draw;
      bytes = bytes;
      sent = sent_at now (goes_at_once endpoint.pace to endpoint.sending);
    } in
    let its : is_its exchange message ≡ true =
    and_from exchange.confirmable (same_peer exchange.target to && nat_eq exchange.id (own_id draw endpoint.next_id)) confirmable
    (and_from (same_peer exchange.target to) (nat_eq exchange.id (own_id draw endpoint.next_id)) (peer_same exchange.target to target)
    (eq-eqb exchange.id (own_id draw endpoint.next_id) id))
    in
    All-push (Its new) endpoint.sending message
    (All-weaker (Its old) (Its new) (λ m. its_more old new key exchange m free changes) endpoint.sending each)
    (λ request. there_any (λ e. is_its e message) new key exchange changes.changed its)
each_opened old new key exchange false endpoint now draw to bytes free changes confirmable target id each =
    All-weaker (Its old) (Its new) (λ m. its_more old new key exchange m free changes) endpoint.sending each

-- ---- a tick of the message layer

its_due : (now : Moment) (table : Table) (message : Open) (due : Due) (pairs : List (Open × Due)) → Its table message
    → EachHasItsExchange table (filter_map (after now) pairs) → EachHasItsExchange table (filter_map (after now) ((message, due) ∷ pairs))
its_due now table message Keep pairs its rest = All-cons (Its table) message (filter_map (after now) pairs) its rest
its_due now table message Send pairs its rest = All-cons (Its table) _ (filter_map (after now) pairs) its rest
its_due now table message GiveUp pairs its rest = rest

its_among : (pace : Pace) (now : Moment) (table : Table) (all earlier later : List Open) → EachHasItsExchange table later
    → EachHasItsExchange table (filter_map (after now) (dues pace now all earlier later))
its_among pace now table all earlier [] each = All-nil (Its table)
its_among pace now table all earlier (message ∷ later) each =
    its_due now table message (due_of pace now all earlier message message.sent) (dues pace now all (earlier ++ message ∷ []) later)
    (All-head (Its table) message later each)
    (its_among pace now table all (earlier ++ message ∷ []) later (All-tail (Its table) message later each))

pub each_ticked : (pace : Pace) (now : Moment) (table : Table) (all : List Open) → EachHasItsExchange table all → EachHasItsExchange table (ticked pace now all)
each_ticked pace now table all each = its_among pace now table all [] all each

-- ---- the same of what these are

pub each_at : (table told : Table) (endpoint kept : EndpointState) → table ≡ told → endpoint ≡ kept → EachHasItsExchange told kept.sending
    → EachHasItsExchange table endpoint.sending
each_at table told endpoint kept same is each =
    subst (λ (t : Table). EachHasItsExchange t endpoint.sending) (sym same)
    (subst (λ (e : EndpointState). EachHasItsExchange told e.sending) (sym is) each)

-- a request names no message
pub none_named : (from : Peer) (kind : Kind) (id : ℕ) (sending : List Open) → names_one kind ≡ false → acknowledged_by from kind id sending ≡ sending
none_named from Confirmable id sending other = refl
none_named from NonConfirmable id sending other = refl
none_named from Acknowledgement id sending other = absurd (cc)
none_named from ResetKind id sending other = absurd (cc)
