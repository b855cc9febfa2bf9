-- A protected request is served, and its reply is accepted.
use Rattle.std.proofs.Common.{◌≡◌, ◌∙◌, sym, ap, subst, refl, ℕ, ◌<◌, ◌≤◌, List, [], ◌∷◌, length, Option, Some, None, arith}
use Rattle.std.specs.Prelude.{IfSome}
use Rattle.std.proofs.lemmas.Bool.{le-leb}
use Rattle.std.proofs.lemmas.Option.{same_Some}
use Rattle.osc_model.specs.{apply_read}
use Rattle.osc_model.specs.Arrival.{Arrival}
use Rattle.osc_model.specs.Scope.{Scope}
use Rattle.osc_model.specs.declared.context.ContextName.{ContextName}
use Rattle.osc_model.specs.declared.context.Side.TheVariants as side
use Rattle.osc_model.specs.declared.node.Moment.{Moment}
use Rattle.osc_model.specs.declared.node.Peer.{Peer}
use Rattle.osc_model.specs.declared.reply.Reply.{Reply}
use Rattle.osc_model.specs.declared.step.Step.{Step}
use Rattle.osc_coap.specs.{payload_of, NumberAndValue, spelling}
use Rattle.osc_coap.specs.Message.{Message}
use Rattle.osc_coap.specs.declared.kind.Kind.TheVariants.{Confirmable}
use Rattle.osc_options.specs.{unrecognised_critical, value, outer_options, protected, merge, read_request, IsWithinRanges}
use Rattle.osc_dedup.specs.{Entry, looked}
use Rattle.osc_message.specs.{heard, Receives}
use Rattle.osc_message.specs.declared.heard.Heard.{Heard}
use Rattle.osc_message.specs.declared.heard.Heard.TheVariants as heard_as
use Rattle.osc_message.specs.declared.received.Received.{Received}
use Rattle.osc_message.specs.declared.received.Received.TheVariants as received
use Rattle.osc_context.specs.{algorithm_of, key_of, greatest_number, longest_id}
use Rattle.osc_window.specs.{IsFresh}
use Rattle.osc_protect.specs.{aad_of, HasShortContext, IsFor, IsProtectedRequest, IsProtectedResponse, IsRequest, SealedRequest, plain_bytes, request_nonce, request_value, Compressed, SpellsValue}
use Rattle.osc_ccm.specs.{Sealings}
use Rattle.osc_authz.specs.SecurityContext.{SecurityContext}
use Rattle.osc_authz.specs.{DeskState, holder_at, meant}
use Rattle.osc_run.specs.{Replies as AppliesTo}
use Rattle.osc_server.specs.{met, standing_of, case_of as server_case, Answers as ServerAnswers, AnswersNew as ServerAnswersNew, AnswersProtected, IsMeant, IsRefused, IsSealed, Sends, Serves, answer_to, answered, answered_again, notes_of_request, refused, reply_to, served, served_desk, Hears as ServerHears}
use Rattle.osc_server.specs.State.{State as Server}
use Rattle.osc_server.specs.declared.case.RequestCase.{RequestCase}
use Rattle.osc_server.specs.declared.case.RequestCase.TheVariants.{Protected}
use Rattle.osc_server.specs.declared.refusal.Refusal.{Refusal}
use Rattle.osc_server.specs.declared.refusal.Refusal.TheVariants.{Malformed, NoContext, Replayed, NotGenuine}
use Rattle.osc_rounds.specs.{AreForServer, AwaitsRequest, IsForServer, IsServed, OpenedRequest, a_uri_host, nothing, in_bytes}
use Rattle.osc_proxy.specs.{IsCarried}
use Rattle.osc_client.specs.{IsHost}

-- ---- what the floors below say

module _ (is_sealing : Sealings) where
  pub record RequestLaws : Type 0 where
    pub one_reception : (bytes : List ℕ) (a b : Received) → Receives bytes a → Receives bytes b → a ≡ b
    pub one_value : (bytes : List ℕ) (c d : Compressed) → SpellsValue bytes c → SpellsValue bytes d → c ≡ d
    pub option_nine : (m : Message) (code : ℕ) (bytes payload : List ℕ) → value 9 (protected m code bytes payload).options ≡ Some bytes
    pub value_short : (name : ContextName) (number : ℕ) → HasShortContext name → length name.client_id ≤ longest_id → length (request_value name number) ≤ 255
    pub says : (name : ContextName) (number : ℕ) (m p : Message) → HasShortContext name → number ≤ greatest_number
        → IsProtectedRequest is_sealing name number m p
        → (request : SealedRequest) × IsRequest p request × (request.number ≡ number) × IsFor name request
        × is_sealing (algorithm_of name) (key_of name side.Client) (request_nonce name number) (aad_of name number) (plain_bytes m) request.sealed
        × ((text : List ℕ) → is_sealing (algorithm_of name) (key_of name side.Client) (request_nonce name number) (aad_of name number) text request.sealed → text ≡ plain_bytes m)

-- ---- what is received

-- a message that is sent is received as itself
pub received_as : ((bytes : List ℕ) (a b : Received) → Receives bytes a → Receives bytes b → a ≡ b)
    → (message : Message) (it : Received) → IsCarried message → Receives (spelling message) it → it ≡ received.Message message
received_as one message it sendable is =
    one (spelling message) it (received.Message message) is (sendable.short, record { lawful = sendable.lawful; whole = refl })

-- ---- a protected request is one to the server

pub one_option : (v : List ℕ) → length v ≤ 255 → unrecognised_critical 0 ((9, v) ∷ []) ≡ None
one_option v short = rw (le-leb 0 (length v) (omega arith), le-leb (length v) 255 short) refl

with_host : (host v : List ℕ) → IsHost host → length v ≤ 255 → unrecognised_critical 0 ((3, host) ∷ (9, v) ∷ []) ≡ None
with_host host v is short =
    rw (le-leb 1 (length host) is.0, le-leb (length host) 255 is.1, le-leb 0 (length v) (omega arith), le-leb (length v) 255 short) refl

-- the protected message in place of m, by its parts
abbrev pub in_place : Message → ℕ → List NumberAndValue → List ℕ → Message
in_place m code options sealed = record m { code = code; options = options; payload = payload_of sealed }

case_by_options : (open_scope : Scope) (m : Message) (v sealed : List ℕ) → length v ≤ 255
    → server_case open_scope (in_place m 2 ((9, v) ∷ []) sealed) ≡ Protected v
case_by_options open_scope m v sealed short = rw (one_option v short) refl

case_with_host : (open_scope : Scope) (m : Message) (host v sealed : List ℕ) → IsHost host → length v ≤ 255
    → server_case open_scope (in_place m 2 ((3, host) ∷ (9, v) ∷ []) sealed) ≡ Protected v
case_with_host open_scope m host v sealed is short = rw (with_host host v is short) refl

heard_by_kind : (seen : List Entry) (now : Moment) (from : Peer) (m : Message) (options : List NumberAndValue) (sealed : List ℕ)
    → m.kind ≡ Confirmable → looked now from m.id seen ≡ None
    → heard seen now from (received.Message (in_place m 2 options sealed)) ≡ heard_as.Message (in_place m 2 options sealed)
heard_by_kind seen now from m options sealed kind unheard = rw (kind, unheard) refl

case_by_outside : (open_scope : Scope) (m : Message) (outer : List NumberAndValue) (v sealed : List ℕ) → AreForServer outer → length v ≤ 255
    → server_case open_scope (in_place m 2 (merge outer ((9, v) ∷ [])) sealed) ≡ Protected v
case_by_outside open_scope m outer v sealed (nothing is) short = rw is (case_by_options open_scope m v sealed short)
case_by_outside open_scope m outer v sealed (a_uri_host host lawful is) short = rw is (case_with_host open_scope m host v sealed lawful short)

protected_heard : (seen : List Entry) (now : Moment) (from : Peer) (m : Message) (v sealed : List ℕ) → IsForServer m → looked now from m.id seen ≡ None
    → heard seen now from (received.Message (protected m 2 v sealed)) ≡ heard_as.Message (protected m 2 v sealed)
protected_heard seen now from m v sealed is unheard =
    let options : List NumberAndValue = merge (outer_options m.options) ((9, v) ∷ []) in
    heard_by_kind seen now from m options sealed is.kind unheard

protected_case : (open_scope : Scope) (m : Message) (v sealed : List ℕ) → IsForServer m → length v ≤ 255
    → server_case open_scope (protected m 2 v sealed) ≡ Protected v
protected_case open_scope m v sealed is short = case_by_outside open_scope m (outer_options m.options) v sealed is.outside short

-- ---- what it says

pub payload_is : (sealed bytes : List ℕ) → payload_of sealed ≡ Some bytes → bytes ≡ sealed
payload_is [] bytes e = absurd (cc)
payload_is (b ∷ sealed) bytes e = sym (same_Some (b ∷ sealed) bytes e)

module _ (is_sealing : Sealings) (laws : RequestLaws is_sealing)
    (name : ContextName) (number : ℕ) (m p : Message) (short : HasShortContext name) (few : length name.client_id ≤ longest_id) (lawful : number ≤ greatest_number)
    (made : IsProtectedRequest is_sealing name number m p) where
  -- all that it says
  abbrev pub said : SealedRequest
  said = record { number = number; kid = name.client_id; kid_context = name.id_context; sealed = made.sealed }

  value_is : value 9 p.options ≡ Some (request_value name number)
  value_is = ap (λ (q : Message). value 9 q.options) made.whole ∙ laws.option_nine m 2 (request_value name number) made.sealed

  context_fits : (context : Option (List ℕ)) → IfSome context (λ bytes. length bytes ≤ 64) → IfSome context (λ bytes. length bytes < 256)
  context_fits None h = tt
  context_fits (Some bytes) h = omega arith

  abbrev value_of : SealedRequest → Compressed
  value_of r = record { partial_iv = Some r.number; kid_context = r.kid_context; kid = Some r.kid }

  spelled : SpellsValue (request_value name number) (value_of said)
  spelled = record { lawful = record { number = lawful; kid_context = context_fits name.id_context short }; whole = refl }

  -- whatever is read of it is that
  pub reads_as : (request : SealedRequest) → IsRequest p request → request ≡ said
  reads_as request is =
      let bytes : is.bytes ≡ request_value name number = same_Some is.bytes (request_value name number) (sym is.option ∙ value_is) in
      let same : value_of request ≡ value_of said = laws.one_value (request_value name number) (value_of request) (value_of said)
      (subst (λ (b : List ℕ). SpellsValue b (value_of request)) bytes is.says.spelled) spelled in
      let payload : request.sealed ≡ made.sealed = payload_is made.sealed request.sealed (sym (ap (λ (q : Message). q.payload) made.whole) ∙ is.says.payload) in
      by request (same_Some request.number number (ap (λ (c : Compressed). c.partial_iv) same))
      (same_Some request.kid name.client_id (ap (λ (c : Compressed). c.kid) same))
      (ap (λ (c : Compressed). c.kid_context) same) payload
    where
      by : (r : SealedRequest) → r.number ≡ number → r.kid ≡ name.client_id → r.kid_context ≡ name.id_context → r.sealed ≡ made.sealed → r ≡ said
      by r a b c d =
          ap (λ (n : ℕ). let it : SealedRequest = record { number = n; kid = r.kid; kid_context = r.kid_context; sealed = r.sealed } in it) a
          ∙ ap (λ (k : List ℕ). let it : SealedRequest = record { number = number; kid = k; kid_context = r.kid_context; sealed = r.sealed } in it) b
          ∙ ap (λ (k : Option (List ℕ)). let it : SealedRequest = record { number = number; kid = name.client_id; kid_context = k; sealed = r.sealed } in it) c
          ∙ ap (λ (s : List ℕ). let it : SealedRequest = record { number = number; kid = name.client_id; kid_context = name.id_context; sealed = s } in it) d

  -- and it is read
  pub reads : IsRequest p said
  reads =
      let it = laws.says name number m p short lawful made in
      subst (IsRequest p) (reads_as it.0 it.1) it.1

  -- it opens to the plaintext of the message in whose place it is
  pub opens : is_sealing (algorithm_of name) (key_of name side.Client) (request_nonce name number) (aad_of name number) (plain_bytes m) made.sealed
  opens = made.is_sealed

  -- and to nothing else
  pub opens_once : (text : List ℕ) → is_sealing (algorithm_of name) (key_of name side.Client) (request_nonce name number) (aad_of name number) text made.sealed → text ≡ plain_bytes m
  opens_once text is =
      let it = laws.says name number m p short lawful made in
      let same : it.0.sealed ≡ made.sealed = ap (λ (r : SealedRequest). r.sealed) (reads_as it.0 it.1) in
      it.5 text (subst (λ (s : List ℕ). is_sealing (algorithm_of name) (key_of name side.Client) (request_nonce name number) (aad_of name number) text s) (sym same) is)

-- ---- it is served

module _ (is_sealing : Sealings) (laws : RequestLaws is_sealing)
    (old : Server) (came : Arrival Message) (held : SecurityContext) (number : ℕ) (m : Message) (step : Step) (new : Server)
    (awaits : AwaitsRequest old came.at came.from held number m.id) (for_server : IsForServer m)
    (made : IsProtectedRequest is_sealing held.name number m came.what) where
  abbrev now : Moment
  now = came.at

  abbrev p : Message
  p = came.what

  abbrev name : ContextName
  name = held.name

  abbrev opened : OpenedRequest
  opened = record { held = held; number = number; text = plain_bytes m }

  abbrev what : SealedRequest
  what = said is_sealing laws name number m p awaits.lawful.context awaits.lawful.client_id awaits.number_lawful made

  whatever : (request : SealedRequest) → IsRequest p request → request ≡ what
  whatever = reads_as is_sealing laws name number m p awaits.lawful.context awaits.lawful.client_id awaits.number_lawful made

  is_read : IsRequest p what
  is_read = reads is_sealing laws name number m p awaits.lawful.context awaits.lawful.client_id awaits.number_lawful made

  once : (text : List ℕ) → is_sealing (algorithm_of name) (key_of name side.Client) (request_nonce name number) (aad_of name number) text made.sealed → text ≡ plain_bytes m
  once = opens_once is_sealing laws name number m p awaits.lawful.context awaits.lawful.client_id awaits.number_lawful made

  -- which context it means
  same_held : (request : SealedRequest) (other : SecurityContext) → IsMeant (met old) came request other → held ≡ other
  same_held request other is =
      same_Some held other
      (sym awaits.means ∙ ap (λ (r : SealedRequest). meant (standing_of old now) r.kid r.kid_context old.desk.table) (sym (whatever request is.is_request)) ∙ is.is_meant)

  -- none of the reasons applies
  not_refused : (refusal : Refusal) → IsRefused is_sealing (met old) came refusal → ⊥
  not_refused Malformed is = is what is_read
  not_refused NoContext is =
      let none : Some held ≡ None = sym awaits.means ∙ ap (λ (r : SealedRequest). meant (standing_of old now) r.kid r.kid_context old.desk.table) (sym (whatever is.0 is.1)) ∙ is.2 in cc
  not_refused Replayed is =
      let number_is : number ≡ is.0.number = ap (λ (r : SealedRequest). r.number) (sym (whatever is.0 is.2.is_request)) in
      is.3 (subst (IsFresh is.1.window) number_is (subst (λ (h : SecurityContext). IsFresh h.window number) (same_held is.0 is.1 is.2) awaits.fresh))
  not_refused NotGenuine is =
      is.4 (plain_bytes m)
      (subst (λ (h : SecurityContext). IsSealed is_sealing h is.0 (plain_bytes m)) (same_held is.0 is.1 is.2)
      (subst (λ (r : SealedRequest). IsSealed is_sealing held r (plain_bytes m)) (sym (whatever is.0 is.2.is_request)) made.is_sealed))

  -- what is known of a request that is served, by what it says, its context and its text
  record AreServed (h : SecurityContext) (request : SealedRequest) (text : List ℕ) : Type 0 where
    opens : IsSealed is_sealing h request text
    reply : Reply
    within : IsWithinRanges reply
    applied : AppliesTo old.tree (apply_read old.desk.rules.revoked old.tree h.scope (read_request text)) reply new.tree
    answer : Message
    protects : IsProtectedResponse is_sealing h.name request.number None (reply_to old.endpoint came reply) answer
    sends : Sends (record old { tree = new.tree; desk = served_desk old.desk came request protects.sealed })
        came answer (notes_of_request now h (holder_at request.kid old.desk.table) request.number text reply) step new

  are_served : (s : Serves is_sealing old came step new) → AreServed s.held s.request s.text
  are_served s = record {
    opens = s.opened.opens;
    reply = s.reply;
    within = s.within;
    applied = s.applied;
    answer = s.answer;
    protects = s.protected;
    sends = s.sent;
  }

  is_served : Serves is_sealing old came step new → IsServed is_sealing old came opened step new
  is_served s =
      let request_is : s.request ≡ what = whatever s.request s.opened.meant.is_request in
      let held_is : s.held ≡ held = sym (same_held s.request s.held s.opened.meant) in
      let read : AreServed s.held what s.text = subst (λ (r : SealedRequest). AreServed s.held r s.text) request_is (are_served s) in
      let under : AreServed held what s.text = subst (λ (h : SecurityContext). AreServed h what s.text) held_is read in
      by (subst (λ (t : List ℕ). AreServed held what t) (once s.text under.opens) under)
    where
      desk_is : (it : AreServed held what (plain_bytes m)) → new.desk ≡ served_desk old.desk came what it.protects.sealed
      desk_is it = ap (λ (s : Server). s.desk) it.sends.kept

      by : AreServed held what (plain_bytes m) → IsServed is_sealing old came opened step new
      by it = record {
        reply = it.reply;
        within = it.within;
        applied = it.applied;
        answer = it.answer;
        protected = it.protects;
        told = it.sends.sent;
        desk = record { last = answer_to came what it.protects.sealed; its = refl; kept = desk_is it };
        kept = it.sends.kept
            ∙ ap (λ (d : DeskState). record { tree = new.tree; desk = d; open_scope = old.open_scope; endpoint = answered old.endpoint came it.answer }) (sym (desk_is it));
      }

  answered_so : AnswersProtected is_sealing old came step new → IsServed is_sealing old came opened step new
  answered_so (refused refusal is sends) = absurd (not_refused refusal is)
  answered_so (answered_again request other last again stale sends) =
      let number_is : number ≡ request.number = ap (λ (r : SealedRequest). r.number) (sym (whatever request again.meant.is_request)) in
      absurd (stale (subst (IsFresh other.window) number_is (subst (λ (h : SecurityContext). IsFresh h.window number) (same_held request other again.meant) awaits.fresh)))
  answered_so (served s) = is_served s

  -- it comes to the server, which serves it
  pub request_served : IsCarried p → ServerHears is_sealing old (in_bytes came) step new → IsServed is_sealing old came opened step new
  request_served sendable hears =
      let v = request_value name number in
      let as_it : hears.received ≡ received.Message (protected m 2 v made.sealed) =
      received_as laws.one_reception p hears.received sendable hears.receives ∙ ap received.Message made.whole in
      let heard_is : heard old.endpoint.seen now came.from hears.received ≡ heard_as.Message p =
      ap (λ (r : Received). heard old.endpoint.seen now came.from r) as_it
      ∙ protected_heard old.endpoint.seen now came.from m v made.sealed for_server awaits.unheard
      ∙ ap heard_as.Message (sym made.whole) in
      let case_is : server_case old.open_scope p ≡ Protected v =
      ap (server_case old.open_scope) made.whole
      ∙ protected_case old.open_scope m v made.sealed for_server (laws.value_short name number awaits.lawful.context awaits.lawful.client_id) in
      let so : ServerAnswersNew is_sealing old came (server_case old.open_scope p) step new =
      subst (λ (h : Heard). ServerAnswers is_sealing old (in_bytes came) h step new) heard_is hears.answers in
      answered_so (subst (λ (c : RequestCase). ServerAnswersNew is_sealing old came c step new) case_is so)
