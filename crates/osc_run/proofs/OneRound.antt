-- A run in which a request is served and its reply accepted, with all that is assumed of a run.
use Rattle.std.proofs.Common.{◌≡◌, ℕ, zero, suc, ◌+◌, true, false, List, [], ◌∷◌, Option, Some, None, Result, Ok, Err, refl, sym, ap, ◌∙◌, inl, inr, ⊎_elim, subst, arith}
use Rattle.std.specs.Prelude.{slice_get}
use Rattle.std.proofs.lemmas.List.Elements.{All-nil}
use Rattle.osc_model.specs.{apply_read, unchanged, code, HasBegun, IsNotOver, bare, quiet}
use Rattle.osc_model.specs.Grant.{Grant}
use Rattle.osc_model.specs.Scope.{Scope}
use Rattle.osc_model.specs.Tree.{Tree}
use Rattle.osc_model.specs.declared.code.Code.{Code}
use Rattle.osc_model.specs.declared.context.ContextName.{ContextName}
use Rattle.osc_model.specs.declared.context.Side.TheVariants as side
use Rattle.osc_model.specs.declared.node.Moment.{Moment}
use Rattle.osc_model.specs.declared.reply.Reply.{Reply}
use Rattle.osc_model.specs.declared.request.Request.{Request}
use Rattle.osc_model.specs.declared.step.ClientResult.TheVariants as result
use Rattle.osc_model.specs.declared.step.Entry.{Entry}
use Rattle.osc_model.specs.declared.step.Note.{Note}
use Rattle.osc_coap.specs.{HasPlaintextSpelling, plaintext_at}
use Rattle.osc_options.specs.{reply_plaintext, reply_in, read_request, reply_text, IsReplyIn}
use Rattle.osc_token.specs.{ComesTo, HasLawfulParts, token_note}
use Rattle.osc_token.specs.declared.claims.Claims.{Claims}
use Rattle.osc_authz.specs.{new_context, OfToken, pending_of, confirmed_by}
use Rattle.osc_authz.specs.Begun.{Begun}
use Rattle.osc_authz.specs.SecurityContext.{SecurityContext}
use Rattle.osc_authz.specs.declared.granted.ClientDesk.{ClientDesk}
use Rattle.osc_authz.specs.declared.agreed_post.AgreedPost.{AgreedPost}
use Rattle.osc_authz.specs.declared.post.PostAnswer.{PostAnswer}
use Rattle.osc_authz.specs.declared.rules.ContextRules.{ContextRules}
use Rattle.osc_run.specs.{Noted, by_server, by_client, ClientState, Nothing, Exchange, Ask, Minted, WorldState, opening_note, reply_note, Replies, Applied, Posted, Served, request_note, response_note, Started, Made, Asked, Answered, IsTextOf, IsStart, IsNewClient, WorldStep, OfServer, OfClient, IsReached, IsGenuineOpening, IsGenuine, HasFreshDraws}
use Rattle.osc_run.specs.Premise.{Premise}

read_nothing : read_request [] ≡ Err (code 4 0)
unfolding read_request plaintext_at
read_nothing = refl

-- an empty plaintext is answered 4.00
abbrev pub refusal : Reply
refusal = bare (code 4 0)

pub refusal_read : HasPlaintextSpelling (reply_plaintext refusal) → reply_in (reply_plaintext refusal) ≡ Some refusal → IsReplyIn (reply_text refusal) refusal
unfolding reply_text
refusal_read lawful says = record { plaintext = reply_plaintext refusal; spelled = record { lawful = lawful; whole = refl }; says = says }

applied : (root : Option (List ℕ)) (tree : Tree) (scope : Scope) → Replies tree (apply_read root tree scope (read_request [])) refusal tree
applied root tree scope =
    let is : apply_read root tree scope (read_request []) ≡ unchanged tree (code 4 0) = ap (λ (r : Result Request Code). apply_read root tree scope r) read_nothing in
    Applied (ap (λ o. o.reply) (sym is)) (ap (λ o. o.tree) (sym is))

other_side : side.Client ≡ side.Server → ⊥
other_side e = cc

abbrev eight : ℕ → List ℕ
eight n = n ∷ n ∷ n ∷ n ∷ n ∷ n ∷ n ∷ n ∷ []

other_draw : eight 1 ≡ eight 2 → ⊥
other_draw e = cc

abbrev byte : ℕ → List ℕ
byte n = n ∷ []

other_id : byte 1 ≡ byte 0 → ⊥
other_id e = cc

-- a token that is in its time
module _ (key text audience : List ℕ) (now : Moment) (claims : Claims) (lawful : HasLawfulParts claims) (scope : Scope) (tree : Tree) where
  abbrev pub grant : Grant
  grant = record {
    id = claims.material.id;
    secret = claims.material.secret;
    salt = claims.material.salt;
    id_context = claims.material.id_context;
    alg = claims.material.alg;
    scope = scope;
    not_before = claims.not_before;
    expires = claims.expires;
    holder = 0;
  }

  abbrev desk : ClientDesk
  desk = record {
    token = [];
    secret = claims.material.secret;
    salt = claims.material.salt;
    id_context = claims.material.id_context;
    alg = claims.material.alg;
    secret_size = lawful.secret;
    salt_size = lawful.salt;
    id_context_size = lawful.id_context;
  }

  abbrev begun : Begun
  begun = record { nonce1 = eight 1; recipient_id = 0 }

  abbrev answer : PostAnswer
  answer = record { nonce2 = eight 2; recipient_id = 1 }

  no_age : (seconds : ℕ) → None ≡ Some seconds → ⊥
  no_age seconds e = cc

  abbrev rules : ContextRules
  rules = record { revoked = None; seconds = None; remembered = 0; reserved = None; subtrees = true; answers = false }

  abbrev post : AgreedPost
  post = record { nonce1 = eight 1; client_id = byte 0; answer = answer }

  abbrev held : SecurityContext
  held = new_context rules now claims scope post

  abbrev name : ContextName
  name = held.name

  abbrev pending : OfToken
  pending = pending_of claims.material.id held

  abbrev confirmed : OfToken
  confirmed = confirmed_by 0 pending

  abbrev entry : Entry
  entry = record { context = name; number = 0; plaintext = []; request = read_request []; moment = now; reply = refusal }

  -- ---- the client

  abbrev new : ClientState
  new = record { desk = desk; context = None; outstanding = Nothing }

  abbrev waiting : ClientState
  waiting = record { desk = desk; context = None; outstanding = Exchange begun }

  abbrev ready : ClientState
  ready = record { desk = desk; context = Some (record { name = name; next = 0 }); outstanding = Nothing }

  abbrev asking : ClientState
  asking = record { desk = desk; context = Some (record { name = name; next = 0 + 1 }); outstanding = Ask (record { context = name; number = 0 }) }

  abbrev done : ClientState
  done = record { desk = desk; context = Some (record { name = name; next = 0 + 1 }); outstanding = Nothing }

  -- ---- the notes

  abbrev started : Noted
  started = by_client 0 false (record quiet { drawn = Some (eight 1) })

  abbrev posted : Noted
  posted = by_server (record quiet { opens = Some (token_note key [] [] text); drawn = Some (eight 2); holder = Some claims.material.id })

  abbrev made : Noted
  made = by_client 0 false (record quiet { result = Some result.Made })

  abbrev asked : Noted
  asked = by_client 0 false (record quiet { seals = Some (request_note name 0 []) })

  abbrev served : Noted
  served = by_server (record quiet { seals = Some (reply_note name 0 refusal); opens = Some (opening_note name 0 []); served = Some entry; holder = Some claims.material.id })

  abbrev answered : Noted
  answered = by_client 0 false (record quiet { opens = Some (response_note name 0 None (reply_text refusal)); result = Some (result.Answer refusal) })

  -- ---- the world

  abbrev world : List OfToken → ClientState → List Noted → WorldState
  world contexts client notes = record {
    minted = (record { grant = grant; text = text }) ∷ [];
    first = tree;
    server = record { contexts = contexts; tree = tree; rules = rules };
    clients = client ∷ [];
    notes = notes;
  }

  abbrev pub after : WorldState
  after = world (confirmed ∷ []) done (answered ∷ served ∷ asked ∷ made ∷ posted ∷ started ∷ [])

  pub record Has : Type 0 where
    pub granted : ComesTo text audience now (Ok (claims, scope))
    pub begins : HasBegun claims.not_before now
    pub ends : IsNotOver claims.expires now
    pub is_text : IsTextOf grant text
    pub reads : IsReplyIn (reply_text refusal) refusal

  start : Has → IsStart (world [] new [])
  start h = record {
    texts = λ m i. ⊎_elim (λ (e : m ≡ record { grant = grant; text = text }). subst (λ (x : Minted). IsTextOf x.grant x.text) (sym e) h.is_text) (λ n. absurd n) i;
    tree = refl;
    contexts = refl;
    clients = one;
    notes = refl;
  }
    where
      its : IsNewClient ((record { grant = grant; text = text }) ∷ []) 0 new
      its = record {
        holds = record { held = record { grant = grant; text = text }; granted = inl refl; holder = refl; secret = refl };
        context = refl;
        outstanding = refl;
      }

      one : (by : ℕ) (client : ClientState) → slice_get (new ∷ []) by ≡ Some client → IsNewClient ((record { grant = grant; text = text }) ∷ []) by client
      one zero client e = let same : new ≡ client = cc in subst (IsNewClient ((record { grant = grant; text = text }) ∷ []) 0) same its
      one (suc by) client e = absurd (cc)

  -- ---- the steps

  step_started : WorldStep (world [] new []) (world [] waiting (started ∷ []))
  step_started = OfClient 0 false new waiting (record quiet { drawn = Some (eight 1) }) refl
      (Started refl (record { begun = begun; size = refl; offered = refl; noted = refl; before = refl; is = refl })) refl

  step_posted : Has → WorldStep (world [] waiting (started ∷ [])) (world (pending ∷ []) waiting (posted ∷ started ∷ []))
  step_posted h = OfServer now (record { contexts = pending ∷ []; tree = tree; rules = rules }) (record quiet { opens = Some (token_note key [] [] text); drawn = Some (eight 2); holder = Some claims.material.id })
      (Posted (record {
        key = key;
        protected = [];
        iv = [];
        text = text;
        audience = audience;
        claims = claims;
        scope = scope;
        granted = h.granted;
        allowed = refl;
        unrevoked = refl;
        post = post;
        short = omega arith;
        size = refl;
        apart = other_id;
        noted = refl;
        contexts = record {
          only = λ c m. ⊎_elim (λ (e : c ≡ pending). inl e) (λ n. absurd n) m;
          here = inl refl;
          replaced = λ c m is. ⊎_elim (λ (e : c ≡ pending). e) (λ n. absurd n) m;
          live = λ c m live. absurd m;
        };
        tree = refl;
        rules = refl;
      })) refl

  step_made : WorldStep (world (pending ∷ []) waiting (posted ∷ started ∷ [])) (world (pending ∷ []) ready (made ∷ posted ∷ started ∷ []))
  step_made = OfClient 0 false waiting ready (record quiet { result = Some result.Made }) refl
      (Made refl (record {
        begun = begun;
        nonce2 = eight 2;
        size = (omega arith, omega arith);
        server_id = byte 1;
        short = omega arith;
        apart = other_id;
        noted = refl;
        before = refl;
        is = refl;
      })) refl

  step_asked : WorldStep (world (pending ∷ []) ready (made ∷ posted ∷ started ∷ [])) (world (pending ∷ []) asking (asked ∷ made ∷ posted ∷ started ∷ []))
  step_asked = OfClient 0 false ready asking (record quiet { seals = Some (request_note name 0 []) }) refl
      (Asked refl (record { context = record { name = name; next = 0 }; lawful = omega arith; plaintext = []; noted = refl; held = refl; before = refl; is = refl })) refl

  step_served : Has → WorldStep (world (pending ∷ []) asking (asked ∷ made ∷ posted ∷ started ∷ [])) (world (confirmed ∷ []) asking (served ∷ asked ∷ made ∷ posted ∷ started ∷ []))
  step_served h = OfServer now (record { contexts = confirmed ∷ []; tree = tree; rules = rules }) (record quiet { seals = Some (reply_note name 0 refusal); opens = Some (opening_note name 0 []); served = Some entry; holder = Some claims.material.id })
      (Served (record {
        context = pending;
        is_held = inl refl;
        is_live = record { begun = h.begins; not_over = h.ends; unrevoked = refl; young = λ seconds e. absurd (no_age seconds e) };
        number = 0;
        lawful = omega arith;
        fresh = All-nil _;
        text = [];
        reply = refusal;
        within = record { etag = tt; format = tt };
        tree = applied rules.revoked tree scope;
        noted = refl;
        contexts = record {
          only = λ c m. ⊎_elim (λ (e : c ≡ confirmed). inl e) (λ n. absurd n) m;
          here = inl refl;
          older_gone = λ c m is. ⊎_elim (λ (e : c ≡ confirmed). e) (λ n. absurd n) m;
          live = λ c m live. ⊎_elim (λ (e : c ≡ pending). inr (inl e)) (λ n. absurd n) m;
        };
        rules = refl;
      })) refl

  step_answered : Has → WorldStep (world (confirmed ∷ []) asking (served ∷ asked ∷ made ∷ posted ∷ started ∷ [])) after
  step_answered h = OfClient 0 false asking done (record quiet { opens = Some (response_note name 0 None (reply_text refusal)); result = Some (result.Answer refusal) }) refl
      (Answered refl (record {
        ask = record { context = name; number = 0 };
        own = None;
        text = reply_text refusal;
        reply = refusal;
        reads = h.reads;
        noted = refl;
        before = refl;
        is = refl;
      })) refl

  pub reached : Has → IsReached after
  reached h = (
    world (confirmed ∷ []) asking (served ∷ asked ∷ made ∷ posted ∷ started ∷ [])
        ∷ world (pending ∷ []) asking (asked ∷ made ∷ posted ∷ started ∷ [])
        ∷ world (pending ∷ []) ready (made ∷ posted ∷ started ∷ [])
        ∷ world (pending ∷ []) waiting (posted ∷ started ∷ [])
        ∷ world [] waiting (started ∷ [])
        ∷ world [] new []
        ∷ [],
    (step_answered h, (step_served h, (step_asked, (step_made, (step_posted h, (step_started, start h)))))),
  )

  -- ---- what is assumed

  one_opening : (a b : Note) (earlier : List Noted) → IsGenuineOpening after.minted earlier a → Some a ≡ Some b → IsGenuineOpening after.minted earlier b
  one_opening a b earlier g e = let same : a ≡ b = cc in subst (IsGenuineOpening after.minted earlier) same g

  no_token : (context : ContextName) → context ≡ name → context.client_id ≡ context.server_id → ⊥
  no_token context is same = other_id (ap (λ (x : ContextName). x.client_id) (sym is) ∙ same ∙ ap (λ (x : ContextName). x.server_id) is)

  genuine : IsGenuine after.minted after.notes
  genuine = (
    (λ o e. one_opening (response_note name 0 None (reply_text refusal)) o _ (record {
      token = λ t. absurd (no_token name refl (ap (λ (x : ContextName). x.client_id) t.1 ∙ sym (ap (λ (x : ContextName). x.server_id) t.1)));
      message = λ _. record { step = served; noted = inl refl; sealing = reply_note name 0 refusal; seal = refl; context = refl; side = λ s. other_side (sym s); nonce = refl; aad = refl; plaintext = refl };
    }) e),
    (
      (λ o e. one_opening (opening_note name 0 []) o _ (record {
        token = λ t. absurd (no_token name refl (ap (λ (x : ContextName). x.client_id) t.1 ∙ sym (ap (λ (x : ContextName). x.server_id) t.1)));
        message = λ _. record { step = asked; noted = inl refl; sealing = request_note name 0 []; seal = refl; context = refl; side = other_side; nonce = refl; aad = refl; plaintext = refl };
      }) e),
      (
        (λ o e. absurd (cc)),
        (
          (λ o e. absurd (cc)),
          (
            (λ o e. one_opening (token_note key [] [] text) o _ (record { token = λ t. (record { grant = grant; text = text }, inl refl, refl); message = λ n. absurd (n (refl, refl)) }) e),
            ((λ o e. absurd (cc)), tt),
          ),
        ),
      ),
    ),
  )

  same_draw : (a b : List ℕ) → Some a ≡ Some b → a ≡ b
  same_draw a b e = cc

  fresh : HasFreshDraws after.notes
  fresh = (
    (λ n e. absurd (cc)),
    (
      (λ n e. absurd (cc)),
      (
        (λ n e. absurd (cc)),
        (
          (λ n e. absurd (cc)),
          (
            (λ n e d. ⊎_elim (λ (m : d.0 ≡ started). other_draw (same_draw (eight 1) n (sym (ap (λ (s : Noted). s.notes.drawn) m) ∙ d.2) ∙ sym (same_draw (eight 2) n e))) (λ m. absurd m) d.1),
            ((λ n e d. absurd d.1), tt),
          ),
        ),
      ),
    ),
  )

  pub premise : Premise after.minted after.notes
  premise = record { genuine = genuine; fresh = fresh; separate = (tt, tt) }
