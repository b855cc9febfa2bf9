-- What holds of each run in which, besides, whatever opens was sealed by the other end.
use Rattle.std.proofs.Common.{◌≡◌, ◌≢◌, ℕ, Bool, false, List, [], ◌∷◌, Option, Some, None, option_map, refl, sym, ap, ◌∙◌, inl, inr, ⊎_elim, subst}
use Rattle.std.specs.Prelude.{slice_get, slice_set}
use Rattle.osc_model.specs.{IsLegal, effect}
use Rattle.osc_model.specs.StepNotes.{StepNotes}
use Rattle.osc_model.specs.declared.node.Moment.{Moment}
use Rattle.osc_model.specs.declared.step.ClientResult.{ClientResult}
use Rattle.osc_model.specs.declared.step.ClientResult.TheVariants as result
use Rattle.osc_model.specs.declared.step.Entry.{Entry}
use Rattle.osc_model.specs.declared.step.Note.{Note}
use Rattle.osc_token.specs.{token_note}
use Rattle.osc_authz.specs.{OfToken, confirmed_by, In}
use Rattle.osc_authz.specs.declared.rules.ContextRules.{ContextRules}
use Rattle.osc_run.specs.{Noted, ByClient, by_server, by_client, by_proxy, ServerState, ClientState, Minted, grants_of, WorldState, opening_note, IsServed, ServerStep, ServerIdle, Posted, Served, ServerRestarted, request_note, response_note, IsEnding, IsAnswered, ClientStep, ClientIdle, Started, Made, Asked, Answered, Ended, Lied, ClientRestarted, IsTextOf, IsStart, WorldStep, OfServer, OfClient, OfProxy, Skipped, IsRun, IsGenuineOpening, IsGenuine, HasOwnSecrets, AreUnrevoked, history, questions, question_in, Acceptance, acceptance_in, acceptances, IsReplyOfRequest}
use Rattle.osc_options.specs.{read_request}
use Rattle.osc_run.specs.Premise.{Premise}
use Rattle.osc_run.specs.OneHistory.{OneHistory}
use Rattle.osc_run.proofs.LawsBelow.{Laws}
use Rattle.osc_run.proofs.Lists.{collected_more, collected_none, collected_one, collected_same}
use Rattle.osc_run.proofs.ServerSteps.{none_served, one_served, still_served, added_of, entry_of}
use Rattle.osc_run.proofs.FreshRuns.{Kept, kept_run}
use Rattle.osc_run.proofs.Grants.{Granted, posted_granted, still_legal, still_effects, still_unrevoked}
use Rattle.osc_run.proofs.Replied.{AskedBy, more_asked_by, sealed_question, no_token, same_number, opened_request, opened_reply, one_reply, same_text}

-- what is known of the history
pub record Right (w : WorldState) : Type 0 where
  pub texts : (m : Minted) → In m w.minted → IsTextOf m.grant m.text
  pub granted : (c : OfToken) → In c w.server.contexts → Granted w.minted w.server.rules.revoked c.held
  pub legal : IsLegal read_request w.server.rules.revoked (grants_of w.minted) w.first (history w.notes)
  pub effects : effect read_request w.server.rules.revoked (grants_of w.minted) w.first (history w.notes) ≡ w.server.tree
  pub unrevoked : AreUnrevoked (grants_of w.minted) w.server.rules.revoked w.first (history w.notes)
  pub asked : (e : Entry) → In e (history w.notes) → AskedBy w.minted w.notes e.context e.number e.plaintext
  pub answered : (a : Acceptance) → In a (acceptances w.notes) → IsReplyOfRequest w.notes a

-- ---- what was accepted, after one more step

abbrev accepted_in : Noted → Option Acceptance
accepted_in s = acceptance_in s.actor s.notes.result s.notes.opens

more_questions : (notes : List Noted) (s : Noted) → (q : _) → In q (questions notes) → In q (questions (s ∷ notes))
more_questions notes s q m = collected_more (λ (r : Noted). question_in r.actor r.lied r.notes.seals) s notes q m

more_replied : (notes : List Noted) (s : Noted) (a : Acceptance) → IsReplyOfRequest notes a → IsReplyOfRequest (s ∷ notes) a
more_replied notes s a r = record {
  entry = r.entry;
  served = still_served notes s r.entry r.served;
  context = r.context;
  number = r.number;
  reply = r.reply;
  plaintext = r.plaintext;
  asked = more_questions notes s _ r.asked;
  same = ⊎_elim (λ (h : r.entry.plaintext ≡ r.plaintext). inl h) (λ h. inr (more_questions notes s _ h)) r.same;
}

-- ---- a step that serves nothing and accepts nothing

same_history : (v : WorldState) (s : Noted) (server : ServerState) (clients : List ClientState) → s.notes.served ≡ None → accepted_in s ≡ None
    → ((c : OfToken) → In c server.contexts → Granted v.minted v.server.rules.revoked c.held) → server.tree ≡ v.server.tree → server.rules ≡ v.server.rules → Right v
    → Right (record v { server = server; clients = clients; notes = s ∷ v.notes })
same_history v s server clients h g granted t r k =
    let same : history (s ∷ v.notes) ≡ history v.notes = collected_same (λ (r : Noted). r.notes.served) s v.notes h in
    record {
      texts = k.texts;
      granted = subst (λ (o : ContextRules). (c : OfToken) → In c server.contexts → Granted v.minted o.revoked c.held) (sym r) granted;
      legal = subst (λ (o : ContextRules). IsLegal read_request o.revoked (grants_of v.minted) v.first (history (s ∷ v.notes))) (sym r)
          (subst (IsLegal read_request v.server.rules.revoked (grants_of v.minted) v.first) (sym same) k.legal);
      effects = ap (λ (o : ContextRules). effect read_request o.revoked (grants_of v.minted) v.first (history (s ∷ v.notes))) r
          ∙ ap (effect read_request v.server.rules.revoked (grants_of v.minted) v.first) same ∙ k.effects ∙ sym t;
      unrevoked = subst (λ (o : ContextRules). AreUnrevoked (grants_of v.minted) o.revoked v.first (history (s ∷ v.notes))) (sym r)
          (subst (AreUnrevoked (grants_of v.minted) v.server.rules.revoked v.first) (sym same) k.unrevoked);
      asked = λ e m. more_asked_by v.minted v.notes s e (k.asked e (none_served v.notes s e h m));
      answered = λ a m. more_replied v.notes s a (k.answered a (collected_none accepted_in s v.notes a g m));
    }

-- ---- the server

right_of_served : Laws → (v : WorldState) (now : Moment) (server : ServerState) (notes : StepNotes) → IsServed v.server now notes server → IsGenuine v.minted (by_server notes ∷ v.notes) → HasOwnSecrets v.minted → Kept v → Right v
    → Right (record v { server = server; notes = by_server notes ∷ v.notes })
right_of_served laws v now server notes p genuine own kept k =
    let s : Noted = by_server notes in
    let x = p.context in
    let e : Entry = entry_of v.server server now notes p in
    let served : s.notes.served ≡ Some e = ap (λ (r : StepNotes). r.served) p.noted in
    let lawful = kept.server.lawful x p.is_held in
    let opening : Note = opening_note x.held.name p.number p.text in
    let vouched = (genuine.0 opening (ap (λ (r : StepNotes). r.opens) p.noted)).message (no_token opening lawful) in
    let asked = opened_request laws v.minted v.notes x.held.name p.number p.text vouched.step vouched.sealing vouched.step.actor p.lawful refl vouched.noted vouched.seal vouched.context vouched.side vouched.aad vouched.plaintext lawful kept.seals in
    let g = k.granted x p.is_held in
    record {
      texts = k.texts;
      granted = subst (λ (o : ContextRules). (c : OfToken) → In c server.contexts → Granted v.minted o.revoked c.held) (sym p.rules) (λ c m. ⊎_elim
          (λ (u : c ≡ confirmed_by p.number x). subst (λ (d : OfToken). Granted v.minted v.server.rules.revoked d.held) (sym u) (record { source = g.source; granted = g.granted; secret = g.secret; scope = g.scope; not_before = g.not_before; expires = g.expires; revocation = g.revocation }))
          (λ (u : In c v.server.contexts × (c.held.name ≢ x.held.name)). k.granted c u.0)
          (p.contexts.only c m));
      legal = still_legal laws v.minted v.first v.notes v.server server now s p own g kept.server k.effects k.legal;
      effects = still_effects laws v.minted v.first v.notes v.server server now s p own g k.effects;
      unrevoked = still_unrevoked laws v.minted v.first v.notes v.server server now s p own g k.effects k.unrevoked;
      asked = λ d m. ⊎_elim
          (λ (u : d ≡ e). subst (λ (y : Entry). AskedBy v.minted (s ∷ v.notes) y.context y.number y.plaintext) (sym u) (more_asked_by v.minted v.notes s e asked))
          (λ (u : In d (history v.notes)). more_asked_by v.minted v.notes s d (k.asked d u))
          (one_served v.notes s e d served m);
      answered = λ a m. more_replied v.notes s a (k.answered a (collected_none accepted_in s v.notes a refl m));
    }

right_of_server : Laws → (v : WorldState) (now : Moment) (server : ServerState) (notes : StepNotes) → ServerStep v.server now notes server → IsGenuine v.minted (by_server notes ∷ v.notes) → HasOwnSecrets v.minted → Kept v → Right v
    → Right (record v { server = server; notes = by_server notes ∷ v.notes })
right_of_server laws v now server notes (ServerIdle p) genuine own kept k =
    same_history v (by_server notes) server v.clients (ap (λ (r : StepNotes). r.served) p.noted) refl (λ c m. k.granted c (p.contexts.only c m)) p.tree p.rules k
right_of_server laws v now server notes (Posted p) genuine own kept k =
    let a : OfToken = added_of v.server server now notes p in
    let opening = genuine.0 (token_note p.key p.protected p.iv p.text) (ap (λ (r : StepNotes). r.opens) p.noted) in
    let new = posted_granted v.minted v.notes v.server server now notes p k.texts opening in
    same_history v (by_server notes) server v.clients (ap (λ (r : StepNotes). r.served) p.noted) refl
    (λ c m. ⊎_elim (λ (u : c ≡ a). subst (λ (d : OfToken). Granted v.minted v.server.rules.revoked d.held) (sym u) new) (λ (u : In c v.server.contexts). k.granted c u) (p.contexts.only c m))
    p.tree p.rules k
right_of_server laws v now server notes (Served p) genuine own kept k = right_of_served laws v now server notes p genuine own kept k
right_of_server laws v now server notes (ServerRestarted p) genuine own kept k =
    same_history v (by_server notes) server v.clients (ap (λ (r : StepNotes). r.served) p.noted) refl
    (λ c m. absurd (subst (λ (t : ServerState). In c t.contexts) p.is m))
    (ap (λ (t : ServerState). t.tree) p.is) (ap (λ (t : ServerState). t.rules) p.is) k

-- ---- a client

idle_accepts : (i : ℕ) (refusal : Option ℕ) (opened : Option Note) → acceptance_in (ByClient i) (option_map result.Refused refusal) opened ≡ None
idle_accepts i None opened = refl
idle_accepts i (Some n) opened = refl

ended_accepts : (i : ℕ) (r : ClientResult) (opened : Option Note) → IsEnding r → acceptance_in (ByClient i) (Some r) opened ≡ None
ended_accepts i result.Made opened h = refl
ended_accepts i (result.Answer reply) opened h = absurd h
ended_accepts i (result.Unverified code) opened h = refl
ended_accepts i result.TimedOut opened h = refl
ended_accepts i (result.Refused n) opened h = refl

-- the reply is of the open request
reply_of_answered : Laws → (v : WorldState) (i : ℕ) (old new : ClientState) (notes : StepNotes) (p : IsAnswered old notes new) → slice_get v.clients i ≡ Some old
    → IsGenuineOpening v.minted v.notes (response_note p.ask.context p.ask.number p.own p.text) → HasOwnSecrets v.minted → Kept v → Right v
    → IsReplyOfRequest v.notes (record { by = i; context = p.ask.context; number = p.ask.number; reply = p.reply })
reply_of_answered laws v i old new notes p at genuine own kept k =
    let q = p.ask in
    let asked = (kept.clients i old at).ask q p.before in
    let seal = kept.seals.client i false (request_note q.context q.number asked.plaintext) asked.sealed in
    let vouched = genuine.message (no_token (response_note q.context q.number p.own p.text) seal.lawful) in
    let t = vouched.sealing in
    let b = opened_reply v.minted v.notes vouched.step t vouched.step.actor refl vouched.noted vouched.seal vouched.side kept.seals in
    let e = b.entry in
    let named : e.context ≡ q.context = sym (ap (λ (u : Note). u.context) b.is) ∙ vouched.context in
    let number : e.number ≡ q.number = same_number laws e.context q.context e.number q.number named seal.lawful.short b.number seal.number (sym (ap (λ (u : Note). u.aad) b.is) ∙ vouched.aad) in
    let h = k.asked e b.served in
    record {
      entry = e;
      served = b.served;
      context = named;
      number = number;
      reply = one_reply laws v.notes t b p.text p.reply p.reads vouched.plaintext;
      plaintext = asked.plaintext;
      asked = sealed_question v.notes i false (request_note q.context q.number asked.plaintext) asked.sealed;
      same = same_text v.minted v.notes i q asked.plaintext e own kept.nonces asked.sealed seal.holds named number h h.lied refl;
    }

right_of_client : Laws → (v : WorldState) (i : ℕ) (lied : Bool) (old new : ClientState) (notes : StepNotes) → slice_get v.clients i ≡ Some old → ClientStep lied old notes new → IsGenuine v.minted (by_client i lied notes ∷ v.notes) → HasOwnSecrets v.minted → Kept v → Right v
    → Right (record v { clients = slice_set v.clients i new; notes = by_client i lied notes ∷ v.notes })
right_of_client laws v i lied old new notes at (ClientIdle p) genuine own kept k =
    same_history v (by_client i lied notes) v.server (slice_set v.clients i new) (ap (λ (r : StepNotes). r.served) p.noted) (ap (λ (r : StepNotes). acceptance_in (ByClient i) r.result r.opens) p.noted ∙ idle_accepts i p.refusal p.opened) k.granted refl refl k
right_of_client laws v i lied old new notes at (Started honest p) genuine own kept k =
    same_history v (by_client i lied notes) v.server (slice_set v.clients i new) (ap (λ (r : StepNotes). r.served) p.noted) (ap (λ (r : StepNotes). acceptance_in (ByClient i) r.result r.opens) p.noted) k.granted refl refl k
right_of_client laws v i lied old new notes at (Made honest p) genuine own kept k =
    same_history v (by_client i lied notes) v.server (slice_set v.clients i new) (ap (λ (r : StepNotes). r.served) p.noted) (ap (λ (r : StepNotes). acceptance_in (ByClient i) r.result r.opens) p.noted) k.granted refl refl k
right_of_client laws v i lied old new notes at (Asked honest p) genuine own kept k =
    same_history v (by_client i lied notes) v.server (slice_set v.clients i new) (ap (λ (r : StepNotes). r.served) p.noted) (ap (λ (r : StepNotes). acceptance_in (ByClient i) r.result r.opens) p.noted) k.granted refl refl k
right_of_client laws v i lied old new notes at (Ended honest p) genuine own kept k =
    same_history v (by_client i lied notes) v.server (slice_set v.clients i new) (ap (λ (r : StepNotes). r.served) p.noted) (ap (λ (r : StepNotes). acceptance_in (ByClient i) r.result r.opens) p.noted ∙ ended_accepts i p.result None p.ending) k.granted refl refl k
right_of_client laws v i lied old new notes at (Lied lies p) genuine own kept k =
    same_history v (by_client i lied notes) v.server (slice_set v.clients i new) (ap (λ (r : StepNotes). r.served) p.noted) (ap (λ (r : StepNotes). acceptance_in (ByClient i) r.result r.opens) p.noted) k.granted refl refl k
right_of_client laws v i lied old new notes at (ClientRestarted honest p) genuine own kept k =
    same_history v (by_client i lied notes) v.server (slice_set v.clients i new) (ap (λ (r : StepNotes). r.served) p.noted) (ap (λ (r : StepNotes). acceptance_in (ByClient i) r.result r.opens) p.noted) k.granted refl refl k
right_of_client laws v i lied old new notes at (Answered honest p) genuine own kept k =
    let s : Noted = by_client i lied notes in
    let none : s.notes.served ≡ None = ap (λ (r : StepNotes). r.served) p.noted in
    let b : Acceptance = record { by = i; context = p.ask.context; number = p.ask.number; reply = p.reply } in
    let here : accepted_in s ≡ Some b = ap (λ (r : StepNotes). acceptance_in (ByClient i) r.result r.opens) p.noted in
    let opening = genuine.0 (response_note p.ask.context p.ask.number p.own p.text) (ap (λ (r : StepNotes). r.opens) p.noted) in
    let reply = reply_of_answered laws v i old new notes p at opening own kept k in
    let same : history (s ∷ v.notes) ≡ history v.notes = collected_same (λ (r : Noted). r.notes.served) s v.notes none in
    record {
      texts = k.texts;
      granted = k.granted;
      legal = subst (IsLegal read_request v.server.rules.revoked (grants_of v.minted) v.first) (sym same) k.legal;
      effects = ap (effect read_request v.server.rules.revoked (grants_of v.minted) v.first) same ∙ k.effects;
      unrevoked = subst (AreUnrevoked (grants_of v.minted) v.server.rules.revoked v.first) (sym same) k.unrevoked;
      asked = λ e m. more_asked_by v.minted v.notes s e (k.asked e (none_served v.notes s e none m));
      answered = λ a m. ⊎_elim
          (λ (u : a ≡ b). more_replied v.notes s a (subst (IsReplyOfRequest v.notes) (sym u) reply))
          (λ (u : In a (acceptances v.notes)). more_replied v.notes s a (k.answered a u))
          (collected_one accepted_in s v.notes a b here m);
    }

-- ---- runs

-- the premise of a run holds of its beginning
earlier_premise : (v : WorldState) (s : Noted) → Premise v.minted (s ∷ v.notes) → Premise v.minted v.notes
earlier_premise v s p = record { genuine = p.genuine.1; fresh = p.fresh.1; separate = p.separate }

right_step : Laws → (v w : WorldState) → WorldStep v w → Premise w.minted w.notes → (Premise v.minted v.notes → Kept v × Right v) → Right w
right_step laws v w (OfServer now server notes p is) premise k =
    let q = subst (λ (u : WorldState). Premise u.minted u.notes) is premise in
    let h = k (earlier_premise v (by_server notes) q) in
    subst Right (sym is) (right_of_server laws v now server notes p q.genuine q.separate h.0 h.1)
right_step laws v w (OfClient i lied old new notes at p is) premise k =
    let q = subst (λ (u : WorldState). Premise u.minted u.notes) is premise in
    let h = k (earlier_premise v (by_client i lied notes) q) in
    subst Right (sym is) (right_of_client laws v i lied old new notes at p q.genuine q.separate h.0 h.1)
right_step laws v w (OfProxy i notes p is) premise k =
    let q = subst (λ (u : WorldState). Premise u.minted u.notes) is premise in
    let h = k (earlier_premise v (by_proxy i notes) q) in
    subst Right (sym is) (same_history v (by_proxy i notes) v.server v.clients (ap (λ (r : StepNotes). r.served) p.noted) refl h.1.granted refl refl h.1)
right_step laws v w (Skipped i old new at p is) premise k =
    let q = subst (λ (u : WorldState). Premise u.minted u.notes) is premise in
    let h = k q in
    let r = h.1 in
    subst Right (sym is) (record { texts = r.texts; granted = r.granted; legal = r.legal; effects = r.effects; unrevoked = r.unrevoked; asked = r.asked; answered = r.answered })

right_start : (w : WorldState) → IsStart w → Right w
right_start w p = record {
  texts = p.texts;
  granted = λ c m. absurd (subst (In c) p.contexts m);
  legal = subst (λ (n : List Noted). IsLegal read_request w.server.rules.revoked (grants_of w.minted) w.first (history n)) (sym p.notes) (record { once = tt; timely = tt; answered = tt });
  effects = ap (λ (n : List Noted). effect read_request w.server.rules.revoked (grants_of w.minted) w.first (history n)) p.notes ∙ sym p.tree;
  unrevoked = subst (λ (n : List Noted). AreUnrevoked (grants_of w.minted) w.server.rules.revoked w.first (history n)) (sym p.notes) tt;
  asked = λ e m. absurd (subst (λ (n : List Noted). In e (history n)) p.notes m);
  answered = λ a m. absurd (subst (λ (n : List Noted). In a (acceptances n)) p.notes m);
}

right_run : Laws → (w : WorldState) (earlier : List WorldState) → IsRun (w ∷ earlier) → Premise w.minted w.notes → Right w
right_run laws w [] p premise = right_start w p
right_run laws w (v ∷ earlier) p premise = right_step laws v w p.0 premise (λ q. (kept_run laws v earlier p.1 q.fresh, right_run laws v earlier p.1 q))

-- one history
pub one_history_of : Laws → (w : WorldState) (earlier : List WorldState) → IsRun (w ∷ earlier) → Premise w.minted w.notes → OneHistory w
one_history_of laws w earlier run premise =
    let k = right_run laws w earlier run premise in
    record {
      legal = k.legal;
      effects = k.effects;
      none_revoked = k.unrevoked;
      asked = λ e m. let a = k.asked e m in record { by = a.by; lied = a.lied; holds = a.holds; asked = sealed_question w.notes a.by a.lied (request_note e.context e.number e.plaintext) a.sealed };
      answered = k.answered;
    }
