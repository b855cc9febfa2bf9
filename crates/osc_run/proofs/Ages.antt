-- What is served comes under a context that a post of the run made, and while that is young.
use Rattle.std.proofs.Common.{◌≡◌, ◌≢◌, ℕ, ◌+◌, ◌/◌, Bool, List, [], ◌∷◌, Option, Some, None, refl, sym, ap, ◌∙◌, inl, inr, ⊎_elim, subst}
use Rattle.std.specs.Prelude.{slice_set}
use Rattle.osc_model.specs.StepNotes.{StepNotes}
use Rattle.osc_model.specs.declared.node.Moment.{Moment}
use Rattle.osc_model.specs.declared.step.Entry.{Entry}
use Rattle.osc_authz.specs.{In, OfToken, confirmed_by, end_of, name_by}
use Rattle.osc_authz.specs.SecurityContext.{SecurityContext}
use Rattle.osc_authz.specs.declared.rules.ContextRules.{ContextRules}
use Rattle.osc_run.specs.{AreNext, AreYoung, IsYoung, Noted, by_server, by_client, by_proxy, ServerState, ClientState, WorldState, IsPosted, IsServed, ServerStep, ServerIdle, Posted, Served, ServerRestarted, ClientStep, ClientIdle, Started, Made, Asked, Answered, Ended, Lied, ClientRestarted, IsStart, WorldStep, OfServer, OfClient, OfProxy, Skipped, IsRun, history}
use Rattle.osc_run.proofs.ServerSteps.{none_served, one_served, added_of, entry_of}

-- ---- what is known of the contexts and of the history

-- a post of the run made a context of this name, which ends so
record IsMadeBy (run : List WorldState) (rules : ContextRules) (held : SecurityContext) : Type 0 where
  old : WorldState
  new : WorldState
  next : AreNext run old new
  made_at : Moment
  notes : StepNotes
  posted : IsPosted old.server made_at notes new.server
  name : name_by posted.claims.material posted.post ≡ held.name
  ends : held.ends ≡ end_of rules.seconds made_at

abbrev AreEntriesYoung : List WorldState → ContextRules → List Noted → Type 0
AreEntriesYoung run rules notes = (seconds : ℕ) (entry : Entry) → rules.seconds ≡ Some seconds → In entry (history notes) → IsYoung run seconds entry

record Known (run : List WorldState) (w : WorldState) : Type 0 where
  held : (c : OfToken) → In c w.server.contexts → IsMadeBy run w.server.rules c.held
  young : AreEntriesYoung run w.server.rules w.notes

-- ---- a longer run

still_made : (w v : WorldState) (earlier : List WorldState) (rules : ContextRules) (held : SecurityContext) → IsMadeBy (v ∷ earlier) rules held → IsMadeBy (w ∷ v ∷ earlier) rules held
still_made w v earlier rules held m =
    record { old = m.old; new = m.new; next = inr m.next; made_at = m.made_at; notes = m.notes; posted = m.posted; name = m.name; ends = m.ends }

still_young : (w v : WorldState) (earlier : List WorldState) (seconds : ℕ) (entry : Entry) → IsYoung (v ∷ earlier) seconds entry → IsYoung (w ∷ v ∷ earlier) seconds entry
still_young w v earlier seconds entry y =
    record { old = y.old; new = y.new; next = inr y.next; made_at = y.made_at; notes = y.notes; posted = y.posted; context = y.context; age = y.age }

-- the same context, which took a number
taken_made : (run : List WorldState) (rules : ContextRules) (a b : SecurityContext) → a.name ≡ b.name → a.ends ≡ b.ends → IsMadeBy run rules a → IsMadeBy run rules b
taken_made run rules a b name ends m =
    record { old = m.old; new = m.new; next = m.next; made_at = m.made_at; notes = m.notes; posted = m.posted; name = m.name ∙ name; ends = sym ends ∙ m.ends }

-- ---- a step that serves nothing, and adds nothing

module _ (v : WorldState) (earlier : List WorldState) where
  stays : (server : ServerState) (clients : List ClientState) (s : Noted) → s.notes.served ≡ None → ((c : OfToken) → In c server.contexts → In c v.server.contexts) → server.rules ≡ v.server.rules
      → Known (v ∷ earlier) v → Known ((record v { server = server; clients = clients; notes = s ∷ v.notes }) ∷ v ∷ earlier) (record v { server = server; clients = clients; notes = s ∷ v.notes })
  stays server clients s none only rules k =
      let w : WorldState = record v { server = server; clients = clients; notes = s ∷ v.notes } in
      subst (λ (r : ContextRules). Known (w ∷ v ∷ earlier) (record w { server = record server { rules = r } })) (sym rules) (record {
        held = λ c m. still_made w v earlier v.server.rules c.held (k.held c (only c m));
        young = λ seconds entry is m. still_young w v earlier seconds entry (k.young seconds entry is (none_served v.notes s entry none m));
      })

  -- ---- the server

  -- one more context
  one_made : (now : Moment) (server : ServerState) (notes : StepNotes) → IsPosted v.server now notes server
      → Known (v ∷ earlier) v → Known ((record v { server = server; notes = by_server notes ∷ v.notes }) ∷ v ∷ earlier) (record v { server = server; notes = by_server notes ∷ v.notes })
  one_made now server notes p k =
      let w : WorldState = record v { server = server; notes = by_server notes ∷ v.notes } in
      let a : OfToken = added_of v.server server now notes p in
      let none : notes.served ≡ None = ap (λ (r : StepNotes). r.served) p.noted in
      let here : IsMadeBy (w ∷ v ∷ earlier) v.server.rules a.held = record { old = v; new = w; next = inl (refl, refl); made_at = now; notes = notes; posted = p; name = refl; ends = refl } in
      record {
        held = λ c m. subst (λ (r : ContextRules). IsMadeBy (w ∷ v ∷ earlier) r c.held) (sym p.rules) (⊎_elim
            (λ (e : c ≡ a). subst (λ (d : OfToken). IsMadeBy (w ∷ v ∷ earlier) v.server.rules d.held) (sym e) here)
            (λ (i : In c v.server.contexts). still_made w v earlier v.server.rules c.held (k.held c i))
            (p.contexts.only c m));
        young = subst (λ (r : ContextRules). AreEntriesYoung (w ∷ v ∷ earlier) r w.notes) (sym p.rules)
            (λ seconds entry is m. still_young w v earlier seconds entry (k.young seconds entry is (none_served v.notes (by_server notes) entry none m)));
      }

  -- one more entry, under a context that lives
  its_age : (now : Moment) (server : ServerState) (notes : StepNotes) (p : IsServed v.server now notes server) (w : WorldState) (seconds : ℕ) → v.server.rules.seconds ≡ Some seconds
      → IsMadeBy (v ∷ earlier) v.server.rules p.context.held → IsYoung (w ∷ v ∷ earlier) seconds (entry_of v.server server now notes p)
  its_age now server notes p w seconds is m = record {
    old = m.old;
    new = m.new;
    next = inr m.next;
    made_at = m.made_at;
    notes = m.notes;
    posted = m.posted;
    context = m.name;
    age = p.is_live.young (m.made_at.ms / 1000 + seconds) (m.ends ∙ ap (λ (o : Option ℕ). end_of o m.made_at) is);
  }

  one_more_served : (now : Moment) (server : ServerState) (notes : StepNotes) → IsServed v.server now notes server
      → Known (v ∷ earlier) v → Known ((record v { server = server; notes = by_server notes ∷ v.notes }) ∷ v ∷ earlier) (record v { server = server; notes = by_server notes ∷ v.notes })
  one_more_served now server notes p k =
      let w : WorldState = record v { server = server; notes = by_server notes ∷ v.notes } in
      let x : OfToken = p.context in
      let e : Entry = entry_of v.server server now notes p in
      let served : notes.served ≡ Some e = ap (λ (r : StepNotes). r.served) p.noted in
      let its : IsMadeBy (v ∷ earlier) v.server.rules x.held = k.held x p.is_held in
      record {
        held = λ c m. subst (λ (r : ContextRules). IsMadeBy (w ∷ v ∷ earlier) r c.held) (sym p.rules) (⊎_elim
            (λ (u : c ≡ confirmed_by p.number x). subst (λ (d : OfToken). IsMadeBy (w ∷ v ∷ earlier) v.server.rules d.held) (sym u)
            (taken_made (w ∷ v ∷ earlier) v.server.rules x.held (confirmed_by p.number x).held refl refl (still_made w v earlier v.server.rules x.held its)))
            (λ (u : In c v.server.contexts × (c.held.name ≢ x.held.name)). still_made w v earlier v.server.rules c.held (k.held c u.0))
            (p.contexts.only c m));
        young = subst (λ (r : ContextRules). AreEntriesYoung (w ∷ v ∷ earlier) r w.notes) (sym p.rules)
            (λ seconds entry is m. ⊎_elim
            (λ (u : entry ≡ e). subst (IsYoung (w ∷ v ∷ earlier) seconds) (sym u) (its_age now server notes p w seconds is its))
            (λ (u : In entry (history v.notes)). still_young w v earlier seconds entry (k.young seconds entry is u))
            (one_served v.notes (by_server notes) e entry served m));
      }

  by_the_server : (now : Moment) (server : ServerState) (notes : StepNotes) → ServerStep v.server now notes server
      → Known (v ∷ earlier) v → Known ((record v { server = server; notes = by_server notes ∷ v.notes }) ∷ v ∷ earlier) (record v { server = server; notes = by_server notes ∷ v.notes })
  by_the_server now server notes (ServerIdle p) k = stays server v.clients (by_server notes) (ap (λ (r : StepNotes). r.served) p.noted) p.contexts.only p.rules k
  by_the_server now server notes (Posted p) k = one_made now server notes p k
  by_the_server now server notes (Served p) k = one_more_served now server notes p k
  by_the_server now server notes (ServerRestarted p) k =
      stays server v.clients (by_server notes) (ap (λ (r : StepNotes). r.served) p.noted)
      (λ c m. absurd (subst (λ (t : ServerState). In c t.contexts) p.is m)) (ap (λ (t : ServerState). t.rules) p.is) k

-- ---- a client serves nothing

none_of_client : (lied : Bool) (old : ClientState) (notes : StepNotes) (new : ClientState) → ClientStep lied old notes new → notes.served ≡ None
none_of_client lied old notes new (ClientIdle p) = ap (λ (r : StepNotes). r.served) p.noted
none_of_client lied old notes new (Started honest p) = ap (λ (r : StepNotes). r.served) p.noted
none_of_client lied old notes new (Made honest p) = ap (λ (r : StepNotes). r.served) p.noted
none_of_client lied old notes new (Asked honest p) = ap (λ (r : StepNotes). r.served) p.noted
none_of_client lied old notes new (Ended honest p) = ap (λ (r : StepNotes). r.served) p.noted
none_of_client lied old notes new (Lied lies p) = ap (λ (r : StepNotes). r.served) p.noted
none_of_client lied old notes new (ClientRestarted honest p) = ap (λ (r : StepNotes). r.served) p.noted
none_of_client lied old notes new (Answered honest p) = ap (λ (r : StepNotes). r.served) p.noted

-- ---- runs

known_step : (v w : WorldState) (earlier : List WorldState) → WorldStep v w → Known (v ∷ earlier) v → Known (w ∷ v ∷ earlier) w
known_step v w earlier (OfServer now server notes p is) k =
    subst (λ (u : WorldState). Known (u ∷ v ∷ earlier) u) (sym is) (by_the_server v earlier now server notes p k)
known_step v w earlier (OfClient i lied old new notes at p is) k =
    subst (λ (u : WorldState). Known (u ∷ v ∷ earlier) u) (sym is)
    (stays v earlier v.server (slice_set v.clients i new) (by_client i lied notes) (none_of_client lied old notes new p) (λ c m. m) refl k)
known_step v w earlier (OfProxy i notes p is) k =
    subst (λ (u : WorldState). Known (u ∷ v ∷ earlier) u) (sym is)
    (stays v earlier v.server v.clients (by_proxy i notes) (ap (λ (r : StepNotes). r.served) p.noted) (λ c m. m) refl k)
known_step v w earlier (Skipped i old new at p is) k =
    subst (λ (u : WorldState). Known (u ∷ v ∷ earlier) u) (sym is) (
    let u : WorldState = record v { clients = slice_set v.clients i new } in
    record {
      held = λ c m. still_made u v earlier v.server.rules c.held (k.held c m);
      young = λ seconds entry known m. still_young u v earlier seconds entry (k.young seconds entry known m);
    })

known_start : (w : WorldState) → IsStart w → Known (w ∷ []) w
known_start w p = record {
  held = λ c m. absurd (subst (In c) p.contexts m);
  young = λ seconds entry is m. absurd (subst (λ (n : List Noted). In entry (history n)) p.notes m);
}

known_run : (w : WorldState) (earlier : List WorldState) → IsRun (w ∷ earlier) → Known (w ∷ earlier) w
known_run w [] p = known_start w p
known_run w (v ∷ earlier) p = known_step v w earlier p.0 (known_run v earlier p.1)

pub young : (w : WorldState) → AreYoung w
young w earlier seconds entry run is m = (known_run w earlier run).young seconds entry is m
