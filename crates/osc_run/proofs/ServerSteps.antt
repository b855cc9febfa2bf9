-- Each kind of step keeps what is known of the server's contexts.
use Rattle.std.proofs.Common.{◌≡◌, ◌≢◌, ◌⊎◌, ℕ, List, ◌∷◌, Option, Some, None, refl, sym, ap, ◌∙◌, inl, ⊎_elim, subst, arith}
use Rattle.osc_model.specs.StepNotes.{StepNotes}
use Rattle.osc_model.specs.declared.context.ContextName.{ContextName}
use Rattle.osc_model.specs.declared.node.Moment.{Moment}
use Rattle.osc_model.specs.declared.step.Entry.{Entry}
use Rattle.osc_context.specs.{server_nonce}
use Rattle.osc_options.specs.{read_request}
use Rattle.osc_window.specs.{IsFresh, with_accepted}
use Rattle.osc_authz.specs.{new_context, OfToken, pending_of, confirmed_by, In}
use Rattle.osc_run.specs.{Noted, ServerState, IsPosted, IsServed, ServerStep, ServerIdle, Posted, Served, ServerRestarted, IsDrawn, HasFreshDraws, history}
use Rattle.osc_run.proofs.LawsBelow.{Laws}
use Rattle.osc_run.proofs.Lists.{collected_more, collected_first, collected_none, collected_one}
use Rattle.osc_run.proofs.Parts.{IsLawfulName, ServerPart, more_drawn}

-- ---- the history after one more step

abbrev served_in : Noted → Option Entry
served_in s = s.notes.served

pub none_served : (notes : List Noted) (s : Noted) (e : Entry) → s.notes.served ≡ None → In e (history (s ∷ notes)) → In e (history notes)
none_served notes s e h m = collected_none served_in s notes e h m

pub one_served : (notes : List Noted) (s : Noted) (d e : Entry) → s.notes.served ≡ Some d → In e (history (s ∷ notes)) → (e ≡ d) ⊎ In e (history notes)
one_served notes s d e h m = collected_one served_in s notes e d h m

pub still_served : (notes : List Noted) (s : Noted) (e : Entry) → In e (history notes) → In e (history (s ∷ notes))
still_served notes s e m = collected_more served_in s notes e m

pub still_first : (notes : List Noted) (s : Noted) (e : Entry) → s.notes.served ≡ Some e → In e (history (s ∷ notes))
still_first notes s e h = collected_first served_in s notes e h

-- ---- kinds

-- a step that serves nothing and adds no context
pub server_stays : (old new : List OfToken) (notes : List Noted) (s : Noted) → s.notes.served ≡ None → ((c : OfToken) → In c new → In c old) → ServerPart old notes → ServerPart new (s ∷ notes)
server_stays old new notes s h sub k = record {
  drawn = λ c m. more_drawn notes s _ (k.drawn c (sub c m));
  lawful = λ c m. k.lawful c (sub c m);
  unused = λ c e m n. k.unused c e (sub c m) (none_served notes s e h n);
  alike = λ c d m n. k.alike c d (sub c m) (sub d n);
  alike_served = λ c e m n. k.alike_served c e (sub c m) (none_served notes s e h n);
  served_drawn = λ e n. more_drawn notes s _ (k.served_drawn e (none_served notes s e h n));
}

-- the context that a post adds
abbrev pub added_of : (old new : ServerState) (now : Moment) (notes : StepNotes) → IsPosted old now notes new → OfToken
added_of old new now notes p = pending_of p.claims.material.id (new_context old.rules now p.claims p.scope p.post)

-- a step that adds a context with a nonce that was never drawn before
pub posted_keeps : Laws → (old new : ServerState) (now : Moment) (notes : List Noted) (s : Noted) → IsPosted old now s.notes new → HasFreshDraws (s ∷ notes) → ServerPart old.contexts notes → ServerPart new.contexts (s ∷ notes)
posted_keeps laws old new now notes s p f k =
    let served : s.notes.served ≡ None = ap (λ (r : StepNotes). r.served) p.noted in
    let a : OfToken = added_of old new now s.notes p in
    let its_nonce : List ℕ = server_nonce a.held.name.salt in
    let drawn : p.post.answer.nonce2 ≡ its_nonce = sym (laws.nonces_of_a_salt p.claims.material.salt p.post.nonce1 p.post.answer.nonce2 p.size) in
    let draws : s.notes.drawn ≡ Some its_nonce = ap (λ (r : StepNotes). r.drawn) p.noted ∙ ap (λ (n : List ℕ). Some n) drawn in
    let here : IsDrawn (s ∷ notes) its_nonce = (s, inl refl, draws) in
    let never : (n : List ℕ) → n ≡ its_nonce → IsDrawn notes n → ⊥ = λ n e d. f.0 its_nonce draws (subst (IsDrawn notes) e d) in
    let nonce = λ (c : OfToken). server_nonce c.held.name.salt in
    let lawful : IsLawfulName a.held.name = record { short = omega arith; apart = p.apart } in
    record {
      drawn = λ c m. ⊎_elim
          (λ (x : c ≡ a). subst (IsDrawn (s ∷ notes)) (sym (ap nonce x)) here)
          (λ (x : In c old.contexts). more_drawn notes s _ (k.drawn c x))
          (p.contexts.only c m);
      lawful = λ c m. ⊎_elim
          (λ (x : c ≡ a). subst (λ (d : OfToken). IsLawfulName d.held.name) (sym x) lawful)
          (λ (x : In c old.contexts). k.lawful c x)
          (p.contexts.only c m);
      unused = λ c e m n named. ⊎_elim
          (λ (x : c ≡ a). absurd (never (server_nonce e.context.salt) (ap (λ (y : ContextName). server_nonce y.salt) named ∙ ap nonce x) (k.served_drawn e (none_served notes s e served n))))
          (λ (x : In c old.contexts). k.unused c e x (none_served notes s e served n) named)
          (p.contexts.only c m);
      alike = λ c d m n same. ⊎_elim
          (λ (x : c ≡ a). ⊎_elim
          (λ (y : d ≡ a). ap (λ (c : OfToken). c.held.name) (x ∙ sym y))
          (λ (y : In d old.contexts). absurd (never (nonce d) (sym same ∙ ap nonce x) (k.drawn d y)))
          (p.contexts.only d n))
          (λ (x : In c old.contexts). ⊎_elim
          (λ (y : d ≡ a). absurd (never (nonce c) (same ∙ ap nonce y) (k.drawn c x)))
          (λ (y : In d old.contexts). k.alike c d x y same)
          (p.contexts.only d n))
          (p.contexts.only c m);
      alike_served = λ c e m n same. ⊎_elim
          (λ (x : c ≡ a). absurd (never (server_nonce e.context.salt) (same ∙ ap nonce x) (k.served_drawn e (none_served notes s e served n))))
          (λ (x : In c old.contexts). k.alike_served c e x (none_served notes s e served n) same)
          (p.contexts.only c m);
      served_drawn = λ e n. more_drawn notes s _ (k.served_drawn e (none_served notes s e served n));
    }

-- the context, before, with the name of one that is held after the step
record Came (contexts : List OfToken) (c : OfToken) : Type 0 where
  before : OfToken
  held : In before contexts
  name : c.held.name ≡ before.held.name

came : (old new : ServerState) (now : Moment) (notes : StepNotes) → IsServed old now notes new → (c : OfToken) → In c new.contexts → Came old.contexts c
came old new now notes p c m =
    ⊎_elim
    (λ (x : c ≡ confirmed_by p.number p.context). record { before = p.context; held = p.is_held; name = ap (λ (c : OfToken). c.held.name) x })
    (λ (x : In c old.contexts × (c.held.name ≢ p.context.held.name)). record { before = c; held = x.0; name = refl })
    (p.contexts.only c m)

abbrev pub entry_of : (old new : ServerState) (now : Moment) (notes : StepNotes) → IsServed old now notes new → Entry
entry_of old new now notes p = record { context = p.context.held.name; number = p.number; plaintext = p.text; request = read_request p.text; moment = now; reply = p.reply }

-- a step that serves a request
pub served_keeps : Laws → (old new : ServerState) (now : Moment) (notes : List Noted) (s : Noted) → IsServed old now s.notes new → ServerPart old.contexts notes → ServerPart new.contexts (s ∷ notes)
served_keeps laws old new now notes s p k =
    let x = p.context in
    let d : Entry = entry_of old new now s.notes p in
    let served : s.notes.served ≡ Some d = ap (λ (r : StepNotes). r.served) p.noted in
    let from : (c : OfToken) → In c new.contexts → Came old.contexts c = came old new now s.notes p in
    let nonce = λ (y : ContextName). server_nonce y.salt in
    record {
      drawn = λ c m. let h = from c m in subst (λ (y : ContextName). IsDrawn (s ∷ notes) (server_nonce y.salt)) (sym h.name) (more_drawn notes s _ (k.drawn h.before h.held));
      lawful = λ c m. let h = from c m in subst IsLawfulName (sym h.name) (k.lawful h.before h.held);
      unused = λ c e m n named. ⊎_elim
          (λ (u : c ≡ confirmed_by p.number x). λ fresh.
          let after : IsFresh (with_accepted x.held.window p.number) e.number = subst (λ (y : OfToken). IsFresh y.held.window e.number) u fresh in
          let t = laws.fresh_after x.held.window p.number e.number after in
          ⊎_elim
          (λ (v : e ≡ d). absurd (t.1 (ap (λ (y : Entry). y.number) v)))
          (λ (v : In e (history notes)). k.unused x e p.is_held v (named ∙ ap (λ (c : OfToken). c.held.name) u) t.0)
          (one_served notes s d e served n))
          (λ (u : In c old.contexts × (c.held.name ≢ x.held.name)). ⊎_elim
          (λ (v : e ≡ d). absurd (u.1 (sym named ∙ ap (λ (y : Entry). y.context) v)))
          (λ (v : In e (history notes)). k.unused c e u.0 v named)
          (one_served notes s d e served n))
          (p.contexts.only c m);
      alike = λ c b m n same.
          let h = from c m in
          let g = from b n in
          h.name ∙ k.alike h.before g.before h.held g.held (sym (ap nonce h.name) ∙ same ∙ ap nonce g.name) ∙ sym g.name;
      alike_served = λ c e m n same.
          let h = from c m in
          ⊎_elim
          (λ (v : e ≡ d). let named : e.context ≡ x.held.name = ap (λ (y : Entry). y.context) v in
          named ∙ k.alike x h.before p.is_held h.held (sym (ap nonce named) ∙ same ∙ ap nonce h.name) ∙ sym h.name)
          (λ (v : In e (history notes)). k.alike_served h.before e h.held v (same ∙ ap nonce h.name) ∙ sym h.name)
          (one_served notes s d e served n);
      served_drawn = λ e n. ⊎_elim
          (λ (v : e ≡ d). subst (λ (y : Entry). IsDrawn (s ∷ notes) (server_nonce y.context.salt)) (sym v) (more_drawn notes s _ (k.drawn x p.is_held)))
          (λ (v : In e (history notes)). more_drawn notes s _ (k.served_drawn e v))
          (one_served notes s d e served n);
    }

pub server_keeps : Laws → (now : Moment) (old new : ServerState) (notes : List Noted) (s : Noted) → ServerStep old now s.notes new → HasFreshDraws (s ∷ notes) → ServerPart old.contexts notes → ServerPart new.contexts (s ∷ notes)
server_keeps laws now old new notes s (ServerIdle p) f k = server_stays old.contexts new.contexts notes s (ap (λ (r : StepNotes). r.served) p.noted) p.contexts.only k
server_keeps laws now old new notes s (Posted p) f k = posted_keeps laws old new now notes s p f k
server_keeps laws now old new notes s (Served p) f k = served_keeps laws old new now notes s p k
server_keeps laws now old new notes s (ServerRestarted p) f k =
    server_stays old.contexts new.contexts notes s (ap (λ (r : StepNotes). r.served) p.noted) (λ c m. absurd (subst (λ (t : ServerState). In c t.contexts) p.is m)) k
