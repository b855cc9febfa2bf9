-- Each kind of step keeps what is known of a client.
use Rattle.std.proofs.Common.{◌≡◌, ◌⊎◌, ◌+◌, ◌≤◌, ℕ, List, ◌∷◌, length, Some, None, Bool, false, refl, sym, ap, ◌∙◌, inl, inr, ⊎_elim, subst, arith}
use Rattle.osc_model.specs.StepNotes.{StepNotes}
use Rattle.osc_model.specs.declared.step.Note.{Note}
use Rattle.osc_authz.specs.{ClientContextState, made_name, In}
use Rattle.osc_authz.specs.Begun.{Begun}
use Rattle.osc_run.specs.{Noted, ByClient, ClientState, OpenAsk, Outstanding, Nothing, Exchange, Ask, Minted, request_note, IsStarted, IsMade, IsAsked, ClientStep, ClientIdle, Started, Made, Asked, Answered, Ended, Lied, ClientRestarted, IsRaised, IsSkipped, IsDrawn, HasFreshDraws}
use Rattle.osc_run.proofs.LawsBelow.{Laws}
use Rattle.osc_run.proofs.Parts.{IsJoinedOf, one_nonce, IsAskedBy, IsDrawnBy, IsSealedBy, OneExchange, OneContext, OneClient, SealPart, Silent, client_stays, more_drawn_by, fewer_sealed}

pub no_seal : (s : Noted) (by : ℕ) → s.notes.seals ≡ None → Silent s by
no_seal s by h = record { is = λ t a l e. cc }

-- ---- a client that waits for nothing any more

not_exchange : (o : Outstanding) (b : Begun) → o ≡ Nothing → o ≡ Exchange b → ⊥
not_exchange o b h e = cc

not_ask : (o : Outstanding) (q : OpenAsk) → o ≡ Nothing → o ≡ Ask q → ⊥
not_ask o q h e = cc

ended_keeps : (notes : List Noted) (by : ℕ) (c : ClientState) → OneClient notes by c → OneClient notes by (record c { outstanding = Nothing })
ended_keeps notes by c k = record {
  exchange = λ b e. absurd (not_exchange Nothing b refl e);
  context = k.context;
  ask = λ q e. absurd (not_ask Nothing q refl e);
}

-- ---- kinds

-- a nonce that was never drawn before is in no seal and no context
started_keeps : Laws → (minted : List Minted) (notes : List Noted) (s : Noted) (by : ℕ) (old new : ClientState) → s.actor ≡ ByClient by → IsStarted old s.notes new → HasFreshDraws (s ∷ notes) → SealPart minted notes → OneClient notes by old → OneClient (s ∷ notes) by new
started_keeps laws minted notes s by old new its p f seals k0 =
    let q = no_seal s by (ap (λ (r : StepNotes). r.seals) p.noted) in
    let k = client_stays notes s by old q k0 in
    let drawn : List ℕ = p.begun.nonce1 in
    let draws : s.notes.drawn ≡ Some drawn = ap (λ (r : StepNotes). r.drawn) p.noted in
    let never : (salt n : List ℕ) → IsJoinedOf salt drawn → IsJoinedOf salt n → IsDrawnBy notes by n → ⊥ =
    λ salt n i j d. f.0 drawn draws (subst (IsDrawn notes) (one_nonce laws salt n drawn j i) (d.0, d.1, d.2)) in
    let here : OneExchange (s ∷ notes) by (record old { outstanding = Exchange p.begun }) drawn = record {
      drawn = (s, inl refl, draws, its);
      size = omega (arith, p.size);
      unsealed = λ t a i. let c = seals.client by false t (fewer_sealed notes s by t q a) in never t.context.salt c.nonce i c.joined c.drawn;
      other = λ x e i. let c = k0.context x e in never x.name.salt c.nonce i c.joined c.drawn;
    } in
    subst (OneClient (s ∷ notes) by) (sym p.is) (record {
      exchange = λ b e. let same : p.begun ≡ b = cc in subst (λ (y : Begun). OneExchange (s ∷ notes) by (record old { outstanding = Exchange p.begun }) y.nonce1) same here;
      context = k.context;
      ask = λ o e. absurd (cc);
    })

made_keeps : (notes : List Noted) (s : Noted) (by : ℕ) (old new : ClientState) → IsMade old s.notes new → OneClient notes by old → OneClient (s ∷ notes) by new
made_keeps notes s by old new p k0 =
    let q = no_seal s by (ap (λ (r : StepNotes). r.seals) p.noted) in
    let k = client_stays notes s by old q k0 in
    let x = k.exchange p.begun p.before in
    let short : length old.desk.salt ≤ 64 = old.desk.salt_size in
    let here : OneContext old.desk.secret (s ∷ notes) by (record { name = made_name old.desk p.begun p.nonce2 p.server_id; next = 0 }) = record {
      nonce = p.begun.nonce1;
      joined = record { front = old.desk.salt; nonce2 = p.nonce2; is = refl; front_size = omega (arith, short); size = x.size; nonce2_size = omega (arith, p.size.1) };
      drawn = x.drawn;
      secret = refl;
      lawful = record { short = p.short; apart = p.apart };
      below = λ t a i. absurd (x.unsealed t a i);
    } in
    subst (OneClient (s ∷ notes) by) (sym p.is) (record {
      exchange = λ b e. absurd (not_exchange Nothing b refl e);
      context = λ y e. subst (OneContext old.desk.secret (s ∷ notes) by) (cc) here;
      ask = λ o e. absurd (not_ask Nothing o refl e);
    })

-- the honest seals after a step of the client that sealed t
sealed_or : (notes : List Noted) (s : Noted) (by : ℕ) (t u : Note) → s.notes.seals ≡ Some t → IsSealedBy (s ∷ notes) by false u → (u ≡ t) ⊎ IsSealedBy notes by false u
sealed_or notes s by t u h a =
    ⊎_elim
    (λ (m : a.step ≡ s). let e : Some u ≡ Some t = sym a.seal ∙ ap (λ (r : Noted). r.notes.seals) m ∙ h in inl (cc))
    (λ (m : In a.step notes). inr (record { step = a.step; noted = m; actor = a.actor; lied = a.lied; seal = a.seal }))
    a.noted

asked_keeps : (notes : List Noted) (s : Noted) (by : ℕ) (old new : ClientState) → s.actor ≡ ByClient by → s.lied ≡ false → IsAsked old s.notes new → OneClient notes by old → OneClient (s ∷ notes) by new
asked_keeps notes s by old new its honest p k0 =
    let x = p.context in
    let t : Note = request_note x.name x.next p.plaintext in
    let sealed : s.notes.seals ≡ Some t = ap (λ (r : StepNotes). r.seals) p.noted in
    let k = k0.context x p.held in
    let asked : OpenAsk = record { context = x.name; number = x.next } in
    let here : OneContext old.desk.secret (s ∷ notes) by (record { name = x.name; next = x.next + 1 }) = record {
      nonce = k.nonce;
      joined = k.joined;
      drawn = more_drawn_by notes s by k.nonce k.drawn;
      secret = k.secret;
      lawful = k.lawful;
      below = λ u a i. ⊎_elim
          (λ (h : u ≡ t). let n : u.number ≡ x.next = ap (λ (v : Note). v.number) h in (ap (λ (v : Note). v.context) h, omega arith))
          (λ (h : IsSealedBy notes by false u). let b = k.below u h i in (b.0, omega (arith, b.1)))
          (sealed_or notes s by t u sealed a);
    } in
    let now : IsSealedBy (s ∷ notes) by false t = record { step = s; noted = inl refl; actor = its; lied = honest; seal = sealed } in
    subst (OneClient (s ∷ notes) by) (sym p.is) (record {
      exchange = λ b e. absurd (cc);
      context = λ y e. subst (OneContext old.desk.secret (s ∷ notes) by) (cc) here;
      ask = λ o e. let same : asked ≡ o = cc in subst (IsAskedBy (s ∷ notes) by) same (record { plaintext = p.plaintext; sealed = now });
    })

restarted_keeps : (notes : List Noted) (by : ℕ) (c : ClientState) → OneClient notes by c → OneClient notes by (record c { context = None; outstanding = Nothing })
restarted_keeps notes by c k = record {
  exchange = λ b e. absurd (not_exchange Nothing b refl e);
  context = λ y e. absurd (cc);
  ask = λ q e. absurd (not_ask Nothing q refl e);
}

pub client_keeps : Laws → (minted : List Minted) (notes : List Noted) (s : Noted) (by : ℕ) (old new : ClientState) → s.actor ≡ ByClient by → ClientStep s.lied old s.notes new → HasFreshDraws (s ∷ notes) → SealPart minted notes → OneClient notes by old → OneClient (s ∷ notes) by new
client_keeps laws minted notes s by old new its (ClientIdle p) f seals k =
    subst (OneClient (s ∷ notes) by) (sym p.is) (client_stays notes s by old (no_seal s by (ap (λ (r : StepNotes). r.seals) p.noted)) k)
client_keeps laws minted notes s by old new its (Started honest p) f seals k = started_keeps laws minted notes s by old new its p f seals k
client_keeps laws minted notes s by old new its (Made honest p) f seals k = made_keeps notes s by old new p k
client_keeps laws minted notes s by old new its (Asked honest p) f seals k = asked_keeps notes s by old new its honest p k
client_keeps laws minted notes s by old new its (Answered honest p) f seals k =
    subst (OneClient (s ∷ notes) by) (sym p.is) (ended_keeps (s ∷ notes) by old (client_stays notes s by old (no_seal s by (ap (λ (r : StepNotes). r.seals) p.noted)) k))
client_keeps laws minted notes s by old new its (Ended honest p) f seals k =
    subst (OneClient (s ∷ notes) by) (sym p.is) (ended_keeps (s ∷ notes) by old (client_stays notes s by old (no_seal s by (ap (λ (r : StepNotes). r.seals) p.noted)) k))
client_keeps laws minted notes s by old new its (Lied lies p) f seals k =
    subst (OneClient (s ∷ notes) by) (sym p.is) (client_stays notes s by old (record { is = λ t a l e. cc (lies, l) }) k)
client_keeps laws minted notes s by old new its (ClientRestarted honest p) f seals k =
    subst (OneClient (s ∷ notes) by) (sym p.is) (restarted_keeps (s ∷ notes) by old (client_stays notes s by old (no_seal s by (ap (λ (r : StepNotes). r.seals) p.noted)) k))

-- ---- between events

-- a raised number leaves what is known
raised_keeps : (notes : List Noted) (by : ℕ) (old new : ClientState) → IsRaised old new → OneClient notes by old → OneClient notes by new
raised_keeps notes by old new p k =
    let x = k.context p.context p.held in
    let here : OneContext old.desk.secret notes by (record { name = p.context.name; next = p.next }) = record {
      nonce = x.nonce;
      joined = x.joined;
      drawn = x.drawn;
      secret = x.secret;
      lawful = x.lawful;
      below = λ t a i. let b = x.below t a i in (b.0, omega (arith, b.1, p.above));
    } in
    subst (OneClient notes by) (sym p.is) (record {
      exchange = λ b e. let y = k.exchange b e in record {
        drawn = y.drawn;
        size = y.size;
        unsealed = y.unsealed;
        other = λ z h i. let same : record { name = p.context.name; next = p.next } ≡ z = cc in
            y.other p.context p.held (subst (λ (w : ClientContextState). IsJoinedOf w.name.salt b.nonce1) (sym same) i);
      };
      context = λ y e. let same : record { name = p.context.name; next = p.next } ≡ y = cc in subst (OneContext old.desk.secret notes by) same here;
      ask = k.ask;
    })

pub skipped_keeps : (notes : List Noted) (by : ℕ) (old new : ClientState) → IsSkipped old new → OneClient notes by old → OneClient notes by new
skipped_keeps notes by old new p k =
    ⊎_elim
    (λ (h : new ≡ old). subst (OneClient notes by) (sym h) k)
    (λ (h : IsRaised old new). raised_keeps notes by old new h k)
    p

-- ---- what was granted stays

pub desk_stays : (lied : Bool) (notes : StepNotes) (old new : ClientState) → ClientStep lied old notes new → new.desk ≡ old.desk
desk_stays lied notes old new (ClientIdle p) = ap (λ (c : ClientState). c.desk) p.is
desk_stays lied notes old new (Started honest p) = ap (λ (c : ClientState). c.desk) p.is
desk_stays lied notes old new (Made honest p) = ap (λ (c : ClientState). c.desk) p.is
desk_stays lied notes old new (Asked honest p) = ap (λ (c : ClientState). c.desk) p.is
desk_stays lied notes old new (Answered honest p) = ap (λ (c : ClientState). c.desk) p.is
desk_stays lied notes old new (Ended honest p) = ap (λ (c : ClientState). c.desk) p.is
desk_stays lied notes old new (Lied lies p) = ap (λ (c : ClientState). c.desk) p.is
desk_stays lied notes old new (ClientRestarted honest p) = ap (λ (c : ClientState). c.desk) p.is

pub desk_stays_skipped : (old new : ClientState) → IsSkipped old new → new.desk ≡ old.desk
desk_stays_skipped old new p =
    ⊎_elim (λ (h : new ≡ old). ap (λ (c : ClientState). c.desk) h) (λ (h : IsRaised old new). ap (λ (c : ClientState). c.desk) h.is) p
