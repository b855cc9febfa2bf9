-- Each step keeps what is known of the seals.
use Rattle.std.proofs.Common.{◌≡◌, ◌≤◌, ℕ, List, [], ◌∷◌, Some, None, false, refl, sym, ap, ◌∙◌, ⊎_elim, subst, arith}
use Rattle.osc_model.specs.StepNotes.{StepNotes}
use Rattle.osc_model.specs.declared.node.Moment.{Moment}
use Rattle.osc_model.specs.declared.reply.Reply.{Reply}
use Rattle.osc_model.specs.declared.step.Note.{Note}
use Rattle.osc_context.specs.{KeyName, server_nonce, greatest_number}
use Rattle.osc_window.specs.{IsFresh}
use Rattle.osc_protect.specs.{request_nonce}
use Rattle.osc_authz.specs.{ClientContextState, OfToken, In}
use Rattle.osc_run.specs.{Noted, Actor, ByServer, ByClient, ByProxy, ServerState, ClientState, Minted, reply_note, IsServed, ServerStep, ServerIdle, Posted, Served, ServerRestarted, request_note, ClientStep, ClientIdle, Started, Made, Asked, Answered, Ended, Lied, ClientRestarted, Holds, HasFreshDraws, IsSealed, HasKeyAndNonceOf}
use Rattle.osc_run.proofs.LawsBelow.{Laws}
use Rattle.osc_run.proofs.Parts.{IsJoinedOf, one_nonce, IsLawfulName, IsDrawnBy, IsSealedBy, OneContext, OneClient, ClientSeal, ServerSeal, SealPart, ServerPart, more_drawn_by}
use Rattle.osc_run.proofs.ReplyCodes.{reply_code}
use Rattle.osc_run.proofs.ServerSteps.{still_served, still_first, entry_of}

more_client_seal : (minted : List Minted) (notes : List Noted) (s : Noted) (by : ℕ) (t : Note) → ClientSeal minted notes by t → ClientSeal minted (s ∷ notes) by t
more_client_seal minted notes s by t k =
    record { shape = k.shape; number = k.number; holds = k.holds; lawful = k.lawful; nonce = k.nonce; joined = k.joined; drawn = more_drawn_by notes s by k.nonce k.drawn }

more_server_seal : (notes : List Noted) (s : Noted) (t : Note) → ServerSeal notes t → ServerSeal (s ∷ notes) t
more_server_seal notes s t k =
    record { entry = k.entry; served = still_served notes s k.entry k.served; is = k.is; number = k.number; lawful = k.lawful; least = k.least; most = k.most; within = k.within }

-- What a new step has to show of its seal.
pub record NewSeal (minted : List Minted) (notes : List Noted) (s : Noted) : Type 0 where
  pub client : (by : ℕ) (t : Note) → s.actor ≡ ByClient by → s.notes.seals ≡ Some t → ClientSeal minted notes by t
  pub server : (t : Note) → s.actor ≡ ByServer → s.notes.seals ≡ Some t → ServerSeal (s ∷ notes) t
  pub proxy : (t : Note) (by : ℕ) → s.actor ≡ ByProxy by → s.notes.seals ≡ Some t → ⊥
  pub own : (m n : Note) → s.lied ≡ false → s.notes.seals ≡ Some m → IsSealed notes n → HasKeyAndNonceOf m n → ⊥

pub seals_keep : (minted : List Minted) (notes : List Noted) (s : Noted) → NewSeal minted notes s → SealPart minted notes → SealPart minted (s ∷ notes)
seals_keep minted notes s new k = record {
  client = λ by lied t a. ⊎_elim
      (λ (m : a.step ≡ s). more_client_seal minted notes s by t (new.client by t (ap (λ (r : Noted). r.actor) (sym m) ∙ a.actor) (ap (λ (r : Noted). r.notes.seals) (sym m) ∙ a.seal)))
      (λ (m : In a.step notes). more_client_seal minted notes s by t (k.client by lied t (record { step = a.step; noted = m; actor = a.actor; lied = a.lied; seal = a.seal })))
      a.noted;
  server = λ r t m actor sealed. ⊎_elim
      (λ (e : r ≡ s). new.server t (ap (λ (r : Noted). r.actor) (sym e) ∙ actor) (ap (λ (r : Noted). r.notes.seals) (sym e) ∙ sealed))
      (λ (e : In r notes). more_server_seal notes s t (k.server r t e actor sealed))
      m;
  proxy = λ r t by m actor sealed. ⊎_elim
      (λ (e : r ≡ s). new.proxy t by (ap (λ (r : Noted). r.actor) (sym e) ∙ actor) (ap (λ (r : Noted). r.notes.seals) (sym e) ∙ sealed))
      (λ (e : In r notes). k.proxy r t by e actor sealed)
      m;
}

pub none_sealed : (minted : List Minted) (notes : List Noted) (s : Noted) → s.notes.seals ≡ None → NewSeal minted notes s
none_sealed minted notes s h = record {
  client = λ by t a e. absurd (cc);
  server = λ t a e. absurd (cc);
  proxy = λ t by a e. cc;
  own = λ m n l e x y. cc;
}

-- ---- who sealed honestly

-- the server its reply to an entry, or a client
pub data Sealer (minted : List Minted) (notes : List Noted) (n : Note) : Type 0 where
  ServerDid : ServerSeal notes n → Sealer minted notes n
  ClientDid : (by : ℕ) → IsSealedBy notes by false n → ClientSeal minted notes by n → Sealer minted notes n

sealer_by : (minted : List Minted) (notes : List Noted) (n : Note) (s : Noted) (a : Actor) → s.actor ≡ a → In s notes → s.lied ≡ false → s.notes.seals ≡ Some n → SealPart minted notes → Sealer minted notes n
sealer_by minted notes n s ByServer e m l h k = ServerDid (k.server s n m e h)
sealer_by minted notes n s (ByClient by) e m l h k =
    let a : IsSealedBy notes by false n = record { step = s; noted = m; actor = e; lied = l; seal = h } in ClientDid by a (k.client by false n a)
sealer_by minted notes n s (ByProxy by) e m l h k = absurd (k.proxy s n by m e h)

sealer : (minted : List Minted) (notes : List Noted) (n : Note) → SealPart minted notes → IsSealed notes n → Sealer minted notes n
sealer minted notes n k h = sealer_by minted notes n h.0 h.0.actor refl h.1 h.2 h.3 k

-- ---- two seals under one key

-- notes that are these
alike : (a b c d : Note) → a ≡ c → b ≡ d → HasKeyAndNonceOf a b → HasKeyAndNonceOf c d
alike a b c d e h k = subst (λ (x : Note × Note). HasKeyAndNonceOf x.0 x.1) (λ i. (e i, h i)) k

-- where both go by a request's nonce, they are of one client's ID and one number
one_request : Laws → (a b : Note) (m n : ℕ) → IsLawfulName a.context → IsLawfulName b.context → m ≤ greatest_number → n ≤ greatest_number
    → a.nonce ≡ request_nonce a.context m → b.nonce ≡ request_nonce b.context n → HasKeyAndNonceOf a b → (a.context.client_id ≡ b.context.client_id) × (m ≡ n)
one_request laws a b m n short other few less is are same =
    laws.nonces_of_a_key a.context b.context a.context.client_id b.context.client_id m n
    (ap (λ (k : KeyName). k.secret) same.key) (ap (λ (k : KeyName). k.salt) same.key) (ap (λ (k : KeyName). k.id_context) same.key) (ap (λ (k : KeyName). k.alg) same.key)
    short.short other.short few less (sym is ∙ same.nonce ∙ are)

-- ---- the server's seals

-- the server's reply to a fresh number has a nonce that no seal under its key had
own_reply : Laws → (minted : List Minted) (notes : List Noted) (contexts : List OfToken) (x : OfToken) (number : ℕ) (reply : Reply) (m n : Note) → ServerPart contexts notes → In x contexts → IsFresh x.held.window number → number ≤ greatest_number
    → m ≡ reply_note x.held.name number reply → HasKeyAndNonceOf m n → Sealer minted notes n → ⊥
own_reply laws minted notes contexts x number reply m n k held fresh few is same (ServerDid b) =
    let e = b.entry in
    let mine : Note = reply_note x.held.name number reply in
    let its : Note = reply_note e.context e.number e.reply in
    let both = alike m n mine its is b.is same in
    let parts = one_request laws mine its number e.number (k.lawful x held) b.lawful few b.number refl refl both in
    let named : e.context ≡ x.held.name = k.alike_served x e held b.served (ap (λ (key : KeyName). server_nonce key.salt) (sym both.key)) in
    k.unused x e held b.served named (subst (IsFresh x.held.window) parts.1 fresh)
own_reply laws minted notes contexts x number reply m n k held fresh few is same (ClientDid by a b) =
    let mine : Note = reply_note x.held.name number reply in
    let its : Note = request_note n.context n.number n.plaintext in
    let both = alike m n mine its is b.shape same in
    let parts = one_request laws mine its number n.number (k.lawful x held) b.lawful few b.number refl refl both in
    (k.lawful x held).apart (parts.0 ∙ sym (ap (λ (key : KeyName). key.id) both.key))

pub served_seals : Laws → (minted : List Minted) (old new : ServerState) (now : Moment) (notes : List Noted) (s : Noted) → s.actor ≡ ByServer → IsServed old now s.notes new → ServerPart old.contexts notes → SealPart minted notes → NewSeal minted notes s
served_seals laws minted old new now notes s its p k seals =
    let x = p.context in
    let sealed : s.notes.seals ≡ Some (reply_note x.held.name p.number p.reply) = ap (λ (r : StepNotes). r.seals) p.noted in
    let code = reply_code laws old.rules.revoked old.tree x.held.scope p.text p.reply new.tree p.tree in
    record {
      client = λ by t a e. absurd (cc (its, a));
      server = λ t a e. record {
        entry = entry_of old new now s.notes p;
        served = still_first notes s (entry_of old new now s.notes p) (ap (λ (r : StepNotes). r.served) p.noted);
        is = cc (e, sealed);
        number = p.lawful;
        lawful = k.lawful x p.is_held;
        least = code.0;
        most = code.1;
        within = p.within;
      };
      proxy = λ t by a e. cc (its, a);
      own = λ m n l e h same. own_reply laws minted notes old.contexts x p.number p.reply m n k p.is_held p.fresh p.lawful (cc (e, sealed)) same (sealer minted notes n seals h);
    }

pub server_seals : Laws → (minted : List Minted) (now : Moment) (old new : ServerState) (notes : List Noted) (s : Noted) → s.actor ≡ ByServer → ServerStep old now s.notes new → ServerPart old.contexts notes → SealPart minted notes → NewSeal minted notes s
server_seals laws minted now old new notes s its (ServerIdle p) k seals = none_sealed minted notes s (ap (λ (r : StepNotes). r.seals) p.noted)
server_seals laws minted now old new notes s its (Posted p) k seals = none_sealed minted notes s (ap (λ (r : StepNotes). r.seals) p.noted)
server_seals laws minted now old new notes s its (Served p) k seals = served_seals laws minted old new now notes s its p k seals
server_seals laws minted now old new notes s its (ServerRestarted p) k seals = none_sealed minted notes s (ap (λ (r : StepNotes). r.seals) p.noted)

-- ---- a client's seals

one_actor : (i j : ℕ) → ByClient i ≡ ByClient j → i ≡ j
one_actor i j e = cc

-- no nonce is drawn by two clients
one_drawer : (notes : List Noted) (n : List ℕ) (by other : ℕ) → HasFreshDraws notes → IsDrawnBy notes by n → IsDrawnBy notes other n → by ≡ other
one_drawer [] n by other f d e = absurd d.1
one_drawer (s ∷ notes) n by other f d e =
    ⊎_elim
    (λ (h : d.0 ≡ s). ⊎_elim
    (λ (g : e.0 ≡ s). one_actor by other (sym d.3 ∙ ap (λ (r : Noted). r.actor) (h ∙ sym g) ∙ e.3))
    (λ (g : In e.0 notes). absurd (f.0 n (ap (λ (r : Noted). r.notes.drawn) (sym h) ∙ d.2) (e.0, g, e.2)))
    e.1)
    (λ (h : In d.0 notes). ⊎_elim
    (λ (g : e.0 ≡ s). absurd (f.0 n (ap (λ (r : Noted). r.notes.drawn) (sym g) ∙ e.2) (d.0, h, d.2)))
    (λ (g : In e.0 notes). one_drawer notes n by other f.1 (d.0, h, d.2, d.3) (e.0, g, e.2, e.3))
    e.1)
    d.1

-- a client's seal at its next number has a nonce that no seal under its key had
own_request : Laws → (minted : List Minted) (its_secret : List ℕ) (notes : List Noted) (by : ℕ) (x : ClientContextState) (plaintext : List ℕ) (m n : Note) → HasFreshDraws notes → OneContext its_secret notes by x → x.next ≤ greatest_number
    → m ≡ request_note x.name x.next plaintext → HasKeyAndNonceOf m n → Sealer minted notes n → ⊥
own_request laws minted its_secret notes by x plaintext m n f k few is same (ServerDid b) =
    let e = b.entry in
    let mine : Note = request_note x.name x.next plaintext in
    let its : Note = reply_note e.context e.number e.reply in
    let both = alike m n mine its is b.is same in
    let parts = one_request laws mine its x.next e.number k.lawful b.lawful few b.number refl refl both in
    b.lawful.apart (sym parts.0 ∙ ap (λ (key : KeyName). key.id) both.key)
own_request laws minted its_secret notes by x plaintext m n f k few is same (ClientDid other a b) =
    let mine : Note = request_note x.name x.next plaintext in
    let its : Note = request_note n.context n.number n.plaintext in
    let both = alike m n mine its is b.shape same in
    let parts = one_request laws mine its x.next n.number k.lawful b.lawful few b.number refl refl both in
    let joined : IsJoinedOf n.context.salt k.nonce = subst (λ (key : KeyName). IsJoinedOf key.salt k.nonce) both.key k.joined in
    let nonce : b.nonce ≡ k.nonce = one_nonce laws n.context.salt b.nonce k.nonce b.joined joined in
    let one : other ≡ by = one_drawer notes k.nonce other by f (subst (IsDrawnBy notes other) nonce b.drawn) k.drawn in
    let below = k.below n (subst (λ (i : ℕ). IsSealedBy notes i false n) one a) joined in
    omega (arith, below.1, parts.1)

-- a seal in the context that a client has
seal_of : (minted : List Minted) (notes : List Noted) (by : ℕ) (its_secret : List ℕ) (x : ClientContextState) (number : ℕ) (plaintext : List ℕ)
    → Holds minted by its_secret → OneContext its_secret notes by x → number ≤ greatest_number → ClientSeal minted notes by (request_note x.name number plaintext)
seal_of minted notes by its_secret x number plaintext g y few = record {
  shape = refl;
  number = few;
  holds = subst (Holds minted by) (sym y.secret) g;
  lawful = y.lawful;
  nonce = y.nonce;
  joined = y.joined;
  drawn = y.drawn;
}

pub client_seals : Laws → (minted : List Minted) (notes : List Noted) (s : Noted) (by : ℕ) (old new : ClientState) → s.actor ≡ ByClient by → ClientStep s.lied old s.notes new → HasFreshDraws notes → Holds minted by old.desk.secret → OneClient notes by old → SealPart minted notes → NewSeal minted notes s
client_seals laws minted notes s by old new its (ClientIdle p) f g k seals = none_sealed minted notes s (ap (λ (r : StepNotes). r.seals) p.noted)
client_seals laws minted notes s by old new its (Started honest p) f g k seals = none_sealed minted notes s (ap (λ (r : StepNotes). r.seals) p.noted)
client_seals laws minted notes s by old new its (Made honest p) f g k seals = none_sealed minted notes s (ap (λ (r : StepNotes). r.seals) p.noted)
client_seals laws minted notes s by old new its (Answered honest p) f g k seals = none_sealed minted notes s (ap (λ (r : StepNotes). r.seals) p.noted)
client_seals laws minted notes s by old new its (Ended honest p) f g k seals = none_sealed minted notes s (ap (λ (r : StepNotes). r.seals) p.noted)
client_seals laws minted notes s by old new its (ClientRestarted honest p) f g k seals = none_sealed minted notes s (ap (λ (r : StepNotes). r.seals) p.noted)
client_seals laws minted notes s by old new its (Asked honest p) f g k seals =
    let x = p.context in
    let t : Note = request_note x.name x.next p.plaintext in
    let sealed : s.notes.seals ≡ Some t = ap (λ (r : StepNotes). r.seals) p.noted in
    let y = k.context x p.held in
    let seal : ClientSeal minted notes by t = seal_of minted notes by old.desk.secret x x.next p.plaintext g y p.lawful in
    record {
      client = λ i u a e. let one : by ≡ i = one_actor by i (sym its ∙ a) in let is : t ≡ u = cc (sealed, e) in
          subst (λ (j : ℕ). ClientSeal minted notes j u) one (subst (ClientSeal minted notes by) is seal);
      server = λ u a e. absurd (cc (its, a));
      proxy = λ u i a e. cc (its, a);
      own = λ m n l e h same. own_request laws minted old.desk.secret notes by x p.plaintext m n f y p.lawful (cc (sealed, e)) same (sealer minted notes n seals h);
    }
client_seals laws minted notes s by old new its (Lied lies p) f g k seals =
    let x = p.context in
    let t : Note = request_note x.name p.number p.plaintext in
    let sealed : s.notes.seals ≡ Some t = ap (λ (r : StepNotes). r.seals) p.noted in
    let y = k.context x p.held in
    let seal : ClientSeal minted notes by t = seal_of minted notes by old.desk.secret x p.number p.plaintext g y p.lawful in
    record {
      client = λ i u a e. let one : by ≡ i = one_actor by i (sym its ∙ a) in let is : t ≡ u = cc (sealed, e) in
          subst (λ (j : ℕ). ClientSeal minted notes j u) one (subst (ClientSeal minted notes by) is seal);
      server = λ u a e. absurd (cc (its, a));
      proxy = λ u i a e. cc (its, a);
      own = λ m n l e h same. cc (lies, l);
    }
