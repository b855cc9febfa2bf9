-- What holds of each run in which no drawn nonce comes twice.
use Rattle.std.proofs.Common.{◌≡◌, ◌≢◌, ℕ, List, [], ◌∷◌, Some, None, Bool, refl, sym, ap, ◌∙◌, ⊎_elim, subst}
use Rattle.std.specs.Prelude.{slice_get, slice_set}
use Rattle.osc_model.specs.StepNotes.{StepNotes}
use Rattle.osc_model.specs.declared.node.Moment.{Moment}
use Rattle.osc_authz.specs.{OfToken}
use Rattle.osc_run.specs.{Noted, ByClient, by_server, by_client, by_proxy, ServerState, ClientState, WorldState, Minted, ServerStep, ClientStep, ClientIdle, Started, Made, Asked, Answered, Ended, Lied, ClientRestarted, IsSkipped, ProxyStep, Holds, IsNewClient, IsStart, WorldStep, OfServer, OfClient, OfProxy, Skipped, IsRun, HasFreshDraws, HasOwnNonces}
use Rattle.osc_run.proofs.LawsBelow.{Laws}
use Rattle.osc_run.proofs.Lists.{at_set}
use Rattle.osc_run.proofs.Parts.{ServerPart, OneClient, SealPart, Silent, client_stays}
use Rattle.osc_run.proofs.ServerSteps.{server_stays, server_keeps}
use Rattle.osc_run.proofs.ClientSteps.{client_keeps, skipped_keeps, desk_stays, desk_stays_skipped}
use Rattle.osc_run.proofs.Seals.{seals_keep, none_sealed, server_seals, client_seals}

-- what is known of the nodes and the seals
pub record Kept (w : WorldState) : Type 0 where
  pub server : ServerPart w.server.contexts w.notes
  pub holds : (i : ℕ) (c : ClientState) → slice_get w.clients i ≡ Some c → Holds w.minted i c.desk.secret
  pub clients : (i : ℕ) (c : ClientState) → slice_get w.clients i ≡ Some c → OneClient w.notes i c
  pub seals : SealPart w.minted w.notes
  pub nonces : HasOwnNonces w.notes

-- a step of another is silent for this client
silent_other : (s : Noted) (by : ℕ) → (s.actor ≡ ByClient by → ⊥) → Silent s by
silent_other s by h = record { is = λ t b l seal. h b }

-- a client serves nothing
pub client_serves : (lied : Bool) (notes : StepNotes) (old new : ClientState) → ClientStep lied old notes new → notes.served ≡ None
client_serves lied notes old new (ClientIdle p) = ap (λ (r : StepNotes). r.served) p.noted
client_serves lied notes old new (Started honest p) = ap (λ (r : StepNotes). r.served) p.noted
client_serves lied notes old new (Made honest p) = ap (λ (r : StepNotes). r.served) p.noted
client_serves lied notes old new (Asked honest p) = ap (λ (r : StepNotes). r.served) p.noted
client_serves lied notes old new (Answered honest p) = ap (λ (r : StepNotes). r.served) p.noted
client_serves lied notes old new (Ended honest p) = ap (λ (r : StepNotes). r.served) p.noted
client_serves lied notes old new (Lied lies p) = ap (λ (r : StepNotes). r.served) p.noted
client_serves lied notes old new (ClientRestarted honest p) = ap (λ (r : StepNotes). r.served) p.noted

-- ---- each step keeps what is known

kept_of_server : Laws → (v : WorldState) (now : Moment) (server : ServerState) (notes : StepNotes) → ServerStep v.server now notes server → HasFreshDraws (by_server notes ∷ v.notes) → Kept v → Kept (record v { server = server; notes = by_server notes ∷ v.notes })
kept_of_server laws v now server notes p f k =
    let s : Noted = by_server notes in
    let new = server_seals laws v.minted now v.server server v.notes s refl p k.server k.seals in
    record {
      server = server_keeps laws now v.server server v.notes s p f k.server;
      holds = k.holds;
      clients = λ i c e. client_stays v.notes s i c (silent_other s i (λ h. cc)) (k.clients i c e);
      seals = seals_keep v.minted v.notes s new k.seals;
      nonces = (new.own, k.nonces);
    }

holds_of_set : (v : WorldState) (i : ℕ) (old new : ClientState) → slice_get v.clients i ≡ Some old → new.desk ≡ old.desk → Kept v
    → (j : ℕ) (c : ClientState) → slice_get (slice_set v.clients i new) j ≡ Some c → Holds v.minted j c.desk.secret
holds_of_set v i old new at stays k j c e =
    ⊎_elim
    (λ (h : (j ≡ i) × (c ≡ new)).
    let same : old.desk.secret ≡ c.desk.secret = λ t. (sym (ap (λ (d : ClientState). d.desk) h.1 ∙ stays) t).secret in
    subst (λ (x : ℕ × List ℕ). Holds v.minted x.0 x.1) (λ t. (sym h.0 t, same t)) (k.holds i old at))
    (λ (h : (j ≢ i) × (slice_get v.clients j ≡ Some c)). k.holds j c h.1)
    (at_set v.clients i j new c e)

kept_of_client : Laws → (v : WorldState) (i : ℕ) (lied : Bool) (old new : ClientState) (notes : StepNotes) → slice_get v.clients i ≡ Some old → ClientStep lied old notes new → HasFreshDraws (by_client i lied notes ∷ v.notes) → Kept v
    → Kept (record v { clients = slice_set v.clients i new; notes = by_client i lied notes ∷ v.notes })
kept_of_client laws v i lied old new notes at p f k =
    let s : Noted = by_client i lied notes in
    let seal = client_seals laws v.minted v.notes s i old new refl p f.1 (k.holds i old at) (k.clients i old at) k.seals in
    let here = client_keeps laws v.minted v.notes s i old new refl p f k.seals (k.clients i old at) in
    record {
      server = server_stays v.server.contexts v.server.contexts v.notes s (client_serves lied notes old new p) (λ c m. m) k.server;
      holds = holds_of_set v i old new at (desk_stays lied notes old new p) k;
      clients = λ j c e. ⊎_elim
          (λ (h : (j ≡ i) × (c ≡ new)). subst (λ (x : ℕ × ClientState). OneClient (s ∷ v.notes) x.0 x.1) (λ t. (sym h.0 t, sym h.1 t)) here)
          (λ (h : (j ≢ i) × (slice_get v.clients j ≡ Some c)). client_stays v.notes s j c (silent_other s j (λ e'. h.0 (cc))) (k.clients j c h.1))
          (at_set v.clients i j new c e);
      seals = seals_keep v.minted v.notes s seal k.seals;
      nonces = (seal.own, k.nonces);
    }

kept_of_proxy : (v : WorldState) (i : ℕ) (notes : StepNotes) → ProxyStep notes → Kept v → Kept (record v { notes = by_proxy i notes ∷ v.notes })
kept_of_proxy v i notes p k =
    let s : Noted = by_proxy i notes in
    let new = none_sealed v.minted v.notes s (ap (λ (r : StepNotes). r.seals) p.noted) in
    record {
      server = server_stays v.server.contexts v.server.contexts v.notes s (ap (λ (r : StepNotes). r.served) p.noted) (λ c m. m) k.server;
      holds = k.holds;
      clients = λ j c e. client_stays v.notes s j c (silent_other s j (λ h. cc)) (k.clients j c e);
      seals = seals_keep v.minted v.notes s new k.seals;
      nonces = (new.own, k.nonces);
    }

kept_of_skipped : (v : WorldState) (i : ℕ) (old new : ClientState) → slice_get v.clients i ≡ Some old → IsSkipped old new → Kept v → Kept (record v { clients = slice_set v.clients i new })
kept_of_skipped v i old new at p k = record {
  server = k.server;
  holds = holds_of_set v i old new at (desk_stays_skipped old new p) k;
  clients = λ j c e. ⊎_elim
      (λ (h : (j ≡ i) × (c ≡ new)). subst (λ (x : ℕ × ClientState). OneClient v.notes x.0 x.1) (λ t. (sym h.0 t, sym h.1 t)) (skipped_keeps v.notes i old new p (k.clients i old at)))
      (λ (h : (j ≢ i) × (slice_get v.clients j ≡ Some c)). k.clients j c h.1)
      (at_set v.clients i j new c e);
  seals = k.seals;
  nonces = k.nonces;
}

kept_step : Laws → (v w : WorldState) → WorldStep v w → HasFreshDraws w.notes → (HasFreshDraws v.notes → Kept v) → Kept w
kept_step laws v w (OfServer now server notes p is) f k =
    let f' = subst (λ (u : WorldState). HasFreshDraws u.notes) is f in
    subst Kept (sym is) (kept_of_server laws v now server notes p f' (k f'.1))
kept_step laws v w (OfClient i lied old new notes at p is) f k =
    let f' = subst (λ (u : WorldState). HasFreshDraws u.notes) is f in
    subst Kept (sym is) (kept_of_client laws v i lied old new notes at p f' (k f'.1))
kept_step laws v w (OfProxy i notes p is) f k =
    let f' = subst (λ (u : WorldState). HasFreshDraws u.notes) is f in
    subst Kept (sym is) (kept_of_proxy v i notes p (k f'.1))
kept_step laws v w (Skipped i old new at p is) f k =
    let f' = subst (λ (u : WorldState). HasFreshDraws u.notes) is f in
    subst Kept (sym is) (kept_of_skipped v i old new at p (k f'))

-- ---- the start

-- of nothing, nothing is known
new_client : (minted : List Minted) (notes : List Noted) (i : ℕ) (c : ClientState) → IsNewClient minted i c → OneClient notes i c
new_client minted notes i c p = record {
  exchange = λ b x. absurd (cc (p.outstanding, x));
  context = λ x y. absurd (cc (p.context, y));
  ask = λ q x. absurd (cc (p.outstanding, x));
}

kept_start : (w : WorldState) → IsStart w → Kept w
kept_start w p =
    let start : (notes : List Noted) (contexts : List OfToken) → notes ≡ [] → contexts ≡ [] → (part : ServerPart contexts notes) × SealPart w.minted notes × HasOwnNonces notes =
    λ notes contexts e h. subst (λ (x : List Noted × List OfToken). (part : ServerPart x.1 x.0) × SealPart w.minted x.0 × HasOwnNonces x.0) (λ i. (sym e i, sym h i)) empty in
    let all = start w.notes w.server.contexts p.notes p.contexts in
    record {
      server = all.0;
      holds = λ i c e. (p.clients i c e).holds;
      clients = λ i c e. new_client w.minted w.notes i c (p.clients i c e);
      seals = all.1;
      nonces = all.2;
    }
  where
    empty : (part : ServerPart [] []) × SealPart w.minted [] × HasOwnNonces []
    empty = (
      record {
        drawn = λ c m. absurd m;
        lawful = λ c m. absurd m;
        unused = λ c e m n. absurd m;
        alike = λ c d m n. absurd m;
        alike_served = λ c e m n. absurd m;
        served_drawn = λ e n. absurd n;
      },
      record { client = λ by lied t a. absurd a.noted; server = λ s t m. absurd m; proxy = λ s t by m. absurd m },
      tt,
    )

pub kept_run : Laws → (w : WorldState) (earlier : List WorldState) → IsRun (w ∷ earlier) → HasFreshDraws w.notes → Kept w
kept_run laws w [] p f = kept_start w p
kept_run laws w (v ∷ earlier) p f = kept_step laws v w p.0 f (kept_run laws v earlier p.1)
