-- What a slice of one datagram, and what a node answered, give.
use Rattle.std.proofs.Common.{◌≡◌, ◌∙◌, ap, sym, subst, ℕ, ◌≤◌, ◌<◌, Bool, true, false, List, [], ◌∷◌, length, slice_index_or, Option, Some, None, Result, Ok, Err, arith}
use Rattle.std.specs.Prelude.{IfOk, OnErr}
use Rattle.std.specs.Result.{result_ok}
use Rattle.std.specs.declared.alloc.AllocError.{AllocError}
use Rattle.osc_model.specs.{read_as}
use Rattle.osc_model.specs.Arrival.{Arrival}
use Rattle.osc_model.specs.StepNotes.{StepNotes}
use Rattle.osc_model.specs.declared.node.Draw.{Draw}
use Rattle.osc_model.specs.declared.node.Moment.{Moment}
use Rattle.osc_model.specs.declared.step.Datagram.{Datagram}
use Rattle.osc_model.specs.declared.step.Step.{Step}
use Rattle.osc_ccm.specs.{Sealings, Tags}
use Rattle.osc_authz.specs.declared.granted.ClientDesk.{ClientDesk}
use Rattle.osc_protect.specs.{longest_message}
use Rattle.osc_run.specs.{ClientStep, ClientState, ServerStep}
use Rattle.osc_client.specs.{Hears as ClientHears, Ticks, Asked, Asks, Exchanges, OfEachPost, PostFits, TicksBy, is_over, core as client_core, HostAndPort}
use Rattle.osc_client.specs.State.{State as Client}
use Rattle.osc_server.specs.{Hears as ServerHears, core as server_core}
use Rattle.osc_server.specs.State.{State as Server}
use Rattle.osc_device.specs.{ClientTakesMemory, ComesBack, Reaches, ServerTakesMemory, at_device, server_address}
use Rattle.osc_world.proofs.Way.{hears_same}

-- a list of one
pub one_only : (seen out : List Datagram) (one : Datagram) → seen ≡ out → 1 ≤ length seen → length seen < 2 → one ≡ slice_index_or seen 0 one → out ≡ one ∷ []
one_only [] out one e least most is = absurd (omega arith)
one_only (x ∷ []) out one e least most is = sym e ∙ ap (λ (d : Datagram). d ∷ []) (sym is)
one_only (x ∷ y ∷ xs) out one e least most is = absurd (omega arith)

one_datagram : (out : List Datagram) (one other : Datagram) → out ≡ one ∷ [] → out ≡ other ∷ [] → one ≡ other
one_datagram out one other a b = cc

one_step : (o : Option Step) (a b : Step) → o ≡ Some a → o ≡ Some b → a ≡ b
one_step o a b e f = cc

-- ---- the device sends straight to its server, and its post fits a datagram

abbrev IsStraight : Client → Type 0
IsStraight client = (client.origin ≡ None) × (client.next_hop ≡ server_address) × PostFits client

ticked_by : (over : Bool) (old : Client) (now : Moment) (step : Step) (new : Client) → TicksBy over old now step new → IsStraight old → IsStraight new
ticked_by false old now step new it straight = subst IsStraight (sym it.2) straight
ticked_by true old now step new it straight = subst IsStraight (sym it.2) straight

pub ticked_straight : (old : Client) (now : Moment) (step : Step) (new : Client) → Ticks old now step new → IsStraight old → IsStraight new
ticked_straight old now step new it straight = ticked_by (is_over now old.endpoint old.waiting) old now step new it.ticks straight

pub begun_straight : (old : Client) (now : Moment) (draw : Draw) (step : Step) (new : Client) → Exchanges old now draw step new → IsStraight old → IsStraight new
begun_straight old now draw step new (Exchanges.busy waits refused) straight = subst IsStraight (sym refused.kept) straight
begun_straight old now draw step new (Exchanges.too_long idle long refused) straight = subst IsStraight (sym refused.kept) straight
begun_straight old now draw step new (Exchanges.begins idle fits spells told kept) straight = subst IsStraight (sym kept) straight

module _ (is_sealing : Sealings) (tag : Tags) where
  pub asked_straight : (old : Client) (asked : Asked) (step : Step) (new : Client)
      → Asks is_sealing tag old asked step new → IsStraight old → IsStraight new
  asked_straight old asked step new (Asks.hindered number hinders refused) straight = subst IsStraight (sym refused.kept) straight
  asked_straight old asked step new (Asks.asks context protected free is spells told kept) straight = subst IsStraight (sym kept) straight

-- what was granted stays
pub desk_kept : (notes : StepNotes) (old new : ClientState) → ClientStep false old notes new → new.desk ≡ old.desk
desk_kept notes old new (ClientStep.ClientIdle it) = ap (λ (c : ClientState). c.desk) it.is
desk_kept notes old new (ClientStep.Started honest it) = ap (λ (c : ClientState). c.desk) it.is
desk_kept notes old new (ClientStep.Made honest it) = ap (λ (c : ClientState). c.desk) it.is
desk_kept notes old new (ClientStep.Asked honest it) = ap (λ (c : ClientState). c.desk) it.is
desk_kept notes old new (ClientStep.Answered honest it) = ap (λ (c : ClientState). c.desk) it.is
desk_kept notes old new (ClientStep.Ended honest it) = ap (λ (c : ClientState). c.desk) it.is
desk_kept notes old new (ClientStep.Lied lied it) = ap (λ (c : ClientState). c.desk) it.is
desk_kept notes old new (ClientStep.ClientRestarted honest it) = ap (λ (c : ClientState). c.desk) it.is

-- so the post of its token is as long
still_fits : (old new : Client) → new.desk ≡ old.desk → new.origin ≡ old.origin → PostFits old → PostFits new
still_fits old new desk origin fits =
    subst (λ (d : ClientDesk). OfEachPost (λ size. size ≤ longest_message) d new.origin) (sym desk)
    (subst (λ (o : Option HostAndPort). OfEachPost (λ size. size ≤ longest_message) old.desk o) (sym origin) fits)

-- ---- the ways

module _ (is_sealing : Sealings) where
  pub reaches : (inside old new : Server) (sent : Arrival (List Datagram)) (one : Datagram) (bytes : List ℕ) (result : Result Step AllocError) (step : Option Step)
      → inside ≡ old → sent.what ≡ one ∷ [] → bytes ≡ one.bytes
      → IfOk result (λ s. ServerHears is_sealing inside (read_as sent bytes) s new) → IfOk result (λ s. ServerStep (server_core inside) sent.at s.notes (server_core new))
      → OnErr result (new ≡ inside) → OnErr result (ServerTakesMemory inside (read_as sent bytes)) → step ≡ result_ok result
      → Reaches is_sealing old sent step new
  reaches inside old new sent one bytes (Ok s) step e only b heard kind kept memory is =
      subst (λ (o : Server). Reaches is_sealing o sent step new) e
      (Reaches.heard one s only is
      (record { makes = subst (λ (bs : List ℕ). ServerHears is_sealing inside (read_as sent bs) s new) b heard; kind = kind }))
  reaches inside old new sent one bytes (Err error) step e only b heard kind kept memory is =
      subst (λ (o : Server). Reaches is_sealing o sent step new) e
      (Reaches.lost (λ other its. subst (λ (bs : List ℕ). ServerTakesMemory inside (read_as sent bs))
      (b ∙ ap (λ (d : Datagram). d.bytes) (one_datagram sent.what one other only its)) memory) (is, kept))

  -- these bytes come to the device, whatever is drawn
  abbrev pub HearsWhatever : Client → Moment → List ℕ → Step → Client → Type 0
  HearsWhatever old now bytes step new = (draw : Draw) → ClientHears is_sealing old (at_device now draw bytes) step new

  pub comes_back : (inside old new : Client) (now : Moment) (served : Option Step) (answer : Step) (one : Datagram) (bytes : List ℕ) (result : Result Step AllocError) (step : Option Step)
      → inside ≡ old → served ≡ Some answer → answer.out ≡ one ∷ [] → bytes ≡ one.bytes
      → IfOk result (λ s. HearsWhatever inside now bytes s new) → IfOk result (λ s. ClientStep false (client_core inside) s.notes (client_core new))
      → OnErr result (new ≡ inside) → OnErr result (ClientTakesMemory inside now bytes) → step ≡ result_ok result
      → ComesBack is_sealing old now served step new
  comes_back inside old new now served answer one bytes (Ok s) step e some only b heard kind kept memory is =
      subst (λ (o : Client). ComesBack is_sealing o now served step new) e
      (ComesBack.heard answer one s some only is
      (λ draw. record { makes = subst (λ (bs : List ℕ). ClientHears is_sealing inside (at_device now draw bs) s new) b (heard draw); kind = kind }))
  comes_back inside old new now served answer one bytes (Err error) step e some only b heard kind kept memory is =
      subst (λ (o : Client). ComesBack is_sealing o now served step new) e
      (ComesBack.lost (λ its other there sent.
      let same : answer ≡ its = one_step served answer its some there in
      subst (λ (bs : List ℕ). ClientTakesMemory inside now bs)
      (b ∙ ap (λ (d : Datagram). d.bytes) (one_datagram answer.out one other only (ap (λ (s : Step). s.out) same ∙ sent))) memory) (is, kept))

  -- and what it hears changes neither
  pub still_straight : (old new : Client) (now : Moment) (bytes : List ℕ) (result : Result Step AllocError)
      → IfOk result (λ s. HearsWhatever old now bytes s new) → IfOk result (λ s. ClientStep false (client_core old) s.notes (client_core new))
      → OnErr result (new ≡ old) → IsStraight old → IsStraight new
  still_straight old new now bytes (Ok s) heard kind kept straight =
      let nothing : Draw = record { 0 = [] } in
      let same = hears_same is_sealing old (at_device now nothing bytes) s new (heard nothing) in
      (same.1 ∙ straight.0, same.0 ∙ straight.1, still_fits old new (desk_kept s.notes (client_core old) (client_core new) kind) same.1 straight.2)
  still_straight old new now bytes (Err error) heard kind kept straight = subst IsStraight (sym kept) straight
