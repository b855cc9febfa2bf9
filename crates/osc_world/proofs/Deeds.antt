-- What an event leads to, by what it is.
use Rattle.std.proofs.Common.{◌≡◌, ◌∙◌, ◌≤◌, ◌<◌, sym, ap, refl, ℕ, true, false, List, Some, None, arith}
use Rattle.std.specs.Prelude.{slice_get, ◌==◌, nat_le}
use Rattle.std.proofs.lemmas.Bool.{le-leb, ne_eqb}
use Rattle.osc_model.specs.declared.request.Request.{Request}
use Rattle.osc_context.specs.{greatest_number}
use Rattle.osc_run.specs.{Came}
use Rattle.osc_world.specs.Inner.Tasks.{hearer, whose_step}
use Rattle.osc_world.specs.{Ask, NodeStates, Nothing, OfClient, Take, TellLie, deed_by, deed_for, deed_of, delivering}
use Rattle.osc_world.specs.declared.event.Event.{Event}
use Rattle.osc_world.specs.declared.event.What.TheVariants as what
use Rattle.osc_world.specs.declared.log.SentDatagram.{SentDatagram}
use Rattle.osc_world.specs.declared.nodes.Whose.{Whose}

module _ (nodes : NodeStates) (sent : List SentDatagram) (event : Event) where
  pub asked_deed : (client : ℕ) (request : Request) → event.what ≡ what.Ask client request → 0 < request.code.0
      → OfClient client (Ask (record { at = event.moment; draw = event.draw; request = request })) ≡ deed_of nodes sent event
  asked_deed client request is some =
      let code : (request.code.0 == 0) ≡ false = ne_eqb request.code.0 0 (λ none. omega (arith, none, some)) in
      sym (ap (deed_for nodes sent event) is ∙ rw code refl)

  pub lied_deed : (client number : ℕ) (text : List ℕ) → event.what ≡ what.Lie client number text → number ≤ greatest_number
      → OfClient client (TellLie (record { number = number; text = text }) event.draw) ≡ deed_of nodes sent event
  lied_deed client number text is few =
      let lawful : nat_le number greatest_number ≡ true = le-leb number greatest_number few in
      sym (ap (deed_for nodes sent event) is ∙ rw lawful refl)

  pub delivered_deed : (who : Whose) (number : ℕ) (datagram : SentDatagram) → event.what ≡ what.Deliver number → slice_get sent number ≡ Some datagram
      → who ≡ whose_step nodes sent event.what
      → deed_by who (Take (Came (record { at = event.moment; from = datagram.from; draw = event.draw; what = datagram.bytes }))) ≡ deed_of nodes sent event
  delivered_deed who number datagram is here meant =
      let who_is : who ≡ hearer nodes (Some datagram) = meant ∙ ap (whose_step nodes sent) is ∙ ap (hearer nodes) here in
      ap (λ (w : Whose). deed_by w (Take (Came (record { at = event.moment; from = datagram.from; draw = event.draw; what = datagram.bytes })))) who_is
      ∙ sym (ap (deed_for nodes sent event) is ∙ ap (delivering nodes event) here)

  pub undelivered_deed : (number : ℕ) → event.what ≡ what.Deliver number → slice_get sent number ≡ None → Nothing ≡ deed_of nodes sent event
  undelivered_deed number is none = sym (ap (deed_for nodes sent event) is ∙ ap (delivering nodes event) none)
