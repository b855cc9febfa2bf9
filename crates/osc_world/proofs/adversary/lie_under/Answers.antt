use Rattle.std.proofs.Common.{◌≡◌, ◌∙◌, ◌<◌, ◌≤◌, ◌+◌, ℕ, true, false, length, refl, ap, ap₂, sym, subst, inl, inr, Some, List, [], ◌∷◌}
use Rattle.std.proofs.lemmas.Bool.{cases_lt}
use Rattle.osc_coap.specs.Message.{Message}
use Rattle.osc_model.specs.declared.context.ContextName.{ContextName}
use Rattle.osc_model.specs.declared.node.Peer.{Peer}
use Rattle.osc_model.specs.{quiet}
use Rattle.osc_model.specs.StepNotes.{StepNotes}
use Rattle.osc_model.specs.declared.step.Datagram.{Datagram}
use Rattle.osc_model.specs.declared.step.Note.{Note}
use Rattle.osc_context.specs.{algorithm_of}
use Rattle.osc_protect.specs.{IsRequestOf, length_of_request, longest_message}
use Rattle.osc_run.specs.{request_note}
use Rattle.osc_message.specs.{datagram}
use Rattle.osc_world.specs.{Lie, lie_length, lies}
use Rattle.osc_world.specs.Adversary.{too_long}
use Rattle.osc_world.proofs.adversary.lie_under.Goals as goal

pub returns-in_ok-message_out-in-Some-clause-lied : goal.returns-in_ok-message_out-in-Some-clause-lied
returns-in_ok-message_out-in-Some-clause-lied g c =
    let name : c.deref.result.now ≡ c.args.context.now.name = c.deref.ensures ∙ c.name-under.ensures in
    let outside : c.message.result ≡ c.args.outside.now = c.message.ensures in
    let sealed : IsRequestOf g.A.Ciphers.is_sealing c.args.text.now c.args.context.now.name c.args.number c.args.outside.now c.in-Some.message =
    subst (λ (n : ContextName). IsRequestOf g.A.Ciphers.is_sealing c.args.text.now n c.args.number c.args.outside.now c.in-Some.message) name
    (subst (λ (m : Message). IsRequestOf g.A.Ciphers.is_sealing c.args.text.now c.deref.result.now c.args.number m c.in-Some.message) outside c.in-Some.ensures.protected) in
    let fits : length_of_request (length c.args.text.now + g.A.Ciphers.TAG (algorithm_of c.args.context.now.name)) c.args.context.now.name c.args.number c.args.outside.now ≤ longest_message =
    subst (λ (n : ContextName). length_of_request (length c.args.text.now + g.A.Ciphers.TAG (algorithm_of n)) n c.args.number c.args.outside.now ≤ longest_message) name
    (subst (λ (m : Message). length_of_request (length c.args.text.now + g.A.Ciphers.TAG (algorithm_of c.deref.result.now)) c.deref.result.now c.args.number m ≤ longest_message) outside
    (c.in-Some.ensures.fits.0 refl)) in
    let note : c.in_ok-note-in-Some.note ≡ request_note c.args.context.now.name c.args.number c.args.text.now =
    subst (λ (n : ContextName). c.in_ok-note-in-Some.note ≡ request_note n c.args.number c.args.text.now) c.name-under.ensures c.in_ok-note-in-Some.ensures in
    let message = c.in-Some.message in
    let notes : c.with_seal.result ≡ record quiet { seals = Some (request_note c.args.context.now.name c.args.number c.args.text.now) } =
    c.with_seal.ensures ∙ ap₂ (λ (q : StepNotes) (n : Note). record q { seals = Some n }) c.quiet.ensures note in
    λ client draw held hop from.
    let lie : Lie = record { number = c.args.number; text = c.args.text.now } in
    let name_of = c.args.context.now.name in
    let out : c.in_ok-message_out-in-Some.field-0 ≡ datagram client.next_hop message ∷ [] =
    c.in_ok-message_out-in-Some.ensures.sent ∙ ap (λ (to : Peer). datagram to message ∷ []) (sym hop) in
    lies c.args.context.now message held
    (subst (λ (m : Message). lie_length g.A.Ciphers.is_sealing g.A.Ciphers.TAG name_of lie m ≤ longest_message) from fits)
    (subst (λ (m : Message). IsRequestOf g.A.Ciphers.is_sealing lie.text name_of lie.number m message) from sealed)
    c.in_ok-message_out-in-Some.ensures.spelled
    (ap₂ (λ (o : List Datagram) (n : StepNotes). record { out = o; notes = n }) out notes)

pub returns-in-None-clause-lied : goal.returns-in-None-clause-lied
returns-in-None-clause-lied g c =
    let name : c.deref.result.now ≡ c.args.context.now.name = c.deref.ensures ∙ c.name-under.ensures in
    let outside : c.message.result ≡ c.args.outside.now = c.message.ensures in
    let size : ℕ = length_of_request (length c.args.text.now + g.A.Ciphers.TAG (algorithm_of c.args.context.now.name)) c.args.context.now.name c.args.number c.args.outside.now in
    let long : longest_message < size =
    elim (cases_lt longest_message size) [
      | inl lt ↦ lt
      | inr le ↦
          let short : length_of_request (length c.args.text.now + g.A.Ciphers.TAG (algorithm_of c.deref.result.now)) c.deref.result.now c.args.number c.message.result ≤ longest_message =
          subst (λ (m : Message). length_of_request (length c.args.text.now + g.A.Ciphers.TAG (algorithm_of c.deref.result.now)) c.deref.result.now c.args.number m ≤ longest_message) (sym outside)
          (subst (λ (n : ContextName). length_of_request (length c.args.text.now + g.A.Ciphers.TAG (algorithm_of n)) n c.args.number c.args.outside.now ≤ longest_message) (sym name) le) in
          let wrong : false ≡ true = c.in-None.ensures.fits.1 short in
          absurd (cc)
    ] in
    λ client draw held hop from.
    let lie : Lie = record { number = c.args.number; text = c.args.text.now } in
    too_long c.args.context.now held
    (subst (λ (m : Message). longest_message < lie_length g.A.Ciphers.is_sealing g.A.Ciphers.TAG c.args.context.now.name lie m) from long) c.refused.ensures
