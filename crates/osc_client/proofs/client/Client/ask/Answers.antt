use Rattle.std.proofs.Common.{rules, ◌≡◌, false, Some, refl, ap, ap₂, sym, ◌∙◌, ◌+◌, [], ◌∷◌, List, subst}
use Rattle.osc_message.specs.{datagram}
use Rattle.osc_client.specs.declared.waiting.OpenAsk.{OpenAsk}
use Rattle.osc_client.specs.declared.waiting.Awaited.TheVariants.{Ask}
use Rattle.osc_authz.specs.{ClientContextState}
use Rattle.std.proofs.lemmas.Option.{same_Some}
use Rattle.osc_client.specs.{core, IsHindered, hindered, asks, opened, plain_of}
use Rattle.osc_client.specs.State.{State}
use Rattle.osc_model.specs.{quiet}
use Rattle.osc_model.specs.StepNotes.{StepNotes}
use Rattle.osc_model.specs.declared.step.Datagram.{Datagram}
use Rattle.osc_model.specs.declared.step.Note.{Note}
use Rattle.osc_protect.specs.{IsDraft, IsProtectedRequest, plain_bytes}
use Rattle.osc_run.specs.{request_note}
use Rattle.osc_client.proofs.Fitting.{refusal_fits}
use Rattle.osc_client.proofs.StepKinds.{asked, refusals}
use Rattle.osc_client.proofs.Telling.{ask_told}
use Rattle.osc_client.proofs.client.Client.ask.Goals as goal

pub returns-in-Err-clause-asked : goal.returns-in-Err-clause-asked
returns-in-Err-clause-asked g c =
    let why : IsHindered g.A.Ciphers.is_sealing g.A.Ciphers.TAG c.args.self.now c.args.request.now c.args.draw.now c.in-Err.number = rw c.in-Err.is at c.in_ok-room.ensures.hindered in
    let refuses = hindered c.in-Err.number why (record { told = c.refused.ensures; kept = refl }) in
    record {
      asks = refuses;
      told = ask_told g.A.Ciphers.is_sealing c.args.self.now c.args.now g.A.Ciphers.TAG c.args.request.now c.args.draw.now c.refused.result c.args.self.now refuses;
      fits = refusal_fits c.refused.result c.in-Err.number c.refused.ensures;
    }

pub returns-in-Err-clause-kind : goal.returns-in-Err-clause-kind
returns-in-Err-clause-kind g c = rw c.refused.ensures (refusals false (core c.args.self.now) c.in-Err.number)

pub returns-clause-asked : goal.returns-clause-asked
returns-clause-asked g c =
    let free = rw c.in-Ok.is at c.in_ok-room.ensures.free in
    let held : c.self.inside.context ≡ Some c.unwrap-context.result.now = search rules in
    let same : free.0 ≡ c.unwrap-context.result.now = same_Some free.0 c.unwrap-context.result.now (sym free.1.held ∙ ap (λ s. s.context) (sym c.self.view_is) ∙ held) in
    let asked = plain_of c.args.self.now c.args.draw.now c.args.request.now in
    let message = c.sealed-note.new.draft.message in
    let drafted : IsDraft g.A.Ciphers.TAG c.unwrap-context.result.now.name c.unwrap-context.result.now.next asked c.prepared.new.draft =
    subst (λ (x : ClientContextState). IsDraft g.A.Ciphers.TAG x.name x.next asked c.prepared.new.draft) same free.2 in
    let protected : IsProtectedRequest g.A.Ciphers.is_sealing free.0.name free.0.next asked message =
    subst (λ (x : ClientContextState). IsProtectedRequest g.A.Ciphers.is_sealing x.name x.next asked message) (sym same) (c.sealed-note.ensures.protected asked drafted) in
    let note : c.sealed-note.result.note ≡ request_note free.0.name free.0.next (plain_bytes asked) =
    c.sealed-note.ensures.note asked drafted ∙ ap (λ (x : ClientContextState). request_note x.name x.next (plain_bytes asked)) (sym same) in
    let out : c.open-out.result ≡ datagram c.args.self.now.next_hop message ∷ [] =
    c.open-out.ensures.sent ∙ ap (λ s. datagram s.next_hop message ∷ []) c.self.view_is in
    let notes : c.with_seal.result ≡ record quiet { seals = Some (request_note free.0.name free.0.next (plain_bytes asked)) } =
    c.with_seal.ensures ∙ ap₂ (λ (q : StepNotes) (n : Note). record q { seals = Some n }) c.quiet.ensures note in
    let told : record { out = c.open-out.result; notes = c.with_seal.result } ≡ record {
      out = datagram c.args.self.now.next_hop message ∷ [];
      notes = record quiet { seals = Some (request_note free.0.name free.0.next (plain_bytes asked)) };
    } = ap₂ (λ (o : List Datagram) (n : StepNotes). record { out = o; notes = n }) out notes in
    let taken : c.sealed-note.new.context ≡ record free.0 { next = free.0.next + 1 } =
    c.sealed-note.ensures.next ∙ ap (λ (x : ClientContextState). record x { next = x.next + 1 }) (sym same) in
    let ask : c.sealed-note.result.ask ≡ record { number = free.0.next } =
    c.sealed-note.ensures.ask ∙ ap (λ (x : ClientContextState). record { number = x.next }) (sym same) in
    let kept : c.open-out.new.self ≡ opened (record c.args.self.now { context = Some (record free.0 { next = free.0.next + 1 }) }) c.args.now c.args.draw.now message
    (Ask (record { number = free.0.next })) =
    c.open-out.ensures.opened
    ∙ ap (λ (s : State). opened (record s { context = Some c.sealed-note.new.context }) c.args.now c.args.draw.now message (Ask c.sealed-note.result.ask)) c.self.view_is
    ∙ ap₂ (λ (k : ClientContextState) (a : OpenAsk). opened (record c.args.self.now { context = Some k }) c.args.now c.args.draw.now message (Ask a)) taken ask in
    let asked_so = asks free.0 message free.1 protected c.open-out.ensures.spelled told kept in
    record {
      asks = asked_so;
      told = ask_told g.A.Ciphers.is_sealing c.args.self.now c.args.now g.A.Ciphers.TAG c.args.request.now c.args.draw.now
          (record { out = c.open-out.result; notes = c.with_seal.result }) c.open-out.new.self asked_so;
      fits = c.open-out.ensures.fits;
    }

pub returns-clause-kind : goal.returns-clause-kind
returns-clause-kind g c =
    let free = rw c.in-Ok.is at c.in_ok-room.ensures.free in
    let held : c.self.inside.context ≡ Some c.unwrap-context.result.now = search rules in
    let same : free.0 ≡ c.unwrap-context.result.now = same_Some free.0 c.unwrap-context.result.now (sym free.1.held ∙ ap (λ s. s.context) (sym c.self.view_is) ∙ held) in
    let plain = plain_of c.args.self.now c.args.draw.now c.args.request.now in
    let drafted : IsDraft g.A.Ciphers.TAG c.unwrap-context.result.now.name c.unwrap-context.result.now.next plain c.prepared.new.draft =
    subst (λ (x : ClientContextState). IsDraft g.A.Ciphers.TAG x.name x.next plain c.prepared.new.draft) same free.2 in
    let note : c.sealed-note.result.note ≡ request_note free.0.name free.0.next (plain_bytes plain) =
    c.sealed-note.ensures.note plain drafted ∙ ap (λ (x : ClientContextState). request_note x.name x.next (plain_bytes plain)) (sym same) in
    let notes : c.with_seal.result ≡ record quiet { seals = Some (request_note free.0.name free.0.next (plain_bytes plain)) } =
    c.with_seal.ensures ∙ ap₂ (λ (q : StepNotes) (n : Note). record q { seals = Some n }) c.quiet.ensures note in
    let taken : c.sealed-note.new.context ≡ record free.0 { next = free.0.next + 1 } =
    c.sealed-note.ensures.next ∙ ap (λ (x : ClientContextState). record x { next = x.next + 1 }) (sym same) in
    let ask : c.sealed-note.result.ask ≡ record { number = free.0.next } =
    c.sealed-note.ensures.ask ∙ ap (λ (x : ClientContextState). record { number = x.next }) (sym same) in
    let kept : c.open-out.new.self ≡ opened (record c.args.self.now { context = Some (record free.0 { next = free.0.next + 1 }) }) c.args.now c.args.draw.now c.sealed-note.new.draft.message
    (Ask (record { number = free.0.next })) =
    c.open-out.ensures.opened
    ∙ ap (λ (s : State). opened (record s { context = Some c.sealed-note.new.context }) c.args.now c.args.draw.now c.sealed-note.new.draft.message (Ask c.sealed-note.result.ask)) c.self.view_is
    ∙ ap₂ (λ (k : ClientContextState) (a : OpenAsk). opened (record c.args.self.now { context = Some k }) c.args.now c.args.draw.now c.sealed-note.new.draft.message (Ask a)) taken ask in
    asked c.args.self.now free.0 (plain_bytes plain) c.with_seal.result c.open-out.new.self c.args.now c.args.draw.now c.sealed-note.new.draft.message (free.1.idle, free.1.held, free.1.lawful) notes kept
