use Rattle.std.proofs.Common.{◌≡◌, IfOk, Some, None, length, refl, subst, rules}
use Rattle.std.proofs.lemmas.Option.{slice_get_past, slice_get_read}
use Rattle.std.specs.Prelude.{slice_get}
use Rattle.osc_run.specs.{Came}
use Rattle.osc_world.specs.{Deed, OfClient, Take, TellLie, deed_by, Takes}
use Rattle.osc_world.proofs.Deeds.{asked_deed, delivered_deed, lied_deed, undelivered_deed}
use Rattle.osc_world.proofs.nodes.Nodes.take.Goals as goal

pub returns-in-Ask-clause-takes : goal.returns-in-Ask-clause-takes
returns-in-Ask-clause-takes g c =
    let it = c.client_takes-in-Ask in
    subst (λ (deed : Deed). IfOk it.result (λ taken. Takes g.A.Ciphers.is_sealing g.A.Ciphers.TAG c.args.self.now deed taken it.new.self))
    (asked_deed c.args.self.now c.args.sent.now c.args.event.now c.in-Ask.client c.in-Ask.request c.in-Ask.is (search rules))
    it.ensures.takes

pub returns-in-Lie-clause-takes : goal.returns-in-Lie-clause-takes
returns-in-Lie-clause-takes g c =
    let it = c.client_takes-in-Lie in
    let event = c.args.event.now in
    let old = c.args.self.now in
    subst (λ (deed : Deed). IfOk it.result (λ taken. Takes g.A.Ciphers.is_sealing g.A.Ciphers.TAG old deed taken it.new.self))
    (lied_deed old c.args.sent.now event c.in-Lie.client c.in-Lie.number c.in-Lie.text c.in-Lie.is c.if-number-le-NUMBER_LIMIT.true)
    (subst (λ text. IfOk it.result (λ taken. Takes g.A.Ciphers.is_sealing g.A.Ciphers.TAG old
    (OfClient c.in-Lie.client (TellLie (record { number = c.in-Lie.number; text = text }) event.draw)) taken it.new.self)) c.as_slice.ensures it.ensures.takes)

pub returns-in-Some-clause-takes : goal.returns-in-Some-clause-takes
returns-in-Some-clause-takes g c =
    let it = c.one_takes-in-Some in
    let event = c.args.event.now in
    let old = c.args.self.now in
    let one = c.in-Some.sent.now in
    let look = c.in-Some.ensures.lookup in
    let here : slice_get c.args.sent.now c.in-Deliver.datagram ≡ Some one = slice_get_read c.args.sent.now (length c.args.sent.now) c.in-Deliver.datagram one refl look.3.0 look.1 in
    subst (λ (deed : Deed). IfOk it.result (λ taken. Takes g.A.Ciphers.is_sealing g.A.Ciphers.TAG old deed taken it.new.self))
    (delivered_deed old c.args.sent.now event c.args.whose c.in-Deliver.datagram one c.in-Deliver.is here c.requires)
    (subst (λ bytes. IfOk it.result (λ taken. Takes g.A.Ciphers.is_sealing g.A.Ciphers.TAG old
    (deed_by c.args.whose (Take (Came (record { at = event.moment; from = one.from; draw = event.draw; what = bytes })))) taken it.new.self)) c.as_slice-in-Some.ensures it.ensures.takes)

pub returns-in-None-clause-takes : goal.returns-in-None-clause-takes
returns-in-None-clause-takes g c =
    let none : slice_get c.args.sent.now c.in-Deliver.datagram ≡ None = slice_get_past c.args.sent.now c.in-Deliver.datagram c.in-None.ensures.lookup.3 in
    subst (λ (deed : Deed). Takes g.A.Ciphers.is_sealing g.A.Ciphers.TAG c.args.self.now deed None c.args.self.now)
    (undelivered_deed c.args.self.now c.args.sent.now c.args.event.now c.in-Deliver.datagram c.in-Deliver.is none)
    (record { taken_is = refl; is = refl })
