-- The outcome, at the path for this id.
use Rattle.std.proofs.Common.{◌≡◌, ◌∙◌, Bool, [], None, Some, IsSome, ap, inl, inr, refl, rules, subst, sym}
use Rattle.osc_c.specs.{IsRefusal, are_revoked, asked_for, is_so, settled}
use Rattle.osc_c.specs.declared.calls.round.Told.{Told}
use Rattle.osc_c.proofs.Changing.{reached_changes}
use Rattle.osc_c.proofs.Refused.{asked_kept, kept}
use Rattle.osc_c.proofs.Settled.{done_is_so, refusal_is_told}
use Rattle.osc_device.specs.{method_of, own_request}
use Rattle.osc_c.proofs.calls.device.DeviceNode.rule_at.Goals as goal

pub returns-in-Ok-Some-clause-rules : goal.returns-in-Ok-Some-clause-rules
returns-in-Ok-Some-clause-rules g c =
    let old = c.args.self.now in
    let new = c.rule.new.self in
    let round = c.in-Ok-Some.ruled.round in
    let ruled : c.in-Ok-Some.field-0 ≡ Some c.in-Ok-Some.ruled = search rules in
    let a = (rw ruled at c.in-Ok-Some.ensures).0 in
    let is : c.is_so.result ≡ is_so c.args.ruling (are_revoked (record { device = new; last = c.keep-told.new.last }) c.args.id.now) =
    c.is_so.ensures ∙ ap (λ (revoked : Bool). is_so c.args.ruling revoked) a.3 in
    let told = c.settled.ensures ∙ ap (λ (so : Bool). settled so c.keep-told.result) is in
    inl (
      c.args.now,
      refl,
      inl (
        round,
        (a.0, a.1, (a.2.asks, a.2.answered, a.2.run, a.2.entry, reached_changes c.one_path_changes.ensures g.A.Ciphers.is_sealing _ new.server _ round.served a.2.asks.carries.reaches)),
        told ∙ ap (λ (t : Told). settled (is_so c.args.ruling (are_revoked (record { device = new; last = c.keep-told.new.last }) c.args.id.now)) t) c.keep-told.ensures.told,
        c.keep-told.ensures.kept,
        (λ refusal. kept old new c.keep-told.new.last round c.keep-told.result c.keep-told.ensures.told c.keep-told.ensures.kept
            (λ number told. asked_kept g.A.Ciphers.is_sealing g.A.Ciphers.TAG old.device
            (asked_for c.args.draws.now c.args.now (own_request (method_of c.args.ruling) a.0 None [])) round new number told a.2.asks)
            (refusal_is_told c.is_so.result c.keep-told.result (subst (λ (t : Told). IsRefusal t.outcome) c.settled.ensures refusal))),
      ),
    )

pub returns-in-Ok-Some-clause-so : goal.returns-in-Ok-Some-clause-so
returns-in-Ok-Some-clause-so g c = λ done.
    let ruled : c.in-Ok-Some.field-0 ≡ Some c.in-Ok-Some.ruled = search rules in
    let a = (rw ruled at c.in-Ok-Some.ensures).0 in
    let is : c.is_so.result ≡ is_so c.args.ruling (are_revoked (record { device = c.rule.new.self; last = c.keep-told.new.last }) c.args.id.now) =
    c.is_so.ensures ∙ ap (λ (revoked : Bool). is_so c.args.ruling revoked) a.3 in
    sym is ∙ done_is_so c.is_so.result c.keep-told.result (ap (λ (t : Told). t.outcome) (sym c.settled.ensures) ∙ done)

pub returns-in-Err-clause-rules : goal.returns-in-Err-clause-rules
returns-in-Err-clause-rules g c =
    let takes : IsSome c.args.self.now.device.server.desk.rules.revoked = search rules in
    inl (c.args.now, refl, inr (search rules, search rules, takes))
