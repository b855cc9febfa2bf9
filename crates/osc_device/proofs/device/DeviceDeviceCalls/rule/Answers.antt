use Rattle.std.proofs.Common.{subst, sym, [], None, IsSome}
use Rattle.osc_device.specs.{HandsOut, HasRuled, asked_at, method_of, own_request}
use Rattle.osc_device.specs.State.{State}
use Rattle.osc_device.proofs.device.DeviceDeviceCalls.rule.Goals as goal

pub returns : goal.returns
returns g c =
    let rules : (old new : State) → Type 0 = λ old new.
    HandsOut (HasRuled g.A.Ciphers.is_sealing g.A.Ciphers.TAG old c.args.id.now (λ path. asked_at c.args.now c.args.draws (own_request (method_of c.args.ruling) path None [])))
    (IsSome old.server.desk.rules.revoked) old c.rule_once-found.result new in
    subst (λ (new : State). rules c.args.self.now new) (sym c.take_in_hand.ensures)
    (subst (λ (old : State). rules old c.rule_once-found.new.self) c.give_back.ensures c.rule_once-found.ensures)
