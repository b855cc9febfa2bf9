use Rattle.std.proofs.Common.{ap, ◌∙◌}
use Rattle.osc_proxy.specs.{key_for}
use Rattle.osc_proxy.specs.Exchanges.{Table}
use Rattle.osc_proxy.specs.State.{State}
use Rattle.osc_proxy.proofs.proxy.Proxy.forward_as.Goals as goal

pub open-requires-clause-key : goal.open-requires-clause-key
open-requires-clause-key c =
    let inside = c.self.inside in
    let what = c.args.came.what in
    let to = c.in_ok-own.own.to in
    ap (λ (t : Table). key_for (record { targets = inside.targets; exchanges = t; endpoint = inside.endpoint }) what to) c.take_room.ensures
    ∙ ap (λ (s : State). key_for s what to) c.self.view_is
    ∙ ap (key_for c.args.self.now what) c.in_ok-own.ensures.own.to_is
    ∙ c.requires.key
