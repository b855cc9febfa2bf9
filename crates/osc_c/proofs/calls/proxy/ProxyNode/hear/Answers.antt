-- What it hears comes from the peer that the caller names.
use Rattle.std.proofs.Common.{inl, inr, refl, ap, subst}
use Rattle.osc_model.specs.declared.node.Peer.{Peer}
use Rattle.osc_proxy.specs.{Hears}
use Rattle.osc_c.specs.Plain.{draw_of}
use Rattle.osc_c.specs.Proxy.{HearsInMemory, proxy_of}
use Rattle.osc_c.specs.declared.calls.proxy.Forwarding.{Forwarding}
use Rattle.osc_c.specs.declared.calls.proxy.ProxyNode.{ProxyNode}
use Rattle.osc_c.proofs.calls.proxy.ProxyNode.hear.Goals as goal

pub returns-in-Ok : goal.returns-in-Ok
returns-in-Ok c = inl (
  refl,
  (
    c.in-Ok.step,
    subst (λ (from : Peer). Hears (proxy_of c.args.self.now.forwarding)
        (record { at = c.args.now; from = from; draw = draw_of c.args.draw.now; what = c.args.bytes.now }) c.in-Ok.step (proxy_of c.hear.new.self))
        c.peer.ensures.peer c.in-Ok.ensures.heard,
    c.in-Ok.ensures.runs,
    c.of.ensures,
  ),
)

pub returns-in-Err : goal.returns-in-Err
returns-in-Err c = inr (
  (
    refl,
    ap (λ (forwarding : Forwarding). let node : ProxyNode = record { forwarding = forwarding; last = c.args.self.now.last } in node) c.in-Err.ensures.err,
  ),
  subst (λ (from : Peer). HearsInMemory c.args.self.now.forwarding (record { at = c.args.now; from = from; draw = draw_of c.args.draw.now; what = c.args.bytes.now }))
      c.peer.ensures.peer c.in-Err.ensures.needs_memory,
)
