-- What it hears comes from the peer that the caller names.
use Rattle.std.proofs.Common.{inl, inr, refl, ap, subst}
use Rattle.osc_model.specs.declared.node.Peer.{Peer}
use Rattle.osc_client.specs.{IsStep}
use Rattle.osc_client.specs.State.{State}
use Rattle.osc_run.specs.{Came}
use Rattle.osc_c.specs.Client.{AnswersOrReads}
use Rattle.osc_c.specs.declared.calls.client.ClientNode.{ClientNode}
use Rattle.osc_c.proofs.calls.client.ClientNode.hear.Goals as goal

pub returns-in-Ok : goal.returns-in-Ok
returns-in-Ok g c = inl (
  refl,
  (
    c.in-Ok.step,
    (λ draw.
        subst (λ (from : Peer). IsStep g.A.Ciphers.is_sealing c.args.self.now.client (Came (record { at = c.args.now; from = from; draw = draw; what = c.args.bytes.now })) c.in-Ok.step
        c.on_datagram.new.self) c.peer.ensures.peer (record { makes = c.in-Ok.ensures.heard draw; kind = c.in-Ok.ensures.kind })),
    c.of.ensures,
  ),
)

pub returns-in-Err : goal.returns-in-Err
returns-in-Err g c = inr (
  (
    refl,
    ap (λ (client : State). let node : ClientNode = record { client = client; last = c.args.self.now.last } in node) c.in-Err.ensures.err,
  ),
  subst (λ (from : Peer). AnswersOrReads c.args.self.now c.args.now from c.args.bytes.now) c.peer.ensures.peer c.in-Err.ensures.needs_memory,
)
