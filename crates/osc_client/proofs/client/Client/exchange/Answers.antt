use Rattle.std.proofs.Common.{rules, ◌≡◌, false, List, [], ◌∷◌, Some, ap, ap₂, subst, sym, ◌∙◌}
use Rattle.osc_model.specs.{quiet}
use Rattle.osc_model.specs.StepNotes.{StepNotes}
use Rattle.osc_model.specs.declared.step.Datagram.{Datagram}
use Rattle.osc_coap.specs.Message.{Message}
use Rattle.osc_options.specs.{has_oscore}
use Rattle.osc_message.specs.{datagram}
use Rattle.osc_client.specs.{Exchanges, SealsNothing, core}
use Rattle.osc_client.proofs.Fitting.{refusal_fits}
use Rattle.osc_client.proofs.Telling.{begins_silently, refused_silently}
use Rattle.osc_client.proofs.Through.{post_unprotected}
use Rattle.osc_client.proofs.StepKinds.{refusals}
use Rattle.osc_client.proofs.client.Client.exchange.Goals as goal

pub returns-then-is_some-clause-kind : goal.returns-then-is_some-clause-kind
returns-then-is_some-clause-kind c = rw c.refused.ensures (refusals false (core c.args.self.now) 17)

pub returns-in_default-clause-kind : goal.returns-in_default-clause-kind
returns-in_default-clause-kind c = rw c.refused-in_default.ensures (refusals false (core c.args.self.now) 14)

pub returns-then-is_some-clause-begun : goal.returns-then-is_some-clause-begun
returns-then-is_some-clause-begun c =
    let table : Exchanges c.args.self.now c.args.now c.args.draw.now c.refused.result c.args.self.now = search rules in
    record {
      exchanges = table;
      told = refused_silently c.args.self.now c.args.now c.refused.result 17 c.refused.ensures;
      fits = refusal_fits c.refused.result 17 c.refused.ensures;
    }

pub returns-in_default-clause-begun : goal.returns-in_default-clause-begun
returns-in_default-clause-begun c =
    let table : Exchanges c.args.self.now c.args.now c.args.draw.now c.refused-in_default.result c.args.self.now = search rules in
    record {
      exchanges = table;
      told = refused_silently c.args.self.now c.args.now c.refused-in_default.result 14 c.refused-in_default.ensures;
      fits = refusal_fits c.refused-in_default.result 14 c.refused-in_default.ensures;
    }

pub returns-clause-begun : goal.returns-clause-begun
returns-clause-begun c =
    let plain : has_oscore c.in-Ok.post.options ≡ false = ap (λ (m : Message). has_oscore m.options) c.in-Ok.ensures.ok ∙ post_unprotected c.self.inside.origin _ _ _ in
    let nonce = c.nonce1-nonce.result.now in
    let out : c.open-out.result ≡ datagram c.args.self.now.next_hop c.in-Ok.post ∷ [] = c.open-out.ensures.sent in
    let notes : c.with_drawn.result ≡ record quiet { drawn = Some nonce } = c.with_drawn.ensures ∙ ap (λ (q : StepNotes). record q { drawn = Some nonce }) c.quiet.ensures in
    let told : record { out = c.open-out.result; notes = c.with_drawn.result } ≡ record {
      out = datagram c.args.self.now.next_hop c.in-Ok.post ∷ [];
      notes = record quiet { drawn = Some nonce };
    } = ap₂ (λ (o : List Datagram) (n : StepNotes). record { out = o; notes = n }) out notes in
    let table : Exchanges c.args.self.now c.args.now c.args.draw.now (record { out = c.open-out.result; notes = c.with_drawn.result }) c.open-out.new.self = search rules in
    record {
      exchanges = table;
      told = subst (SealsNothing c.args.self.now c.args.now) (sym told)
          (begins_silently c.args.self.now c.args.now c.args.self.now.next_hop c.in-Ok.post nonce plain);
      fits = c.open-out.ensures.fits;
    }
