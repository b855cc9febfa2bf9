use Rattle.std.proofs.Common.{◌≡◌, ◌≤◌, Bool, length, ap, subst, ◌∙◌}
use Rattle.std.specs.Result.{IsOk}
use Rattle.osc_coap.specs.declared.kind.Kind.{Kind}
use Rattle.osc_coap.specs.{datagram_limit, spelling}
use Rattle.osc_coap.specs.Message.{Message}
use Rattle.osc_proxy.specs.{forwarded}
use Rattle.osc_proxy.specs.Inner.Rewriting.{rewritten}
use Rattle.osc_proxy.specs.declared.forwarding.Rewriting.TheVariants.{ForTarget}
use Rattle.osc_proxy.proofs.forwarding.forwarded_message.Goals as goal

pub returns-clause-fits : goal.returns-clause-fits
returns-clause-fits c =
    let message = c.args.message.now in
    let same : rewritten c.kind.result c.args.id c.args.token.now (ForTarget c.has_option-by_uri.result) message ≡ forwarded c.args.id c.args.token.now message =
    ap (λ (by_uri : Bool). rewritten c.kind.result c.args.id c.args.token.now (ForTarget by_uri) message) c.has_option-by_uri.ensures
    ∙ ap (λ (kind : Kind). record (forwarded c.args.id c.args.token.now message) { kind = kind }) c.kind.ensures in
    subst (λ (m : Message). (IsOk c.rewrite.result → length (spelling m) ≤ datagram_limit) × (length (spelling m) ≤ datagram_limit → IsOk c.rewrite.result)) same c.rewrite.ensures.fits
