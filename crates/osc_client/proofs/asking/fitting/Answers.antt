use Rattle.std.proofs.Common.{◌≡◌, ◌≤◌, ap, subst, ◌∙◌}
use Rattle.std.specs.Option.{IfSome, IsSome}
use Rattle.osc_coap.specs.Message.{Message}
use Rattle.osc_options.specs.{request_plaintext, unprotected}
use Rattle.osc_protect.specs.{IsDraft, longest_message, request_length}
use Rattle.osc_client.specs.Inner.Bounds.{size_for}
use Rattle.osc_client.specs.{plain_request, through}
use Rattle.osc_client.proofs.Through.{request_around}
use Rattle.osc_client.proofs.asking.fitting.Goals as goal

pub returns : goal.returns
returns g c =
    let tag = g.A.Ciphers.TAG in
    let request = c.args.request.now in
    let context = c.args.context.now in
    let result = c.drafted.result in
    let whole : unprotected c.outside_with-outside.result (request_plaintext request) ≡ through c.args.origin.now (plain_request c.args.id c.args.token.now request) =
    ap (λ (m : Message). unprotected m (request_plaintext request)) c.outside_with-outside.ensures
    ∙ request_around c.a_written_request.ensures.plaintext c.a_written_request.ensures.alone c.args.origin.now c.args.id c.args.token.now request in
    record {
      drafted = λ some. subst (λ (m : Message). IsDraft tag context.name context.next m c.drafted.new.draft) whole (c.drafted.ensures.drafted some);
      size = subst (λ (m : Message). IfSome result (λ size. size ≡ size_for tag context m)) whole c.drafted.ensures.size;
      fits = subst (λ (m : Message). (IsSome result → request_length tag context.name context.next m ≤ longest_message) × (request_length tag context.name context.next m ≤ longest_message → IsSome result)) whole c.drafted.ensures.fits;
    }
