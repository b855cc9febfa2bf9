use Rattle.std.proofs.Common.{◌≡◌, ◌≤◌, length, sym, ap₂, subst, ◌∙◌}
use Rattle.std.specs.Result.{IfOk, IsOk}
use Rattle.std.proofs.lemmas.Option.{same_Some}
use Rattle.osc_coap.specs.{spelling, bare, datagram_limit}
use Rattle.osc_coap.specs.Message.{Message}
use Rattle.osc_options.specs.{with_request, unprotected}
use Rattle.osc_options.proofs.written_request.request_message.Goals as goal

pub returns : goal.returns
returns c =
    let r = c.args.request.now in
    let read : c.unwrap.result ≡ c.write_request.new.plaintext = same_Some _ _ (sym c.unwrap.ensures ∙ c.parse.ensures.only _ c.bytes.ensures.spelled) in
    let put : unprotected c.message.result c.unwrap.result ≡ with_request (bare c.args.kind r.code.0 c.args.id c.args.token.now) r =
    ap₂ unprotected (c.message.ensures ∙ c.start-outside.ensures) (read ∙ c.in_ok-write_request.ensures.ok)
    ∙ c.a_written_request.ensures.alone c.args.kind r.code.0 c.args.id c.args.token.now r in
    record {
      ok = subst (λ (m : Message). IfOk c.unprotected_message.result (λ message. message ≡ m)) put c.unprotected_message.ensures.ok;
      fits = subst (λ (m : Message). (IsOk c.unprotected_message.result → length (spelling m) ≤ datagram_limit) × (length (spelling m) ≤ datagram_limit → IsOk c.unprotected_message.result)) put
          c.unprotected_message.ensures.fits;
    }
