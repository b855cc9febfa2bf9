use Rattle.std.proofs.Common.{◌∙◌, ◌++◌, None, ap}
use Rattle.osc_coap.specs.{payload_of, payload_spelling, plaintext_spelling}
use Rattle.osc_options.specs.{path_options}
use Rattle.osc_simulation.proofs.Segments.{text_whole}
use Rattle.osc_simulation.proofs.lying.text_of.Goals as goal

pub returns : goal.returns
returns c =
    let request = c.args.request.now in
    let head = c.in_ok-text.ensures.items ∙ c.bytes.ensures.spelled.whole ∙ ap plaintext_spelling c.head_of-head.ensures in
    c.from_vec.ensures ∙ c.in_ok-push_payload.ensures
    ∙ ap (λ bytes. bytes ++ payload_spelling (payload_of c.as_slice.result.now)) head
    ∙ ap (λ payload. plaintext_spelling (record { code = request.code.0; options = path_options request.path; payload = None }) ++ payload_spelling (payload_of payload)) c.as_slice.ensures
    ∙ text_whole request.code.0 (path_options request.path) request.payload
