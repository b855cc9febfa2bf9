use Rattle.std.proofs.Common.{◌+◌, length, arith}
use Rattle.osc_context.specs.{algorithm_of}
use Rattle.osc_protect.specs.{plain_bytes, request_value}
use Rattle.osc_protect.proofs.LengthLemmas.{least_protected}
use Rattle.osc_protect.proofs.request.draft_message.Goals as goal

pub returns-in-Err-clause-fits : goal.returns-in-Err-clause-fits
returns-in-Err-clause-fits g c =
    let message = c.args.message.now in
    let name = c.args.name.now in
    let least = least_protected c.length_of_growing.ensures.payload message 2 (request_value name c.args.number) (length (plain_bytes message) + g.A.Ciphers.TAG (algorithm_of name)) in
    (λ no. cc, λ fits. cc (c.in-Err.ensures.fits.1 (omega (arith, least, fits))))
