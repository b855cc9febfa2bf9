use Rattle.std.proofs.Common.{◌+◌, length, arith}
use Rattle.osc_protect.specs.{plain_bytes, response_value}
use Rattle.osc_protect.proofs.LengthLemmas.{least_protected}
use Rattle.osc_protect.proofs.response.draft_response.Goals as goal

pub returns-in_default-clause-fits : goal.returns-in_default-clause-fits
returns-in_default-clause-fits g c =
    let least = least_protected c.length_of_growing.ensures.payload c.args.message.now 68 (response_value c.args.own) (length (plain_bytes c.args.message.now) + g.A.Ciphers.TAG c.args.algorithm) in
    (λ no. cc, λ fits. cc (c.in_default.ensures.fits.1 (omega (arith, least, fits))))
