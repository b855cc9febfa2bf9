use Rattle.std.proofs.Common.{arith, replicate}
use Rattle.osc_protect.proofs.LengthLemmas.{protected_length}
use Rattle.osc_protect.proofs.sealing.write_outer.Goals as goal

pub returns-in_default-clause-fits : goal.returns-in_default-clause-fits
returns-in_default-clause-fits c =
    let whole = protected_length c.length_of_growing.ensures.payload c.args.message.now c.args.code c.args.value.now (replicate c.args.size 0) in
    (λ no. cc, λ fits. cc (c.in_default.ensures.fits.1 (omega (arith, whole, fits))))
