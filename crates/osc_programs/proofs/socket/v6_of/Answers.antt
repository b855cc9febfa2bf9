use Rattle.std.proofs.Common.{◌∙◌, ap, arith}
use Rattle.std.specs.Net.Addr.{octets_of}
use Rattle.osc_programs.proofs.Addresses.{octets_back}
use Rattle.osc_programs.proofs.socket.v6_of.Goals as goal

pub returns : goal.returns
returns c = ap octets_of c.from_octets.ensures ∙ octets_back 8 c.args.octets.now (omega (arith, c.told-octets)) (λ k. omega (arith, c.fits-octets))
