use Rattle.std.proofs.Common.{◌++◌, arith, length-append}
use Rattle.osc_programs.proofs.Inputs.{takes_more}
use Rattle.osc_programs.proofs.input.bytes_within.Goals as goal

pub returns-in_err-read_once-clause-end : goal.returns-in_err-read_once-clause-end
returns-in_err-read_once-clause-end g c =
    let took = c.read_once.ensures.took in (
      c.loop.bytes.items ++ took.0,
      omega (arith, length-append c.loop.bytes.items took.0, took.1),
      takes_more (g.I.Read.remaining c.args.reader.now) (g.I.Read.remaining c.loop.reader) (g.I.Read.remaining c.read_once.new.reader) c.loop.bytes.items took.0 c.loop.invariant.1 took.2,
    )
