use Rattle.std.proofs.Common.{drop, get_or, ◌+◌}
use Rattle.osc_simulation.specs.{words_before}
use Rattle.osc_simulation.proofs.Printing.{byte_more, bytes_left}
use Rattle.osc_simulation.proofs.trace.words_before.Goals as goal

pub loop-byte-preserved : goal.loop-byte-preserved
loop-byte-preserved c =
    let here = c.loop-byte in
    let text = c.args.text.now in
    byte_more c.args.words.now here.begins (drop here.byte-index text) (drop (here.byte-index + 1) text) (get_or text here.byte-index 0) here.lines.items _ _
    (bytes_left text here.byte-index c.loop-byte-test.true) c.in_ok-add_byte.ensures here.invariant
