use Rattle.std.proofs.Common.{◌≡◌, ◌∙◌, ap, ◌+◌, ◌%◌, drop, get_or, true}
use Rattle.std.proofs.lemmas.List.{drop_all}
use Rattle.osc_diagram.specs.Chart.Capture.{sum_of_pairs}
use Rattle.osc_diagram.proofs.chart.Sums.{below, byte_more, bytes_left, none_left, at_end}
use Rattle.osc_diagram.proofs.chart.pcap.sum_of_pairs.Goals as goal

pub loop-byte-preserved : goal.loop-byte-preserved
loop-byte-preserved c =
    let here = c.loop-byte in
    let bytes = c.args.bytes.now in
    record {
      few = below (here.sum + c.weight.result);
      whole = byte_more here.high (drop here.byte-index bytes) (drop (here.byte-index + 1) bytes) (get_or bytes here.byte-index 0) here.sum c.weight.result _
          (bytes_left bytes here.byte-index c.loop-byte-test.true) c.weight.ensures.counts here.invariant.whole;
    }

pub returns : goal.returns
returns c =
    at_end c.loop-byte.high c.args.bytes.now c.loop-byte.byte-index c.loop-byte.sum _ c.loop-byte-test.false c.loop-byte.invariant.few c.loop-byte.invariant.whole
