use Rattle.std.proofs.Common.{◌≡◌, ◌∙◌, ◌+◌, ◌++◌, ap, sym, subst, drop, List, ℕ, arith}
use Rattle.std.proofs.Math.ListN.{drop_of_length-le}
use Rattle.std.specs.Prelude.{string_bytes}
use Rattle.osc_simulation.specs.{PrintAllSent}
use Rattle.osc_simulation.proofs.Printing.{datagrams_more, datagrams_end}
use Rattle.osc_simulation.proofs.Runs.{drop_item}
use Rattle.osc_simulation.proofs.record.sent_lines.Goals as goal

pub loop-datagram-preserved : goal.loop-datagram-preserved
loop-datagram-preserved c =
    let all = c.args.datagrams.now in
    let here = c.loop-datagram in
    let left = drop_item all here.datagram-index c.datagram-item.result c.loop-datagram-test.true c.datagram-item.is in
    let line = string_bytes c.in_ok-line.line in
    let grown : c.extend_from_slice.new.self.items ≡ here.lines.items ++ line =
    c.in_ok-extend_from_slice.ensures.items ∙ ap (λ bytes. here.lines.items ++ bytes) c.as_bytes.ensures.value in
    record {
      number = omega (arith, here.invariant.number);
      prints = subst
          (λ text. (rest : List ℕ) → PrintAllSent c.args.with_bytes (here.number + 1 + 1) (drop (here.datagram-index + 1) all) rest
          → PrintAllSent c.args.with_bytes (c.args.before + 1) all (text ++ rest)) (sym grown)
          (datagrams_more c.args.with_bytes (here.number + 1) (drop here.datagram-index all) (drop (here.datagram-index + 1) all) c.datagram-item.result here.lines.items line
          (PrintAllSent c.args.with_bytes (c.args.before + 1) all) left c.in_ok-line.ensures here.invariant.prints);
    }

pub returns : goal.returns
returns c =
    let here = c.loop-datagram in
    datagrams_end c.args.with_bytes (here.number + 1) (drop here.datagram-index c.args.datagrams.now) here.lines.items
    (PrintAllSent c.args.with_bytes (c.args.before + 1) c.args.datagrams.now) (drop_of_length-le c.args.datagrams.now c.loop-datagram-test.false) here.invariant.prints
