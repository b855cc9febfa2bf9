use Rattle.std.proofs.Common.{◌≡◌, ◌≤◌, ◌+◌, ap, arith, length, rules, slice_index, sym, ◌∙◌}
use Rattle.sqlite_wal.specs.Format.{be32}
use Rattle.sqlite_wal.proofs.PartLemmas.{same_be32}
use Rattle.osc_store.proofs.logged.number_at.Goals as goal

pub returns-clause-some : goal.returns-clause-some
returns-clause-some g c clean =
    let old = g.D.Disk.seen c.args.file.now in
    let mid = g.D.Disk.seen c.len.new.self in
    let buf = c.read_at.new.buf in
    let at = c.args.place in
    let four : length buf ≡ 4 = search rules in
    let early = c.read_at.ensures.clean clean in
    let holds = c.in_ok-read_at.ensures.read clean (omega arith) in
    let same = same_be32 buf mid 0 at (λ i low. let here : 0 + i ≡ i = omega arith in ap (slice_index buf) here ∙ sym (holds.each i (omega (arith, low, four)))) in
    let long = c.in_ok-len.ensures.len early in
    let within : at + 4 ≤ length old = omega (arith, long, c.if-len-lt4.false, c.if-place-len.false) in
    (within, c.number.ensures ∙ same ∙ ap (λ b. be32 b at) c.len.ensures.seen)
