use Rattle.std.proofs.Common.{arith}
use Rattle.osc_script.proofs.Payloads.{few_enough, too_many, not_read}
use Rattle.osc_script.proofs.words.short_bytes.Goals as goal
use Rattle.osc_script.proofs.words.short_bytes.Goals.{in_default-via-in-Some+else-len-most, in_default-via-in_default}

pub returns-in-Some : goal.returns-in-Some
returns-in-Some c =
    let read = rw c.in-Some.is at c.in_ok-bytes.ensures in
    few_enough c.args.most c.args.word.now c.in-Some.bytes read (omega (arith, c.len.ensures.len, c.if-len-most.true))

pub returns-in_default : goal.returns-in_default
returns-in_default c =
    elim c.in_default.branch [
      | in_default-via-in-Some+else-len-most w ↦
          let read = rw w.in-Some.is at c.in_ok-bytes.ensures in
          too_many c.args.most c.args.word.now w.in-Some.bytes read (omega (arith, w.len.ensures.len, w.if-len-most.false))
      | in_default-via-in_default w ↦
          let read = rw w.in_default.is at c.in_ok-bytes.ensures in
          not_read c.args.most _ c.args.word.now read
    ]
