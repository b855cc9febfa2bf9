use Rattle.osc_script.proofs.Payloads.{nonce_read}
use Rattle.osc_script.proofs.words.nonce.Goals as goal

pub returns-in-Some : goal.returns-in-Some
returns-in-Some c =
    let read = rw c.in-Some.is at c.in_ok-bytes.ensures in
    let some = rw c.deref.ensures.value at c.eight.ensures.some in
    let none = rw c.deref.ensures.value at c.eight.ensures.none in
    nonce_read c.args.word.now c.in-Some.bytes.items c.eight.result c.if-word-ne16.false read some none
