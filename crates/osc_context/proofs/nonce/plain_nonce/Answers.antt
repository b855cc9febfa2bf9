use Rattle.std.proofs.Common.{◌/◌, ◌%◌, ◌^◌}
use Rattle.osc_context.proofs.NonceLemmas.{written}
use Rattle.osc_context.proofs.nonce.plain_nonce.Goals as goal

pub returns : goal.returns
returns c =
    let n = c.args.number in
    rw (c.copy_from_slice.ensures.after, c.copy_from_slice-2.ensures.after, c.five_bytes.ensures)
    (written c.args.id.now (n / 2 ^ 32) (n / 2 ^ 24 % 256) (n / 2 ^ 16 % 256) (n / 2 ^ 8 % 256) (n % 256) c.requires.id)
