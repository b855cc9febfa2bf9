use Rattle.std.proofs.Common.{◌-◌, ◌≤◌, length, arith, refl}
use Rattle.osc_ccm.proofs.GenuineLemmas.{none_is_sealed}
use Rattle.osc_ccm.specs.{IsInRange}
use Rattle.osc_ccm.proofs.sealing.open.Goals as goal

pub returns-then-not-open_text-clause-not_genuine : goal.returns-then-not-open_text-clause-not_genuine
returns-then-not-open_text-clause-not_genuine c =
    let sealed = c.args.sealed.now in
    let size = c.args.size in
    let room : length sealed - size ≤ length c.args.out.now = omega arith in
    let range : IsInRange (length sealed - size) (length c.args.aad.now) = (omega arith, omega arith) in (
      λ e. (range, room, none_is_sealed c.args.cipher.now size c.args.nonce.now c.args.aad.now sealed c.open_text.result c.if-not-open_text.true c.open_text.ensures.genuine),
      λ e. refl,
    )
