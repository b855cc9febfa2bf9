use Rattle.std.proofs.Common.{◌≡◌, length, ap, sym, ◌∙◌, rules}
use Rattle.osc_ccm.specs.{piece}
use Rattle.osc_ccm.proofs.BlockLemmas.{filled_whole}
use Rattle.osc_ccm.proofs.block.block_at.Goals as goal

pub returns-else-bytes-index-lt16 : goal.returns-else-bytes-index-lt16
returns-else-bytes-index-lt16 c =
    let long : length c.whole.result ≡ 16 = search rules in
    c.whole.ensures ∙ sym (filled_whole (piece c.args.bytes.now c.args.index) (sym (ap length c.whole.ensures) ∙ long))
