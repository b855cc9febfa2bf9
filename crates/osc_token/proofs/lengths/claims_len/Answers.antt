use Rattle.osc_token.proofs.LengthLemmas.{claims_counted}
use Rattle.osc_token.proofs.lengths.claims_len.Goals as goal

pub returns : goal.returns
returns c =
    claims_counted c.args.claims.now c.audience_len.result c.date_len.result c.date_len-2.result c.confirmation_len.result c.bytes_len.result
    c.saturating_add.result c.saturating_add-2.result c.saturating_add-3.result c.saturating_add-4.result c.saturating_add-5.result
    c.audience_len.ensures c.date_len.ensures c.date_len-2.ensures c.confirmation_len.ensures c.bytes_len.ensures
    c.saturating_add.ensures c.saturating_add-2.ensures c.saturating_add-3.ensures c.saturating_add-4.ensures c.saturating_add-5.ensures
