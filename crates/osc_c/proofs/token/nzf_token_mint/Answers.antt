-- Why these are no claims; nothing is written.
use Rattle.std.proofs.Common.{inr, refl, rules}
use Rattle.osc_c.proofs.token.nzf_token_mint.Goals as goal

pub returns-in-Err : goal.returns-in-Err
returns-in-Err c = (c.in-Err.outcome, search rules, inr (c.in-Err.ensures.err, refl, refl))
