use Rattle.std.proofs.Common.{subst}
use Rattle.osc_run.specs.{AreUnrevoked, grants_of}
use Rattle.osc_run.proofs.Grants.{each_unrevoked}
use Rattle.osc_run.proofs.laws.none_revoked.Goals as goal

pub returns : goal.returns
returns c = λ w reached premise before after entry is.
    each_unrevoked (grants_of w.minted) w.server.rules.revoked w.first before after entry
    (subst (AreUnrevoked (grants_of w.minted) w.server.rules.revoked w.first) is (c.one_history.ensures w reached premise).none_revoked)
