use Rattle.std.proofs.Common.{◌≡◌, sym, subst}
use Rattle.osc_run.specs.{ServerState}
use Rattle.osc_device.proofs.Entering.{of_an_entry}
use Rattle.osc_device.proofs.laws.runs_keep_their_promises.Goals as goal

pub returns-clause-promises : goal.returns-clause-promises
returns-clause-promises g c = λ w reached. record { one_history = c.one_history.ensures w reached; young = c.contexts_are_young.ensures w; own_answers = c.own_answers.ensures w reached }

pub returns-clause-entered : goal.returns-clause-entered
returns-clause-entered g c = λ old between new now draw round kind same carries number v reply reached is_in told premise.
    of_an_entry g.A.Ciphers.is_sealing c.one_history.ensures number v old.own between now draw round new reply reached
    (record { server = subst (λ (s : ServerState). v.server ≡ s) (sym same) is_in.server; own = is_in.own }) kind carries told premise
