use Rattle.std.proofs.Common.{[], sym, eqb-true, eq-eqb, length}
use Rattle.std.proofs.lemmas.List.{append-nil}
use Rattle.osc_cbor.proofs.Steps.{ok_is, ok_or_err}
use Rattle.osc_cbor.proofs.WholeLemmas.{whole_from_begins}
use Rattle.osc_cbor.proofs.whole.is_whole.Goals as goal

pub returns-in-Ok : goal.returns-in-Ok
returns-in-Ok c =
    let bytes = c.args.bytes.now in
    let found = c.in-Ok.ensures.found in (
      λ e. (found.0, whole_from_begins bytes found.0 c.in-Ok.count found.1 (eqb-true c.in-Ok.count (length bytes) e)),
      λ w. eq-eqb c.in-Ok.count (length bytes) (ok_is c.in-Ok.count (length bytes) (c.in-Ok.ensures.only w.0 bytes [] w.1.spelled w.1.shallow (sym (append-nil bytes)))),
    )

pub returns-in-Err : goal.returns-in-Err
returns-in-Err c =
    let bytes = c.args.bytes.now in
    (λ e. cc, λ w. absurd (ok_or_err (length bytes) c.in-Err.field-0 (sym (c.in-Err.ensures.only w.0 bytes [] w.1.spelled w.1.shallow (sym (append-nil bytes))))))
