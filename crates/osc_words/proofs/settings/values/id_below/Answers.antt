use Rattle.std.proofs.lemmas.Result.{err_from_is_err_and}
use Rattle.osc_words.proofs.settings.Ids.{unread_id}
use Rattle.osc_words.proofs.settings.values.id_below.Goals as goal

pub returns-in_err-id : goal.returns-in_err-id
returns-in_err-id c =
    let p = err_from_is_err_and c.from_residual.result c.from_residual.ensures.1 in
    rw (p.1, p.2) (unread_id c.args.root.now c.args.text.now c.in_err-id.field-0.0 c.in_err-id.ensures)
