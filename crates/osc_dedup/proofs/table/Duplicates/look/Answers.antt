use Rattle.std.proofs.Common.{ap, sym, ◌∙◌}
use Rattle.std.specs.Option.{option_map}
use Rattle.std.specs.List.{find}
use Rattle.osc_dedup.specs.{looked, is_of, while_alive}
use Rattle.osc_dedup.proofs.Keys.{looked_keys}
use Rattle.osc_dedup.proofs.Places.{alive_behind}
use Rattle.osc_dedup.proofs.table.Duplicates.look.Goals as goal

pub returns : goal.returns
returns c =
    let es = c.self.inside.kept.entries in
    c.while_alive.ensures
    ∙ ap (while_alive c.args.now) c.get.ensures.value
    ∙ sym (looked_keys c.args.now c.args.peer c.args.id es c.self.invariant.6)
    ∙ ap (λ entries. option_map (λ entry. entry.noted) (find (is_of c.args.peer c.args.id) entries)) (alive_behind c.args.now c.self.inside.gone es c.self.invariant.7)
    ∙ ap (looked c.args.now c.args.peer c.args.id) c.self.view_is
