use Rattle.std.proofs.Common.{Some, sym, ap, ◌∙◌}
use Rattle.std.proofs.lemmas.Map.Steps.{set_value_same}
use Rattle.std.specs.BTreeMap.{is_at}
use Rattle.osc_model.specs.{path_cmp}
use Rattle.osc_tree.proofs.tree.keep_in.Goals as goal

pub returns-in-Some : goal.returns-in-Some
returns-in-Some c =
    (c.get_mut.follows.holds c.keep.new.self).0
    ∙ set_value_same (is_at (path_cmp c.args.path.now)) c.args.resources.now.entries c.keep.new.self
    (sym c.in-Some.ensures.value ∙ ap Some (sym c.keep.ensures))
