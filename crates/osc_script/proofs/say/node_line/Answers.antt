use Rattle.std.proofs.Common.{◌≡◌, Some, None, map, sym, ◌∙◌}
use Rattle.osc_script.proofs.Said.{no_node_verb}
use Rattle.osc_script.proofs.say.node_line.Goals as goal

pub returns-in_default : goal.returns-in_default
returns-in_default c = λ line e has.
    let none = no_node_verb c.args.verb.now (map (λ arg. arg.now) c.args.args.now) c.in_default.not-tick c.in_default.not-restart c.in_default.not-inject c.in_default.not-quiet in
    let no : None ≡ Some line = sym none ∙ e in
    absurd cc
