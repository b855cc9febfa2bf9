use Rattle.std.proofs.Common.{◌≡◌, ◌++◌, map, drop, option_map}
use Rattle.osc_model.specs.{entries_under, held_by, machine_answers}
use Rattle.osc_run.specs.{grants_of}
use Rattle.osc_options.specs.{read_request}
use Rattle.osc_world.proofs.isolation.alone.Given as goal

-- what was answered so far, and what is answered to the rest
abbrev pub invariant-loop-entry : goal.invariant-loop-entry
invariant-loop-entry l =
    let own = held_by l.client (grants_of l.minted) in
    let root = option_map (λ path. path.now) l.root in
    l.answers.items ++ machine_answers read_request root own l.tree (entries_under own (map (λ entry. entry.now) (drop l.entry-index l.entries)))
    ≡ machine_answers read_request root own l.first (entries_under own (map (λ entry. entry.now) l.entries))
