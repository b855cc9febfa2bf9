use Rattle.std.proofs.Common.{◌++◌, ◌+◌, ℕ, List, Option, option_map, map, drop, Bor, ap, sym, ◌∙◌}
use Rattle.osc_model.specs.Grant.{Grant}
use Rattle.osc_model.specs.{entries_under, grant_of, held_by, machine_answers}
use Rattle.osc_model.specs.declared.context.ContextName.{ContextName}
use Rattle.osc_model.specs.declared.step.Entry.{Entry}
use Rattle.osc_run.specs.{grants_of}
use Rattle.osc_options.specs.{read_request}
use Rattle.osc_world.proofs.Rest.{next_of_rest}
use Rattle.osc_world.proofs.isolation.alone.Goals as goal

pub loop-entry-preserved : goal.loop-entry-preserved
loop-entry-preserved c =
    let own : List Grant = held_by c.args.client (grants_of c.args.minted.now) in
    let root : Option (List ℕ) = option_map (λ path. path.now) c.args.root in
    let next = next_of_rest c.args.entries.now c.loop-entry.entry-index c.entry-item.result c.loop-entry-test.true c.entry-item.is in
    c.in_ok-answer.ensures own (map (λ (e : Bor Entry). e.now) (drop (c.loop-entry.entry-index + 1) c.args.entries.now)) (c.grant_of-grant.ensures ∙ ap (λ (name : ContextName). grant_of own name) c.deref.ensures)
    ∙ ap (λ (rest : List (Bor Entry)). c.loop-entry.answers.items ++ machine_answers read_request root own c.loop-entry.tree (entries_under own (map (λ (e : Bor Entry). e.now) rest))) (sym next)
    ∙ c.loop-entry.invariant
