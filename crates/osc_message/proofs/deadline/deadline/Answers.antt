use Rattle.std.proofs.Common.{◌||◌, not, ◌+◌, take, drop, ap, sym, ◌∙◌, arith}
use Rattle.std.specs.List.{list_any}
use Rattle.osc_message.specs.{is_reached, messages, due_of, dues, is_kept}
use Rattle.osc_message.proofs.Open.{one_more_idle, all_idle}
use Rattle.osc_message.proofs.Marks.{bounded_at_place, due_at_place, has_place_at, or_assoc}
use Rattle.osc_message.proofs.deadline.deadline.Goals as goal

pub deadline_of-requires : goal.deadline_of-requires
deadline_of-requires c = bounded_at_place c.args.all.now c.loop-index.index c.index-all-index.result (omega arith) c.index-all-index.is c.requires.sound.bounded

pub loop-index-preserved : goal.loop-index-preserved
loop-index-preserved c =
    let all = c.args.all.now in
    let pace = c.args.pace.now in
    let i = c.loop-index.index in
    let x = c.index-all-index.result in
    record {
      reached = λ now.
          let rest = list_any (λ pair. not (is_kept pair.1)) (dues pace now (messages all) (messages (take (i + 1) all)) (messages (drop (i + 1) all))) in
          let due = due_of pace now (messages all) (messages (take i all)) x.message x.message.sent in
          let this = c.deadline_of.ensures.reached now (messages all) (messages (take i all)) (has_place_at pace all i x (omega arith) c.index-all-index.is c.requires) in
          ap (λ b. b || rest) (c.first_of-first.ensures.reached now ∙ ap (λ b. is_reached now c.loop-index.first || b) this)
          ∙ or_assoc (is_reached now c.loop-index.first) (not (is_kept due)) rest
          ∙ ap (λ pairs. is_reached now c.loop-index.first || list_any (λ pair. not (is_kept pair.1)) pairs) (sym (due_at_place pace now all i x (omega arith) c.index-all-index.is))
          ∙ c.loop-index.invariant.reached now;
      open_ones = one_more_idle all i x (omega arith) c.index-all-index.is c.loop-index.first c.deadline_of.result c.first_of-first.result c.first_of-first.ensures.none c.loop-index.invariant.open_ones c.deadline_of.ensures.none;
    }

pub returns-clause-open : goal.returns-clause-open
returns-clause-open c = λ some. all_idle c.args.all.now c.loop-index.first c.loop-index.index (omega arith) some c.requires.placed c.loop-index.invariant.open_ones
