use Rattle.std.proofs.Common.{◌∙◌, ◌==◌, ap, count_by, refl}
use Rattle.osc_log.proofs.Outputs.{ended_by, puts_cut, puts_ended, rest_is}
use Rattle.osc_log.proofs.output.Output.put_line.Goals as goal

pub returns-then-taken-words : goal.returns-then-taken-words
returns-then-taken-words g c =
    let taken = c.write_some-taken in
    puts_ended _ _ (g.W.Write.contents taken.new.writer) c.args.words.now taken.result c.if-taken-words.true taken.ensures.appends c.put.ensures

pub returns-else-taken-words : goal.returns-else-taken-words
returns-else-taken-words g c =
    let taken = c.write_some-taken in
    let count = c.count_lines.ensures ∙ ap (count_by (λ b. b == 10)) (rest_is c.args.words.now taken.result) in
    puts_cut _ _ c.args.words.now taken.result c.saturating_add-ended.result taken.ensures.appends (ended_by _ _ _ count c.saturating_add-ended.ensures) c.saturating_add-self.ensures refl
