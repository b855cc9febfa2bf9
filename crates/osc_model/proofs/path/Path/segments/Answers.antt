use Rattle.std.proofs.Common.{◌==◌, ◌∙◌, ap}
use Rattle.std.specs.List.{count_by}
use Rattle.osc_model.proofs.Slashes.{one_a_slash}
use Rattle.osc_model.proofs.path.Path.segments.Goals as goal

pub returns : goal.returns
returns c = c.slashes.ensures ∙ ap (count_by (λ b. b == 47)) c.text.ensures.text ∙ one_a_slash c.args.self.now c.text.ensures.path
