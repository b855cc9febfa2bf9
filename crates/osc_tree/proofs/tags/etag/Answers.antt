use Rattle.std.proofs.Common.{ap, take, ◌∙◌}
use Rattle.osc_model.specs.{etag_of}
use Rattle.osc_tree.proofs.tags.etag.Goals as goal

pub returns : goal.returns
unfolding etag_of
returns c = c.copy_from_slice.ensures.after ∙ ap (take 8) c.digest-digest.ensures
