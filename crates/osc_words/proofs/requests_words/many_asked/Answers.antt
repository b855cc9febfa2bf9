use Rattle.std.proofs.Common.{refl}
use Rattle.osc_words.specs.declared.client_option.ClientOption.TheVariants.{Requests}
use Rattle.osc_words.proofs.requests_words.many_asked.Goals as goal

pub returns : goal.returns
returns c = (refl, (c.requires.0, c.in_ok-requests_words.ensures.options Requests), c.in_ok-requests_words.ensures)
