use Rattle.std.proofs.Common.{◌∙◌, ap}
use Rattle.osc_script.specs.Inner.Reading.{client_in}
use Rattle.osc_script.proofs.Nodes.{client_named, client_unnamed}
use Rattle.osc_script.proofs.client_name.ClientName.named.Goals as goal

pub returns-clause-some : goal.returns-clause-some
returns-clause-some c = client_named c.args.text.now _ (c.client.ensures ∙ ap client_in c.as_bytes.ensures.value)

pub returns-clause-none : goal.returns-clause-none
returns-clause-none c = client_unnamed c.args.text.now _ (c.client.ensures ∙ ap client_in c.as_bytes.ensures.value)
