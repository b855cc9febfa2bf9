use Rattle.osc_authz.proofs.KnownLaws.{known_answer}
use Rattle.osc_authz.proofs.OutcomeLemmas.{known_changes_nothing}
use Rattle.osc_authz.proofs.laws.known_posts.Goals as goal

pub returns-clause-answered : goal.returns-clause-answered
returns-clause-answered g c = λ before after posting post answer posts ok. known_answer g.A.Aead.is_sealing before after posting post answer posts ok

pub returns-clause-unchanged : goal.returns-clause-unchanged
returns-clause-unchanged g c = λ before after offer text answer claims scope made answers comes k.
    known_changes_nothing before offer c.one_outcome.ensures text answer after claims scope made answers comes k
