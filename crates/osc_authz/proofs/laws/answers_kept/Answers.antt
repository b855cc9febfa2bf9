use Rattle.osc_authz.proofs.AnswersKept.{kept_of_posts, kept_of_served, none_kept}
use Rattle.osc_authz.proofs.laws.answers_kept.Goals as goal

pub returns-clause-posted : goal.returns-clause-posted
returns-clause-posted g c = λ before after posting post held last. kept_of_posts g.A.Aead.is_sealing before after posting post held last

pub returns-clause-served : goal.returns-clause-served
returns-clause-served g c = λ answers id own last table held other. kept_of_served answers id own last table held other

pub returns-clause-empty : goal.returns-clause-empty
returns-clause-empty g c = λ held last. none_kept held last
