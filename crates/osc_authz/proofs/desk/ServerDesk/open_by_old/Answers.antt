use Rattle.std.proofs.Common.{◌≡◌, List, ℕ, Some, sym, ap, ◌∙◌}
use Rattle.osc_authz.proofs.OpenLemmas.{all_noted, none_of}
use Rattle.osc_authz.proofs.desk.ServerDesk.open_by_old.Goals as goal

pub returns-in-Some-clause-opened : goal.returns-in-Some-clause-opened
returns-in-Some-clause-opened g c =
    all_noted g.A.Aead.is_sealing c.args.token.now (λ (key : List ℕ). c.args.self.now.old_key ≡ Some key) c.in-Some.key
    (sym (ap (λ desk. desk.old_key) c.self.view_is) ∙ c.in-Some.is) c.open_token.result c.open_token.ensures.opened

pub returns-in-Some-clause-none : goal.returns-in-Some-clause-none
returns-in-Some-clause-none g c =
    none_of g.A.Aead.is_sealing c.args.token.now c.args.self.now.old_key c.in-Some.key
    (sym c.in-Some.is ∙ ap (λ desk. desk.old_key) c.self.view_is) c.open_token.result c.open_token.ensures.only
