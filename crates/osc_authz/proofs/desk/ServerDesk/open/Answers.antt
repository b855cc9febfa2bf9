use Rattle.std.proofs.Common.{ap, inl, subst}
use Rattle.osc_authz.specs.{IsKeyFor, Opens}
use Rattle.osc_authz.proofs.OpenLemmas.{noted_by, none_opens, old_noted, unopened}
use Rattle.osc_authz.proofs.desk.ServerDesk.open.Goals as goal

pub returns-in-Some-clause-opened : goal.returns-in-Some-clause-opened
returns-in-Some-clause-opened g c = λ note e.
    let found = rw c.in-Some.is at c.in_ok-note.ensures.opened in
    noted_by g.A.Aead.is_sealing c.args.token.now (IsKeyFor g.A.Aead.is_sealing c.args.self.now c.args.token.now) c.self.inside.key
    (inl (ap (λ desk. desk.key) c.self.view_is)) c.in-Some.note note found e

pub returns-in-None-clause-opened : goal.returns-in-None-clause-opened
returns-in-None-clause-opened g c =
    let shut = unopened g.A.Aead.is_sealing c.args.token.now c.self.inside.key c.in_ok-note.field-0 c.in_ok-note.ensures.only c.in-None.is in
    old_noted g.A.Aead.is_sealing c.args.token.now c.args.self.now
    (subst (λ k. ¬ Opens g.A.Aead.is_sealing k c.args.token.now) (ap (λ desk. desk.key) c.self.view_is) shut) c.open_by_old.result c.open_by_old.ensures.opened

pub returns-in-None-clause-none : goal.returns-in-None-clause-none
returns-in-None-clause-none g c =
    let shut = unopened g.A.Aead.is_sealing c.args.token.now c.self.inside.key c.in_ok-note.field-0 c.in_ok-note.ensures.only c.in-None.is in
    none_opens g.A.Aead.is_sealing c.args.token.now c.args.self.now
    (subst (λ k. ¬ Opens g.A.Aead.is_sealing k c.args.token.now) (ap (λ desk. desk.key) c.self.view_is) shut) c.open_by_old.result c.open_by_old.ensures.none
