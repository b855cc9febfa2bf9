use Rattle.std.proofs.Common.{◌≡◌, ◌∙◌, IfOk, ℕ, List, Option, option_map, Result, Ok, Err, Bor, ap, map, subst, sym}
use Rattle.osc_model.specs.{Agree, Answer, alone as answers_alone, answered}
use Rattle.osc_model.specs.Tree.{Tree}
use Rattle.osc_model.specs.declared.step.Entry.{Entry}
use Rattle.osc_authz.specs.{DeskState}
use Rattle.osc_server.specs.State.{State as Server}
use Rattle.osc_run.specs.{history as history_of, IsReached, Minted, grants_of}
use Rattle.osc_options.specs.{read_request}
use Rattle.osc_world.specs.{HasOwnAnswers, State, run_of}
use Rattle.osc_world.proofs.world.World.alone.Goals as goal

if_ok : {A E : Type 0} (P Q : A → Type 0) (result : Result A E) → ((x : A) → P x → Q x) → IfOk result P → IfOk result Q
if_ok P Q (Ok x) f p = f x p
if_ok P Q (Err e) f p = tt

pub returns-clause-alone : goal.returns-clause-alone
returns-clause-alone c =
    let now : State = c.args.self.now in
    let minted : c.deref.result.now ≡ now.minted = c.deref.ensures.value ∙ ap (λ (w : State). w.minted) c.self.view_is in
    let first : c.self.inside.first ≡ now.first = ap (λ (w : State). w.first) c.self.view_is in
    let entries : map (λ (e : Bor Entry). e.now) c.deref-2.result.now ≡ history_of now.steps =
    ap (λ (all : List (Bor Entry)). map (λ (e : Bor Entry). e.now) all) c.deref-2.ensures.value ∙ c.in_ok-entries.ensures.history in
    let its : Option (List ℕ) = option_map (λ path. path.now) c.revoked-root.result in
    let root : its ≡ now.nodes.server.desk.rules.revoked =
    c.revoked-root.ensures ∙ ap (λ (d : DeskState). d.rules.revoked) c.desk.ensures.desk ∙ ap (λ (s : Server). s.desk.rules.revoked) c.server.ensures ∙ ap (λ (w : State). w.nodes.server.desk.rules.revoked) c.self.view_is in
    if_ok _ _ c.alone.result
    (λ answers is. is
    ∙ ap (λ (m : List Minted). answers_alone read_request its (grants_of m) c.args.client c.self.inside.first (map (λ (e : Bor Entry). e.now) c.deref-2.result.now)) minted
    ∙ ap (λ (t : Tree). answers_alone read_request its (grants_of now.minted) c.args.client t (map (λ (e : Bor Entry). e.now) c.deref-2.result.now)) first
    ∙ ap (λ (es : List Entry). answers_alone read_request its (grants_of now.minted) c.args.client now.first es) entries
    ∙ ap (λ (r : Option (List ℕ)). answers_alone read_request r (grants_of now.minted) c.args.client now.first (history_of now.steps)) root)
    c.alone.ensures

pub returns-clause-isolated : goal.returns-clause-isolated
returns-clause-isolated c =
    let own : HasOwnAnswers c.args.self.now = c.own_answers.ensures (run_of c.args.self.now) (subst (λ (w : State). IsReached (run_of w)) c.self.view_is c.self.invariant.0) in
    if_ok _ _ c.alone.result
    (λ answers is premise paths. subst (λ (items : List Answer). Agree (answered (grants_of c.args.self.now.minted) c.args.client (history_of c.args.self.now.steps)) items) (sym is) (own premise paths c.args.client))
    (returns-clause-alone c)
