-- A step of a server changes what one path has.
use Rattle.std.specs.declared.cmp.Ordering.{Ordering}
use Rattle.std.specs.declared.cmp.Ordering.TheVariants.{Less, Equal, Greater}
use Rattle.std.proofs.Common.{◌≡◌, ℕ, true, false, cond, if◌then◌else◌, List, Option, Some, None, Result, Ok, Err, refl, sym, ap, ◌∙◌, subst}
use Rattle.std.specs.Cmp.{IsTotalOrder, tied_itself}
use Rattle.std.specs.Ordering.{eq_by_cmp, is_eq}
use Rattle.std.specs.FinMap as map
use Rattle.std.specs.FinMap.{IsAntisymmetric}
use Rattle.osc_model.specs.{Outcome, apply, apply_at, apply_read, code, method_of, path_cmp, perform, read, refusal, refused_or, unchanged, write, written}
use Rattle.osc_model.specs.Scope.{Scope}
use Rattle.osc_model.specs.StepNotes.{StepNotes}
use Rattle.osc_model.specs.Tree.{Tree}
use Rattle.osc_model.specs.declared.code.Code.{Code}
use Rattle.osc_model.specs.declared.code.Method.{Method}
use Rattle.osc_model.specs.declared.code.Method.TheVariants.{Get, Post, Put, Delete}
use Rattle.osc_model.specs.declared.node.Moment.{Moment}
use Rattle.osc_model.specs.declared.reply.Reply.{Reply}
use Rattle.osc_model.specs.declared.request.Request.{Request}
use Rattle.osc_model.specs.declared.resource.Resource.{Resource}
use Rattle.osc_options.specs.{read_request}
use Rattle.osc_run.specs.{Applied, OutOfMemory, Posted, Replies, Served, ServerIdle, ServerRestarted, ServerState, ServerStep}
use Rattle.osc_store.specs.{changed}
use Rattle.osc_turn.specs.Kept.{DifferAt, IsChangeOf, path_asked, tells_change}

-- where the reply tells of a change
abbrev where_told : Reply → Option (List ℕ) → Option (List ℕ)
where_told reply path = if tells_change reply.code then path else None

module _ (total : IsTotalOrder path_cmp) (exact : IsAntisymmetric path_cmp) where
  same_path : (path : List ℕ) → eq_by_cmp path_cmp path path ≡ true
  same_path path = ap is_eq (tied_itself total path)

  -- ---- what a tree has, put there again

  by_tie : (tree : Tree) (path q : List ℕ) (found : Option Resource) → map.get tree path ≡ found → (o : Ordering) → path_cmp q path ≡ o → cond (is_eq o) found (map.get tree q) ≡ map.get tree q
  by_tie tree path q found e Less t = refl
  by_tie tree path q found e Equal t = sym e ∙ map.get_tied total tree q path t
  by_tie tree path q found e Greater t = refl

  put_back : (tree : Tree) (path : List ℕ) (found : Option Resource) → map.get tree path ≡ found → changed tree path found ≡ tree
  put_back tree path None e = map.same_map total exact _ _ (λ q. map.get-remove total tree path q ∙ by_tie tree path q None e (path_cmp q path) refl)
  put_back tree path (Some resource) e = map.same_map total exact _ _ (λ q. map.get-insert total tree path resource q ∙ by_tie tree path q (Some resource) e (path_cmp q path) refl)

  same_at : (path : Option (List ℕ)) (tree : Tree) → DifferAt path tree tree
  same_at None tree = refl
  same_at (Some path) tree = sym (put_back tree path (map.get tree path) refl)

  -- ---- what the machine does

  abbrev Tells : Tree → Option (List ℕ) → Outcome → Type 0
  Tells tree path outcome = DifferAt (where_told outcome.reply path) tree outcome.tree

  inserted : (tree : Tree) (path : List ℕ) (resource : Resource) → DifferAt (Some path) tree (map.insert tree path resource)
  inserted tree path resource =
      sym (ap (changed tree path) (map.get-insert total tree path resource path ∙ ap (λ b. cond b (Some resource) (map.get tree path)) (same_path path)))

  removed : (tree : Tree) (path : List ℕ) → DifferAt (Some path) tree (map.remove tree path)
  removed tree path =
      sym (ap (changed tree path) (map.get-remove total tree path path ∙ ap (λ b. cond b None (map.get tree path)) (same_path path)))

  read_tells : (tree : Tree) (path : Option (List ℕ)) (found : Option Resource) → Tells tree path (read tree found)
  read_tells tree path None = same_at (where_told (read tree None).reply path) tree
  read_tells tree path (Some resource) = same_at (where_told (read tree (Some resource)).reply path) tree

  write_tells : (tree : Tree) (path : List ℕ) (new : Option Resource) → Tells tree (Some path) (write tree path new)
  write_tells tree path None = same_at (where_told (write tree path None).reply (Some path)) tree
  write_tells tree path (Some resource) =
      elim (map.contains_key tree path) as (λ b. DifferAt (if tells_change (if b then code 2 4 else code 2 1) then Some path else None) tree (map.insert tree path resource)) [
        | true ↦ inserted tree path resource
        | false ↦ inserted tree path resource
      ]

  perform_tells : (tree : Tree) (path : List ℕ) (method : Option Method) (request : Request) → Tells tree (Some path) (perform tree path method request)
  perform_tells tree path None request = write_tells tree path (written None (map.get tree path) request)
  perform_tells tree path (Some Get) request = read_tells tree (Some path) (map.get tree path)
  perform_tells tree path (Some Post) request = write_tells tree path (written (Some Post) (map.get tree path) request)
  perform_tells tree path (Some Put) request = write_tells tree path (written (Some Put) (map.get tree path) request)
  perform_tells tree path (Some Delete) request = removed tree path

  refused_tells : (tree : Tree) (path : Option (List ℕ)) (refused : Option Code) (outcome : Outcome) → Tells tree path outcome → Tells tree path (refused_or tree refused outcome)
  refused_tells tree path None outcome tells = tells
  refused_tells tree path (Some c) outcome tells = same_at (where_told (unchanged tree c).reply path) tree

  at_tells : (root : Option (List ℕ)) (tree : Tree) (scope : Scope) (path : Option (List ℕ)) (request : Request) → Tells tree path (apply_at root tree scope path request)
  at_tells root tree scope None request = same_at (where_told (unchanged tree (code 4 3)).reply None) tree
  at_tells root tree scope (Some path) request = refused_tells tree (Some path) (refusal root tree scope path request) _ (perform_tells tree path (method_of request.code) request)

  apply_tells : (root : Option (List ℕ)) (tree : Tree) (scope : Scope) (asked : Result Request Code) → Tells tree (path_asked asked) (apply_read root tree scope asked)
  unfolding apply
  apply_tells root tree scope (Ok request) = at_tells root tree scope request.path request
  apply_tells root tree scope (Err c) = same_at (where_told (unchanged tree c).reply None) tree

  -- ---- what a server does

  replied_tells : (root : Option (List ℕ)) (old new : Tree) (scope : Scope) (asked : Result Request Code) (reply : Reply) → Replies old (apply_read root old scope asked) reply new
      → DifferAt (where_told reply (path_asked asked)) old new
  replied_tells root old new scope asked reply (Applied answered after) =
      subst (λ (t : Tree). DifferAt (where_told reply (path_asked asked)) old t) (sym after)
      (subst (λ (r : Reply). DifferAt (where_told r (path_asked asked)) old (apply_read root old scope asked).tree) (sym answered) (apply_tells root old scope asked))
  replied_tells root old new scope asked reply (OutOfMemory takes answered after) =
      subst (λ (t : Tree). DifferAt (where_told reply (path_asked asked)) old t) (sym after) (same_at (where_told reply (path_asked asked)) old)

  pub changes_one : (old new : ServerState) (now : Moment) (notes : StepNotes) → ServerStep old now notes new → IsChangeOf notes.served old.tree new.tree
  changes_one old new now notes (ServerIdle idle) = subst (λ (n : StepNotes). IsChangeOf n.served old.tree new.tree) (sym idle.noted) idle.tree
  changes_one old new now notes (Posted posted) = subst (λ (n : StepNotes). IsChangeOf n.served old.tree new.tree) (sym posted.noted) posted.tree
  changes_one old new now notes (Served served) =
      subst (λ (n : StepNotes). IsChangeOf n.served old.tree new.tree) (sym served.noted)
      (replied_tells old.rules.revoked old.tree new.tree served.context.held.scope (read_request served.text) served.reply served.tree)
  changes_one old new now notes (ServerRestarted again) =
      subst (λ (n : StepNotes). IsChangeOf n.served old.tree new.tree) (sym again.noted) (ap (λ (s : ServerState). s.tree) again.is)
