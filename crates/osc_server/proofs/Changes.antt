-- What a request changes: nothing, or what its path has.
use Rattle.std.proofs.Common.{◌≡◌, ℕ, ◌==◌, Bool, true, false, if◌then◌else◌, List, Option, Some, None, Result, Ok, Err, eqb-true, refl, sym, subst}
use Rattle.std.specs.FinMap as map
use Rattle.osc_model.specs.{method_of, refusal, written, Outcome, read, write, perform, refused_or, apply_at, apply, apply_read}
use Rattle.osc_model.specs.Tree.{Tree}
use Rattle.osc_model.specs.Scope.{Scope}
use Rattle.osc_model.specs.declared.code.Code.{Code}
use Rattle.osc_model.specs.declared.code.Method.{Method}
use Rattle.osc_model.specs.declared.code.Method.TheVariants.{Get, Post, Put, Delete}
use Rattle.osc_model.specs.declared.reply.Reply.{Reply}
use Rattle.osc_model.specs.declared.request.Request.{Request}
use Rattle.osc_model.specs.declared.resource.Resource.{Resource}
use Rattle.osc_authz.specs.{IsSameBut}
use Rattle.osc_run.specs.{Replies, Applied, OutOfMemory}
use Rattle.osc_server.specs.Inner.Parts.{DifferAt, may_change}
use Rattle.osc_server.proofs.Gets.{get_reads}

pub record OnePath : Type 0 where
  pub put : (tree : Tree) (path : List ℕ) (resource : Resource) → IsSameBut tree (map.insert tree path resource) path
  pub removed : (tree : Tree) (path : List ℕ) → IsSameBut tree (map.remove tree path) path
  pub unchanged : (tree : Tree) (path : List ℕ) → IsSameBut tree tree path

module _ (law : OnePath) where
  wrote : (tree : Tree) (path : List ℕ) (new : Option Resource) → IsSameBut tree (write tree path new).tree path
  wrote tree path None = law.unchanged tree path
  wrote tree path (Some resource) = law.put tree path resource

  looked : (tree : Tree) (path : List ℕ) (found : Option Resource) → IsSameBut tree (read tree found).tree path
  looked tree path None = law.unchanged tree path
  looked tree path (Some resource) = law.unchanged tree path

  performed : (tree : Tree) (path : List ℕ) (method : Option Method) (request : Request) → IsSameBut tree (perform tree path method request).tree path
  performed tree path None request = wrote tree path (written None (map.get tree path) request)
  performed tree path (Some Get) request = looked tree path (map.get tree path)
  performed tree path (Some Post) request = wrote tree path (written (Some Post) (map.get tree path) request)
  performed tree path (Some Put) request = wrote tree path (written (Some Put) (map.get tree path) request)
  performed tree path (Some Delete) request = law.removed tree path

  unless_refused : (tree : Tree) (path : List ℕ) (refused : Option Code) (outcome : Outcome) → IsSameBut tree outcome.tree path → IsSameBut tree (refused_or tree refused outcome).tree path
  unless_refused tree path None outcome same = same
  unless_refused tree path (Some c) outcome same = law.unchanged tree path

  at_path : (root : Option (List ℕ)) (tree : Tree) (scope : Scope) (path : Option (List ℕ)) (request : Request) → DifferAt path tree (apply_at root tree scope path request).tree
  at_path root tree scope None request = refl
  at_path root tree scope (Some path) request = unless_refused tree path (refusal root tree scope path request) _ (performed tree path (method_of request.code) request)

  asked : (root : Option (List ℕ)) (tree : Tree) (scope : Scope) (request : Request) → DifferAt request.path tree (apply root tree scope request).tree
  unfolding apply
  asked root tree scope request = at_path root tree scope request.path request

  by_code : (root : Option (List ℕ)) (tree : Tree) (scope : Scope) (request : Request) (b : Bool) → (request.code.0 == 1) ≡ b
      → DifferAt (if b then None else request.path) tree (apply root tree scope request).tree
  by_code root tree scope request true e = get_reads root tree scope request (eqb-true request.code.0 1 e)
  by_code root tree scope request false e = asked root tree scope request

  heard : (root : Option (List ℕ)) (tree : Tree) (scope : Scope) (it : Result Request Code) → DifferAt (may_change it) tree (apply_read root tree scope it).tree
  heard root tree scope (Ok request) = by_code root tree scope request (request.code.0 == 1) refl
  heard root tree scope (Err c) = refl

  kept : (tree : Tree) (path : Option (List ℕ)) → DifferAt path tree tree
  kept tree None = refl
  kept tree (Some path) = law.unchanged tree path

  pub replied_changes : (root : Option (List ℕ)) (old new : Tree) (scope : Scope) (it : Result Request Code) (reply : Reply)
      → Replies old (apply_read root old scope it) reply new → DifferAt (may_change it) old new
  replied_changes root old new scope it reply (Applied answered after) = subst (λ (t : Tree). DifferAt (may_change it) old t) (sym after) (heard root old scope it)
  replied_changes root old new scope it reply (OutOfMemory takes answered after) = subst (λ (t : Tree). DifferAt (may_change it) old t) (sym after) (kept old (may_change it))
