-- Replies without payload, those with a resource, and GETs, which leave the tree as it is.
use Rattle.std.proofs.Common.{◌≡◌, ℕ, ◌<◌, ◌≤◌, List, length, Option, Some, None, refl, subst, arith}
use Rattle.std.proofs.lemmas.List.{length-take}
use Rattle.std.specs.FinMap as map
use Rattle.osc_model.specs.{method_of, bare, content, etag_of, refusal, Outcome, read, perform, refused_or, apply_at, apply}
use Rattle.osc_model.specs.Tree.{Tree}
use Rattle.osc_model.specs.Scope.{Scope}
use Rattle.osc_model.specs.declared.code.Code.{Code}
use Rattle.osc_model.specs.declared.code.Method.{Method}
use Rattle.osc_model.specs.declared.code.Method.TheVariants.{Get}
use Rattle.osc_model.specs.declared.request.Request.{Request}
use Rattle.osc_model.specs.declared.resource.Resource.{Resource}
use Rattle.osc_server.specs.Inner.Parts.{IsReplyOf}

pub bare_reply : (most : ℕ) (c : Code) → 0 < c.0 → IsReplyOf most (bare c)
bare_reply most c positive = record { code = positive; etag = λ tag e. cc; payload = omega arith }

etag_short : (resource : Resource) → length (etag_of resource) ≤ 8
unfolding etag_of
etag_short resource = simp length-take (omega arith)

pub content_reply : (resource : Resource) → IsReplyOf (length resource.payload) (content resource)
content_reply resource = record {
  code = omega arith;
  etag = λ tag e. let same : etag_of resource ≡ tag = cc in subst (λ t. length t ≤ 8) same (etag_short resource);
  payload = omega arith;
}

-- ---- a GET leaves the tree as it is

refused : (tree : Tree) (found : Option Code) (otherwise : Outcome) → otherwise.tree ≡ tree → (refused_or tree found otherwise).tree ≡ tree
refused tree None otherwise same = same
refused tree (Some c) otherwise same = refl

read_same : (tree : Tree) (found : Option Resource) → (read tree found).tree ≡ tree
read_same tree None = refl
read_same tree (Some resource) = refl

get_of_code : (c : Code) → c.0 ≡ 1 → method_of c ≡ Some Get
get_of_code c e = rw e refl

performed : (tree : Tree) (path : List ℕ) (method : Option Method) (request : Request) → method ≡ Some Get → (perform tree path method request).tree ≡ tree
performed tree path method request e = rw e (read_same tree (map.get tree path))

read_at : (root : Option (List ℕ)) (tree : Tree) (scope : Scope) (path : Option (List ℕ)) (request : Request) → request.code.0 ≡ 1 → (apply_at root tree scope path request).tree ≡ tree
read_at root tree scope None request e = refl
read_at root tree scope (Some path) request e =
    refused tree (refusal root tree scope path request) _ (performed tree path (method_of request.code) request (get_of_code request.code e))

pub get_reads : (root : Option (List ℕ)) (tree : Tree) (scope : Scope) (request : Request) → request.code.0 ≡ 1 → (apply root tree scope request).tree ≡ tree
unfolding apply
get_reads root tree scope request e = read_at root tree scope request.path request e
