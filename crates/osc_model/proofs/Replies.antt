-- The codes of the machine's replies: of class 2 to 5, and never 5.00.
use Rattle.std.proofs.Common.{◌≡◌, ℕ, Bool, true, false, ◌==◌, ◌≤◌, ◌<◌, nat_le, nat_lt, ◌&&◌, not, leb-true, ltb-true, if◌then◌else◌, List, [], ◌∷◌, Option, Some, None, refl}
use Rattle.std.specs.List.{AllByRecursion}
use Rattle.std.specs.FinMap as map
use Rattle.std.proofs.lemmas.Bool.{and_parts}
use Rattle.osc_model.specs.{code, method_of, checks, first_failing, refusal, written, Outcome, read, write, perform, refused_or, apply_at, apply}
use Rattle.osc_model.specs.Tree.{Tree}
use Rattle.osc_model.specs.Scope.{Scope}
use Rattle.osc_model.specs.declared.code.Code.{Code}
use Rattle.osc_model.specs.declared.code.Method.{Method}
use Rattle.osc_model.specs.declared.code.Method.TheVariants.{Get, Post, Put, Delete}
use Rattle.osc_model.specs.declared.request.Request.{Request}
use Rattle.osc_model.specs.declared.resource.Resource.{Resource}

-- 2.00 to 5.31, but not 5.00
abbrev pub is_answer : ℕ → Bool
is_answer code = nat_le 64 code && nat_lt code 192 && not (code == 160)

abbrev pub Answers : Outcome → Type 0
Answers outcome = is_answer outcome.reply.code.0 ≡ true

refused : (tree : Tree) (rows : List (Bool × Code)) (otherwise : Outcome) → AllByRecursion (λ row. is_answer row.1.0 ≡ true) rows → Answers otherwise → Answers (refused_or tree (first_failing rows) otherwise)
refused tree [] otherwise all other = other
refused tree (row ∷ rows) otherwise all other =
    elim row.0 as (λ b. Answers (refused_or tree (if b then first_failing rows else Some row.1) otherwise)) [
      | true ↦ refused tree rows otherwise all.1 other
      | false ↦ all.0
    ]

read_answers : (tree : Tree) (found : Option Resource) → Answers (read tree found)
read_answers tree None = refl
read_answers tree (Some resource) = refl

write_answers : (tree : Tree) (path : List ℕ) (new : Option Resource) → Answers (write tree path new)
write_answers tree path None = refl
write_answers tree path (Some resource) = elim (map.contains_key tree path) as (λ b. is_answer (if b then code 2 4 else code 2 1).0 ≡ true) [ true ↦ refl | false ↦ refl ]

perform_answers : (tree : Tree) (path : List ℕ) (method : Option Method) (request : Request) → Answers (perform tree path method request)
perform_answers tree path None request = write_answers tree path (written None (map.get tree path) request)
perform_answers tree path (Some Get) request = read_answers tree (map.get tree path)
perform_answers tree path (Some Post) request = write_answers tree path (written (Some Post) (map.get tree path) request)
perform_answers tree path (Some Put) request = write_answers tree path (written (Some Put) (map.get tree path) request)
perform_answers tree path (Some Delete) request = refl

at_answers : (root : Option (List ℕ)) (tree : Tree) (scope : Scope) (path : Option (List ℕ)) (request : Request) → Answers (apply_at root tree scope path request)
unfolding refusal
at_answers root tree scope None request = refl
at_answers root tree scope (Some path) request =
    refused tree (checks root tree scope path request) _
    (refl, (refl, (refl, (refl, (refl, (refl, (refl, (refl, tt))))))))
    (perform_answers tree path (method_of request.code) request)

answers : (root : Option (List ℕ)) (tree : Tree) (scope : Scope) (request : Request) → Answers (apply root tree scope request)
unfolding apply
answers root tree scope request = at_answers root tree scope request.path request

not_true : (b : Bool) → not b ≡ true → b ≡ false
not_true true e = cc
not_true false e = refl

module _ (root : Option (List ℕ)) (tree : Tree) (scope : Scope) (request : Request) where
  pub at_least : 64 ≤ (apply root tree scope request).reply.code.0
  at_least = leb-true 64 _ (and_parts _ _ (and_parts _ _ (answers root tree scope request)).0).0

  pub at_most : (apply root tree scope request).reply.code.0 < 192
  at_most = ltb-true _ 192 (and_parts _ _ (and_parts _ _ (answers root tree scope request)).0).1

  pub never_out_of_memory : ((apply root tree scope request).reply.code.0 == 160) ≡ false
  never_out_of_memory = not_true _ (and_parts _ _ (answers root tree scope request)).1
