-- What a script puts fits into a tree.
use Rattle.std.proofs.Common.{◌≡◌, ◌≤◌, ◌+◌, ℕ, Bool, true, false, cond, List, [], ◌∷◌, ◌++◌, ◌∙◌, ap, count_by, zero-add, length, inl, inr, arith}
use Rattle.std.specs.FinMap as map
use Rattle.std.specs.List.{sum_by}
use Rattle.std.proofs.lemmas.List.Sums.{sum_by-append}
use Rattle.std.specs.Cmp.Lexicographic.{nat_list_cmp_total}
use Rattle.osc_model.specs.{longest_payload, path_cmp}
use Rattle.osc_model.specs.Tree.{Tree}
use Rattle.osc_model.specs.declared.resource.Resource.{Resource}
use Rattle.osc_script.specs.{Says, is_put, StandFor, IsScript, lines_of}
use Rattle.osc_script.specs.declared.line.Line.{Line}
use Rattle.osc_script.specs.declared.line.Line.TheVariants.{Skipped, Put}
use Rattle.osc_simulation.specs.{CanPutAll}

count_put : (above : List Line) (line : Line) → count_by is_put (above ++ line ∷ []) ≡ count_by is_put above + cond (is_put line) 1 0
count_put above line = let count : Line → ℕ = λ l. cond (is_put l) 1 0 in sum_by-append count above (line ∷ []) ∙ ap (λ n. sum_by count above + n) (zero-add (count line))

put_len : (tree : Tree) (path : List ℕ) (resource : Resource) → map.len (map.insert tree path resource) ≤ map.len tree + 1
put_len tree path resource = rw (map.len-insert nat_list_cmp_total tree path resource) (go (map.contains_key tree path))
  where
    go : (t : Bool) → cond t (map.len tree) (map.len tree + 1) ≤ map.len tree + 1
    go true = omega arith
    go false = omega arith

put_short : (text path : List ℕ) (resource : Resource) → Says text (Put path resource) → length resource.payload ≤ longest_payload
put_short text path resource says = elim says.1 [
  | inl skipped ↦ let no : Put path resource ≡ Skipped = skipped.1 in cc
  | inr said ↦ said.1.6
]

puts_fit : (above : List Line) (texts : List (List ℕ)) (lines : List Line) (tree : Tree) → map.len tree ≤ count_by is_put above → StandFor above texts lines → CanPutAll tree lines
puts_fit above texts [] tree h s = tt
puts_fit above [] (line ∷ lines) tree h s = absurd s
puts_fit above (t ∷ ts) (Put path resource ∷ lines) tree h s =
    let count = count_put above (Put path resource) in
    let grown = put_len tree path resource in
    let few = s.0.1.2 in
    ((put_short t path resource s.0.0, omega arith), puts_fit (above ++ Put path resource ∷ []) ts lines (map.insert tree path resource) (omega arith) s.1)
puts_fit above (t ∷ ts) (line ∷ lines) tree h s =
    let count = count_put above line in
    (tt, puts_fit (above ++ line ∷ []) ts lines tree (omega arith) s.1)

pub a_script_fits : (text : List ℕ) (lines : List Line) → IsScript text lines → CanPutAll map.empty lines
a_script_fits text lines says =
    let none : map.len (map.empty {X = Resource} {R = path_cmp}) ≡ 0 = map.len-empty path_cmp Resource in
    puts_fit [] (lines_of text) lines map.empty (omega arith) says
