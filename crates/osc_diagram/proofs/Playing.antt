-- Scenes of lines, one after another.
use Rattle.std.proofs.Common.{◌≡◌, ap, refl, subst, ℕ, ◌+◌, ◌<◌, List, [], ◌∷◌, ◌++◌, add-one, get_or, length, take}
use Rattle.std.proofs.Math.Seq.{take-suc}
use Rattle.osc_script.specs.declared.line.Line.{Line}
use Rattle.osc_simulation.specs.Names.{Names}
use Rattle.osc_diagram.specs.Scenes.{Place, PlayAll, Plays}
use Rattle.osc_diagram.specs.declared.scene.Scene.{Scene}

-- one line more
pub one_scene_more : (names : Names) (lines : List Line) (said : Line) (first between last : Place) (scenes : List Scene) (scene : Scene)
    → PlayAll names first lines scenes between → Plays names between said scene last → PlayAll names first (lines ++ said ∷ []) (scenes ++ scene ∷ []) last
one_scene_more names [] said first between last scenes scene so_far plays =
    (scene, [], last, subst (λ place. Plays names place said scene last) so_far.1 plays, (refl, refl), ap (λ all. all ++ scene ∷ []) so_far.0)
one_scene_more names (x ∷ xs) said first between last scenes scene so_far plays = (
  so_far.0,
  so_far.1 ++ scene ∷ [],
  so_far.2,
  so_far.3,
  one_scene_more names xs said so_far.2 between last so_far.1 scene so_far.4 plays,
  ap (λ all. all ++ scene ∷ []) so_far.5,
)

-- up to the next item
pub take_item : {A : Type 0} (xs : List A) (i : ℕ) (d x : A) → i < length xs → x ≡ get_or xs i d → take (i + 1) xs ≡ take i xs ++ x ∷ []
take_item xs i d x lt e = rw (add-one i, take-suc xs i d lt, e) refl
