use Rattle.std.proofs.Common.{◌≡◌, refl, sym, subst, take, ◌+◌, ◌++◌, ◌∷◌, []}
use Rattle.osc_diagram.specs.Scenes.{Place, PlayAll}
use Rattle.osc_diagram.proofs.Playing.{one_scene_more, take_item}
use Rattle.osc_diagram.proofs.play.play_all.Goals as goal

pub loop-line-init : goal.loop-line-init
loop-line-init c = (c.new-scenes.ensures.items, refl)

pub loop-line-preserved : goal.loop-line-preserved
loop-line-preserved c =
    let here = c.loop-line in
    let lines = c.args.lines.now in
    let first : Place = record { stage = c.args.stage.now; lost = c.args.lost.now.items } in
    let between : Place = record { stage = here.stage; lost = here.lost.items } in
    let last : Place = record { stage = c.play.new.stage; lost = c.play.new.lost.items } in
    let same : take (here.line-index + 1) lines ≡ take here.line-index lines ++ c.line-item.result ∷ [] =
    take_item lines here.line-index _ c.line-item.result c.loop-line-test.true c.line-item.is in
    subst (λ scenes. PlayAll c.args.names.now first (take (here.line-index + 1) lines) scenes last) (sym c.in_ok-push.ensures.items)
    (subst (λ done. PlayAll c.args.names.now first done (here.scenes.items ++ c.in_ok-scene.scene ∷ []) last) (sym same)
    (one_scene_more c.args.names.now (take here.line-index lines) c.line-item.result first between last here.scenes.items c.in_ok-scene.scene here.invariant c.in_ok-scene.ensures))
