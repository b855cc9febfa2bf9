-- A server to which nothing else comes before the first copy does: it is then as it was.
use Rattle.std.specs.Prelude.{List, [], ◌∷◌}
use Rattle.osc_model.specs.declared.node.Draw.{Draw}
use Rattle.osc_model.specs.declared.node.Moment.{Moment}
use Rattle.osc_loss.specs.Road.{AtServer, Event, Happening, OtherAtServer}

-- nothing else comes to the server before the first copy
abbrev pub IsAloneBy : Event → Type 0 → Type 0
IsAloneBy (AtServer now draw sent) later = Unit {0}
IsAloneBy (OtherAtServer came) later = ⊥
IsAloneBy event later = later

abbrev pub IsAlone : List Happening → Type 0
IsAlone [] = Unit {0}
IsAlone (happening ∷ later) = IsAloneBy happening.event (IsAlone later)

-- this is so of the moment and the draw of the first copy, if one comes
abbrev pub IsAtFirstBy : (Moment → Draw → Type 0) → Event → Type 0 → Type 0
IsAtFirstBy Is (AtServer now draw sent) later = Is now draw
IsAtFirstBy Is event later = later

abbrev pub IsAtFirst : (Moment → Draw → Type 0) → List Happening → Type 0
IsAtFirst Is [] = Unit {0}
IsAtFirst Is (happening ∷ later) = IsAtFirstBy Is happening.event (IsAtFirst Is later)
