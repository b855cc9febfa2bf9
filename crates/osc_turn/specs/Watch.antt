-- What a watch tells.
use Rattle.std.specs.Prelude.{◌++◌, ◌∷◌, List, [], Option, option_map}
use Rattle.osc_turn.specs.declared.watch.Reading.{Reading}

-- one reading more, after those that were told, where contracts see any
abbrev pub one_more : Option (List Reading) → Reading → Option (List Reading)
one_more told reading = option_map (λ readings. readings ++ reading ∷ []) told
