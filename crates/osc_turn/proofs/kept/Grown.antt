-- What a port tells, and more.
use Rattle.std.proofs.Common.{◌≡◌, ◌++◌, ◌∙◌, List, [], Option, Some, None, refl, sym, ap, append-nil, append_assoc}
use Rattle.osc_turn.specs.{grown}

pub grown_none : {A : Type 0} (told : Option (List A)) → told ≡ grown told []
grown_none None = refl
grown_none (Some items) = ap Some (sym (append-nil items))

grown_both : {A : Type 0} (told : Option (List A)) (some more : List A) → grown (grown told some) more ≡ grown told (some ++ more)
grown_both None some more = refl
grown_both (Some items) some more = ap Some (append_assoc items some more)

-- one after the other
pub grown_more : {A : Type 0} (first between last : Option (List A)) (some more : List A) → between ≡ grown first some → last ≡ grown between more
    → last ≡ grown first (some ++ more)
grown_more first between last some more e d = d ∙ ap (λ told. grown told more) e ∙ grown_both first some more
