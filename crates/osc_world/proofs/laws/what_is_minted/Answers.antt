use Rattle.std.proofs.Common.{sym, ap, subst, List}
use Rattle.osc_cbor.specs.{spelling}
use Rattle.osc_token.specs.{claims_item}
use Rattle.osc_run.specs.{IsMinted, Minted}
use Rattle.osc_world.specs.{Beginning, State}
use Rattle.osc_world.proofs.Minting.{last_is_minted, more_is_minted}
use Rattle.osc_world.proofs.laws.what_is_minted.Goals as goal

pub returns-clause-enrolled : goal.returns-clause-enrolled
returns-clause-enrolled g c = λ old new holder enrols.
    subst (λ (minted : List Minted). IsMinted minted (spelling (claims_item holder.claims))) (sym (ap (λ (b : Beginning). b.minted) enrols.is))
    (last_is_minted old.minted enrols.minted (spelling (claims_item holder.claims)) (ap (λ (m : Minted). m.text) enrols.enrolled.granted))

pub returns-clause-more : goal.returns-clause-more
returns-clause-more g c = λ old new holder text enrols minted.
    subst (λ (all : List Minted). IsMinted all text) (sym (ap (λ (b : Beginning). b.minted) enrols.is)) (more_is_minted old.minted enrols.minted text minted)

pub returns-clause-stays : goal.returns-clause-stays
returns-clause-stays g c = λ old new event happens. ap (λ (w : State). w.minted) happens.is
