-- A test that says whether a line may follow, for a line that is of a known kind.
use Rattle.std.proofs.Common.{◌≡◌, Bool, true, false, List, not, refl, sym, ◌∙◌}
use Rattle.std.specs.Prelude.{IsTrue, ◌↔◌}
use Rattle.osc_script.specs.declared.line.Line.{Line}
use Rattle.osc_script.specs.{MayFollow}

-- the same for the line itself
pub lets_as : (above : List Line) (line kind : Line) (test : Bool) → line ≡ kind → (IsTrue test ↔ MayFollow above kind) → (IsTrue test ↔ MayFollow above line)
lets_as above line kind test is e = rw is e

-- a test that is a fact's
pub lets_is : (test fact : Bool) → test ≡ fact → (IsTrue test ↔ (fact ≡ true))
lets_is test fact e = (λ t. sym e ∙ t, λ f. e ∙ f)

-- nothing is granted before, and no event was
pub lets_grant : (has_event granted event_above grant_above : Bool) → not has_event ≡ true → has_event ≡ event_above → granted ≡ grant_above
    → (IsTrue (not granted) ↔ (event_above ≡ false) × (grant_above ≡ false))
lets_grant true granted event_above grant_above none e g = absurd cc
lets_grant false true event_above grant_above none e g = (λ t. absurd cc, λ p. let no : true ≡ false = g ∙ p.1 in absurd cc)
lets_grant false false event_above grant_above none e g = (λ t. (sym e, sym g), λ p. refl)
