-- Resources that are put one after the other: the tree of all, and whether all fit.
use Rattle.std.proofs.Common.{◌≡◌, ℕ, ◌<◌, ◌⊎◌, List, [], ◌∷◌, length, get_or, drop, drop-cons, add-one, suc, ◌+◌, refl, sym, ap, ◌∙◌, subst, inl, inr}
use Rattle.std.specs.FinMap as map
use Rattle.osc_model.specs.Tree.{Tree}
use Rattle.osc_c.specs.First.{FitAll, FitsFirst, IsUnfitOrWants, with_all, with_first}
use Rattle.osc_c.specs.declared.calls.outcome.Outcome.{Outcome}
use Rattle.osc_c.specs.declared.calls.plain.PlainResource.{PlainResource}

-- What is put so far and what is yet to be put make the tree of all, and what is yet to be put fits just where all does.
pub record Goes (all : List PlainResource) (i : ℕ) (tree : Tree) : Type 0 where
  pub whole : with_all tree (drop i all) ≡ with_all map.empty all
  pub fits : FitAll tree (drop i all) → FitAll map.empty all
  pub only : FitAll map.empty all → FitAll tree (drop i all)

module _ (all : List PlainResource) (i : ℕ) (given : PlainResource) (tree : Tree) (within : i < length all) (is : given ≡ get_or all i given) (so_far : Goes all i tree) where
  parts : drop i all ≡ given ∷ drop (i + 1) all
  parts = rw (add-one, drop-cons all i given within) (ap (λ h. h ∷ drop (suc i) all) (sym is))

  pub goes_on : (new : Tree) → FitsFirst tree given → new ≡ with_first tree given → Goes all (i + 1) new
  goes_on new fit now = record {
    whole = ap (λ t. with_all t (drop (i + 1) all)) now ∙ sym (ap (λ rest. with_all tree rest) parts) ∙ so_far.whole;
    fits = (λ rest. so_far.fits (subst (λ those. FitAll tree those) (sym parts) (fit, subst (λ t. FitAll t (drop (i + 1) all)) now rest)));
    only = (λ whole. subst (λ t. FitAll t (drop (i + 1) all)) (sym now) (subst (λ those. FitAll tree those) parts (so_far.only whole)).1);
  }

  pub stops : (outcome : Outcome) → IsUnfitOrWants (FitsFirst tree given) outcome → IsUnfitOrWants (FitAll map.empty all) outcome
  stops outcome (inl why) = inl (why.0, (λ whole. why.1 (subst (λ those. FitAll tree those) parts (so_far.only whole)).0))
  stops outcome (inr none) = inr none

pub begins : (all : List PlainResource) → Goes all 0 map.empty
begins all = record { whole = refl; fits = (λ those. those); only = (λ those. those) }
