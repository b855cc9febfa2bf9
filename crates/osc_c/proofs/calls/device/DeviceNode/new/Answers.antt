-- What is made of these parts and this token; or why `Device::new` makes none of them.
use Rattle.std.proofs.Common.{◌≡◌, IfErr, List, Result, inl, inr, subst, sym, ℕ}
use Rattle.std.specs.FinMap as map
use Rattle.std.specs.Prelude.{IsErrAnd}
use Rattle.std.specs.declared.result.Result.TheVariants.{Err, Ok}
use Rattle.osc_c.specs.{AreParts, FitsDevice, GivenDevice, IsNoNewDevice, device_given}
use Rattle.osc_model.specs.Tree.{Tree}
use Rattle.osc_c.specs.First.{FitAll, IsUnfitOrWants, with_all}
use Rattle.osc_c.specs.Inner.Reading.{IsUnread}
use Rattle.osc_c.specs.Making.{HasNoScope}
use Rattle.osc_c.specs.declared.calls.making.Rules.{Rules}
use Rattle.osc_c.specs.declared.calls.outcome.Outcome.{Outcome}
use Rattle.osc_c.specs.declared.calls.plain.PlainResource.{PlainResource}
use Rattle.osc_c.proofs.calls.device.DeviceNode.new.Goals as goal

module _ (given : GivenDevice) (first : List PlainResource) (draw : List ℕ) where
  -- a text of a scope says none, or there was no memory to tell that
  unread : (Why : Type 0) (outcome : Outcome) → FitsDevice given → (Why → HasNoScope given) → IsUnread Why outcome → IsNoNewDevice given first draw outcome
  unread Why outcome fits has (inl why) = inr (inr (inl (why.0, fits, has why.1)))
  unread Why outcome fits has (inr none) = inl (inr (none, fits))

  unfit : (outcome : Outcome) → FitsDevice given → IsUnfitOrWants (FitAll map.empty first) outcome → IsNoNewDevice given first draw outcome
  unfit outcome fits (inl why) = inr (inl (why.0, fits, why.1))
  unfit outcome fits (inr none) = inl (inr (none, fits))

  refused : {T : Type 0} (made : Result T Outcome) (outcome : Outcome) → IsErrAnd made (λ e. e ≡ outcome) → IsNoNewDevice given first draw outcome → IfErr made (IsNoNewDevice given first draw)
  refused (Ok node) outcome is why = tt
  refused (Err e) outcome is why = subst (IsNoNewDevice given first draw) (sym is) why

pub returns-in-Ok-clause-ok : goal.returns-in-Ok-clause-ok
returns-in-Ok-clause-ok g c =
    record {
      parts = c.in_ok-parts.parts;
      token = c.in_ok-own.own;
      fits = (c.in_ok-sized.ensures.ok, c.in_ok-audience.ensures.ok.1, c.in_ok-rules.ensures.ok.1);
      fit_all = c.in_ok-tree.ensures.ok.1;
      are_parts = subst (λ (rules : Rules). AreParts (device_given c.args.settings.now) (with_all map.empty c.args.first.now) rules c.in_ok-parts.parts) c.in_ok-rules.ensures.ok.0
          (subst (λ (tree : Tree). AreParts (device_given c.args.settings.now) tree c.in_ok-rules.rules c.in_ok-parts.parts) c.in_ok-tree.ensures.ok.0 c.in_ok-parts.ensures.ok);
      is_token = c.in_ok-own.ensures.ok;
      begun = c.in-Ok.ensures.begun;
      granted = c.in-Ok.ensures.granted;
      last = c.nothing.ensures;
    }

pub returns-in-Err-clause-err : goal.returns-in-Err-clause-err
returns-in-Err-clause-err g c =
    let are = subst (λ (rules : Rules). AreParts (device_given c.args.settings.now) (with_all map.empty c.args.first.now) rules c.in_ok-parts.parts) c.in_ok-rules.ensures.ok.0
    (subst (λ (tree : Tree). AreParts (device_given c.args.settings.now) tree c.in_ok-rules.rules c.in_ok-parts.parts) c.in_ok-tree.ensures.ok.0 c.in_ok-parts.ensures.ok) in
    let fits : FitsDevice (device_given c.args.settings.now) = (c.in_ok-sized.ensures.ok, c.in_ok-audience.ensures.ok.1, c.in_ok-rules.ensures.ok.1) in
    inr (inr (inr (c.in_ok-parts.parts, c.in_ok-own.own, c.in-Err.error, fits, are, c.in_ok-own.ensures.ok, c.in-Err.ensures.refused, c.refused.ensures)))

pub returns-in_err-parts-clause-err : goal.returns-in_err-parts-clause-err
returns-in_err-parts-clause-err g c =
    let given = device_given c.args.settings.now in
    let fits : FitsDevice given = (c.in_ok-sized.ensures.ok, c.in_ok-audience.ensures.ok.1, c.in_ok-rules.ensures.ok.1) in
    refused given c.args.first.now c.args.draw.now.bytes c.from_residual-in_err-parts.result c.in_err-parts.field-0.0 c.from_residual-in_err-parts.ensures.1
    (unread given c.args.first.now c.args.draw.now.bytes _ _ fits (λ free. inl free) c.in_err-parts.ensures.err)

pub returns-in_err-own-clause-err : goal.returns-in_err-own-clause-err
returns-in_err-own-clause-err g c =
    let given = device_given c.args.settings.now in
    let fits : FitsDevice given = (c.in_ok-sized.ensures.ok, c.in_ok-audience.ensures.ok.1, c.in_ok-rules.ensures.ok.1) in
    refused given c.args.first.now c.args.draw.now.bytes c.from_residual-in_err-own.result c.in_err-own.field-0.0 c.from_residual-in_err-own.ensures.1
    (unread given c.args.first.now c.args.draw.now.bytes _ _ fits (λ own. inr own) c.in_err-own.ensures.err)

pub returns-in_err-tree-clause-err : goal.returns-in_err-tree-clause-err
returns-in_err-tree-clause-err g c =
    let given = device_given c.args.settings.now in
    let fits : FitsDevice given = (c.in_ok-sized.ensures.ok, c.in_ok-audience.ensures.ok.1, c.in_ok-rules.ensures.ok.1) in
    refused given c.args.first.now c.args.draw.now.bytes c.from_residual-in_err-tree.result c.in_err-tree.field-0.0 c.from_residual-in_err-tree.ensures.1
    (unfit given c.args.first.now c.args.draw.now.bytes _ fits c.in_err-tree.ensures.err)
