use Rattle.std.proofs.Common.{◌∙◌, inl, inr, refl}
use Rattle.osc_programs.proofs.Stored.{kept_serving, kept_stored, kept_without}
use Rattle.osc_programs.proofs.running.serve_by.Goals as goal

pub returns-in-None : goal.returns-in-None
returns-in-None g c = record {
  served = elim c.serve_from_settings.ensures.served [
    | inl none ↦ inl (none, refl)
    | inr told ↦ inr (
      _,
      told.0,
      told.1,
      told.2,
      told.3,
      told.4,
      kept_without (g.R.Stores.holds c.args.runtime.now) g.R.Keeper.KeepsSteps.file g.R.Keeper.KeepsSteps.keeps g.R.Keeper.KeepsSteps.may_hold g.R.Keeper.KeepsSteps.trusted g.R.Keeper.KeepsSteps.faults
          g.R.Keeper.KeepsSteps.too_long _ _ _ _ _ _ _ c.in-None.is refl,
    )
  ];
  ends = kept_serving c.serve_from_settings.result c.serve_from_settings.ensures.ends;
}

pub returns-in-Ok-clause-served : goal.returns-in-Ok-clause-served
returns-in-Ok-clause-served g c =
    let name = c.in-Ok.ensures.ok ∙ c.as_str.ensures.text in
    elim c.serve_from_store.ensures.served [
      | inl none ↦ inl none
      | inr told ↦ inr (
        told.0,
        told.1,
        told.2,
        told.3,
        told.4,
        told.5,
        kept_stored (g.R.Stores.holds c.args.runtime.now) g.R.Keeper.KeepsSteps.file g.R.Keeper.KeepsSteps.keeps g.R.Keeper.KeepsSteps.may_hold g.R.Keeper.KeepsSteps.trusted g.R.Keeper.KeepsSteps.faults
            g.R.Keeper.KeepsSteps.too_long _ _ _ _ _ _ _ _ _ _ c.in-Some.is name told.7 told.6,
      )
    ]
