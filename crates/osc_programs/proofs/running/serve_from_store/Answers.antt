use Rattle.std.proofs.Common.{◌∙◌, List, Some, ap, inl, inr, refl, subst₂, ℕ}
use Rattle.osc_words.specs.declared.settings.resource.ResourceSetting.{ResourceSetting}
use Rattle.osc_programs.proofs.Stored.{kept_serving, no_store_no_server, no_store_serving}
use Rattle.osc_programs.proofs.running.serve_from_store.Goals as goal

pub returns-in-Ok : goal.returns-in-Ok
returns-in-Ok g c =
    let stored = c.in-Ok.stored in
    let told = c.serve_stored-ended.ensures.lives in
    let left = told.5 c.in-Ok.ensures.kept in
    record {
      served = inr (
        stored.1,
        told.0,
        told.1,
        told.2,
        told.3,
        told.4,
        record {
          opened = stored.0;
          begun = subst₂ (λ (file : List ℕ) (first : List ResourceSetting). g.R.Stores.holds c.args.runtime.now c.args.settings.store_disk file first stored.0 stored.1) c.as_str.ensures.value
              c.deref.ensures.value c.in-Ok.ensures.opened;
          is_file = c.serve_stored-ended.ensures.file ∙ (c.in-Ok.ensures.file ∙ ap Some c.as_str.ensures.value);
          kept = left.0;
          cause = left.1;
        },
        refl,
      );
      ends = kept_serving c.serve_stored-ended.result.0 c.serve_stored-ended.ensures.ends;
    }

pub returns-in-Err : goal.returns-in-Err
returns-in-Err g c = record {
  served = inl (no_store_no_server c.in-Err.ended c.in-Err.ensures.ends, refl);
  ends = no_store_serving c.in-Err.ended c.in-Err.ensures.ends;
}
