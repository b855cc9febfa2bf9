-- Why settings are none, as it is told.
use Rattle.std.proofs.Common.{inl, ◌≡◌, ◌≢◌, ◌∙◌, sym, subst, ℕ, List, Option, Some, None, IfSome}
use Rattle.toml.specs.Data.{Members}
use Rattle.osc_words.specs.declared.settings.error.SettingsError.{SettingsError}
use Rattle.osc_words.specs.declared.settings.error.SettingsError.TheVariants.{Memory}
use Rattle.osc_log.specs.{Told, Writes}
use Rattle.osc_programs.specs.{IsUnreadText, IsWhy, TellsWhy}
use Rattle.osc_programs.specs.declared.ended.Ended.{Ended}
use Rattle.osc_programs.specs.declared.ended.Ended.TheVariants.{BadSettings, OutOfMemory}

if_some : (o : Option (List ℕ)) (P Q : List ℕ → Type 0) → ((x : List ℕ) → P x → Q x) → IfSome o P → IfSome o Q
if_some (Some x) P Q h p = h x p
if_some None P Q h p = p

bad_is_no_want : BadSettings ≢ OutOfMemory
bad_is_no_want e = cc

-- the bytes that were read, where they are known, are no settings for the reason that is told
pub tells_why : (Is : Members → SettingsError → Type 0) (remaining : Option (List ℕ)) (bytes : List ℕ) (why : SettingsError) (ended : Ended) (old new : Told)
    → IfSome remaining (λ known. bytes ≡ known) → IsWhy Is bytes why → (why ≡ Memory → ended ≡ OutOfMemory)
    → (ended ≡ BadSettings → (text : List ℕ) × IsUnreadText old.form why text × Writes old new text) → ended ≡ BadSettings → TellsWhy Is remaining old new
tells_why Is remaining bytes why ended old new all is memory told bad =
    let it = told bad in inl (record {
      why = why;
      is_why = if_some remaining (λ known. bytes ≡ known) (λ known. IsWhy Is known why) (λ known same. subst (λ b. IsWhy Is b why) same is) all;
      no_want = λ want. bad_is_no_want (sym bad ∙ memory want);
      text = it.0;
      is_text = it.1;
      tells = it.2;
    })
