-- What a desk has.
use Rattle.std.specs.Prelude.{ℕ, List, Option}
use Rattle.osc_authz.specs.declared.rules.ContextRules.{ContextRules}
use Rattle.osc_authz.specs.declared.token_entry.TokenEntry.{TokenEntry}

-- the key that it shares with the issuer of tokens, the former key, as long as tokens under that are about, for whom tokens must be, what
-- it rules for its contexts, and these
pub record DeskState : Type 0 where
  pub key : List ℕ
  pub old_key : Option (List ℕ)
  pub audience : List ℕ
  pub rules : ContextRules
  pub table : List TokenEntry
