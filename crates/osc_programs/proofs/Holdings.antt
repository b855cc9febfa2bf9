-- How many security contexts a server has.
use Rattle.std.proofs.Common.{◌≡◌, ◌∙◌, ℕ, List, ap}
use Rattle.osc_authz.specs.declared.token_entry.TokenEntry.{TokenEntry}
use Rattle.osc_programs.specs.Holding.{contexts_of, taken_below}

pub all_counted : (count id : ℕ) (table : List TokenEntry) → count ≡ taken_below id table → id ≡ 256 → count ≡ contexts_of table
all_counted count id table e f = e ∙ ap (λ (n : ℕ). taken_below n table) f
