-- The last answers that a table keeps.
use Rattle.std.specs.Prelude.{◌≡◌, List, Some}
use Rattle.osc_authz.specs.LastAnswer.{LastAnswerState}
use Rattle.osc_authz.specs.Members.{In}
use Rattle.osc_authz.specs.SecurityContext.{SecurityContext}
use Rattle.osc_authz.specs.declared.token_entry.TokenEntry.{TokenEntry}

-- this one is kept with this context, under which a request has opened
pub record Keeps (held : SecurityContext) (last : LastAnswerState) (table : List TokenEntry) : Type 0 where
  pub entry : TokenEntry
  pub among : In entry table
  pub confirmed : entry.confirmed ≡ Some held
  pub answer : entry.last ≡ Some last
