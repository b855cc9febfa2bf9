pub mod Shown
pub mod Values
pub mod Words
pub mod Node
pub mod Line
pub mod Grants
pub mod Script
pub mod Forms
pub mod Inner
pub use Grants.{claims_of, iv_of, token_key}
pub use Line.{IsSkipped, MayFollow, Say, Says, SpellRequest, StandsFor, grants, is_event, is_put, is_revocation, last_number, makes, moment_after, moment_behind, most_revocation_segments, plain_request, routes}
pub use Node.{address_of, client_name, local, name_of, proxy_name}
pub use Script.{IsFirstBad, IsFirstBadIn, IsScript, StandFor, lines_of, without_empty_last}
pub use Shown.{shown}
pub use Values.{Reads, SpellsHex, SpellsHexWithin, SpellsMethod, SpellsNumber, SpellsScope, SpellsShortNumber}
pub use Words.{SpellChanges, SpellParts, SpellsAlgorithm, SpellsBytes, SpellsDate, SpellsFormat, SpellsKept, SpellsPairs, SpellsRepeated, most_kept, words_of}
