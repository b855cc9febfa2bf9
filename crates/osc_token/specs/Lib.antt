-- Definitions that the contracts cite.
pub mod Claims
pub mod Token
pub mod Errors
pub mod Minted
pub mod Naming
pub mod Inner
pub use Claims.{AreBound, AreFor, AreInTime, ComesTo, Dated, HasMaterial, HasScope, IsAbsentOr, IsClaims, IsMaterial}
pub use Errors.{token_number}
pub use Minted.{FitTheirTypes, HasLawfulParts, most_claims}
pub use Naming.{IsNameIn, Names, id_in}
pub use Token.{IsToken, alg_field, algorithm_header, claims_item, date, material_item, salt_field, token_name, token_note, token_object, without_cwt_tag}
