-- Definitions that the contracts cite.
pub mod Values
pub mod Keys
pub mod Document
pub mod Settings
pub mod Faults
pub mod Inner
pub use Document.{IsAlgorithmAt, IsBooleanAt, IsLeftOut, IsLineOf, IsPortAt, IsSecondsAt, ListedAt, MayBeSecondsAt, MaySpellAt, SpelledAt, StandForEach, StandsFor, line_at, other_key}
pub use Faults.{IsArrayAt, IsClientFault, IsFaultAt, IsFaultOfProxy, IsFirstFault, IsItemFault, IsKeyFault, IsOriginFault, IsOther, IsProxyFault, IsRevokedIdsFault, IsServerFault, IsStoreDiskFault, IsTargetFault, IsTextAt, IsWrongAt, Lacks}
pub use Keys.{form_of, name_of}
pub use Settings.{AreAddressTexts, AreAddresses, AreAddressesAt, AreClientSettings, AreProxySettings, AreResources, AreResourcesAt, AreRevokedIds, AreRevokedIdsAt, AreServerSettings, IsAddressText, IsAlone, IsContentOf, IsFormatOf, IsOrigin, IsOriginPort, IsPathOf, IsPathText, IsResource, IsResourceTable, IsRevokedId, IsSalt, IsStoreDisk, IsSubtrees, IsTarget, IsTargetTable, IsWhole, client_keys, proxy_keys, server_keys, target_keys}
pub use Values.{IsAddress, IsAddressFrom, IsAlgorithm, IsFileName, IsHost, IsIdBelow, IsOpenAddress, IsPort, IsRevocationPath, IsSeconds, IsV4AddressFrom, IsV6AddressFrom, SpellsBytes, SpellsHex, v6_peer}
