-- Definitions that the contracts cite.
pub mod Outcome
pub mod Plain
pub mod Given
pub mod Arguments
pub mod Filling
pub mod Filled
pub mod Last
pub mod Ends
pub mod Granted
pub mod Requests
pub mod Results
pub mod Client
pub mod Settings
pub mod Proxy
pub mod Tokens
pub mod Told
pub mod Device
pub mod Own
pub mod Keeping
pub mod Changes
pub mod First
pub mod Values
pub mod Making
pub mod Serving
pub mod Nodes
pub mod Held
pub mod Ciphers
pub mod Calls
pub mod Minting
pub mod Inner
pub use Arguments.{IsUnfit}
pub use Calls.{Makes, Tells}
pub use Ciphers.{sealing, tags}
pub use Client.{AskedBy, IsFresh, IsNewClient}
pub use Device.{HeardAt, UnlessNowhere}
pub use Ends.{At}
pub use Given.{GivenDatagram, GivenDevice, GivenGrant, GivenRequest, GivenRules, GivenValue, came_at, claims_given, device_given, grant_given, request_given, rules_given, value_given}
pub use Granted.{FitsClient}
pub use Held.{holds}
pub use Last.{LastStep, nothing, since_own}
pub use Making.{AreParts, FitsDevice, IsNewDevice, IsNoNewDevice, IsOwnToken, rules_of}
pub use Nodes.{ClientType, DeviceType, ProxyType}
pub use Outcome.{number_of}
pub use Own.{Asks, AsksBy, ComesAs, ComesTo, IsBegun, IsSoWhereDone, IsRefusal, Writing, are_revoked, asked_for, is_refused_by, is_so, last_after, revoked_by}
pub use Plain.{draw_of, peer_of}
pub use Told.{begun_as, learnt_as, refused_as, settled, told_by, told_of}
