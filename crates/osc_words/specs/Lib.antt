pub mod Options
pub mod Values
pub mod Sources
pub mod Choices
pub mod Times
pub mod Filled
pub mod TokenWords
pub mod ClientOptions
pub mod ClientWords
pub mod ContextWords
pub mod RequestsWords
pub mod RequestLines
pub mod NamedOptions
pub mod NodeWords
pub mod SimWords
pub mod StoreWords
pub mod Command
pub mod Inner
pub mod Settings
pub use Choices.{AreSome, AsksMany, AsksOne, asks_well, IsNotOne, command_of}
pub use ClientWords.{AreClientWords, AreRequest, IsPayload, SaysPatience, SaysPayload, SpellsMethod}
pub use Command.{AreWords, AsksByMethod, HasNotOne, client_app, client_options, context_app, lab_app, node_app, program, token_options}
pub use ContextWords.{AreContextWords}
pub use Filled.{with_secret}
pub use NamedOptions.{value_of}
pub use Options.{is_set, name_of, option_rule, value_rule}
pub use RequestsWords.{AreRequestsWords}
pub use Sources.{Holds, IsSource, file_of, file_option_of, given_of}
pub use StoreWords.{AreStoreWords}
pub use Times.{IsExpiry, IsPatience}
pub use TokenWords.{AreClaims, AreTokenWords, Says, SaysClaims}
pub use Values.{IsGiven, SpellsTurns}
