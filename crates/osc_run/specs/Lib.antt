-- Definitions that the contracts cite.
pub mod Notes
pub mod States
pub mod Seals
pub mod ServerKinds
pub mod ClientKinds
pub mod ProxyKinds
pub mod Runs
pub mod Nodes
pub mod Premise
pub mod History
pub mod Ages
pub mod OneHistory
pub mod OwnNonces
pub use Ages.{AreNext, AreYoung, IsYoung}
pub use ClientKinds.{Answered, Asked, ClientIdle, ClientRestarted, ClientStep, Ended, IsAnswered, IsAsked, IsEnding, IsMade, IsRaised, IsSkipped, IsStarted, Lied, Made, Started, request_note, response_note}
pub use History.{Acceptance, acceptance_in, acceptances, history, question_in, questions}
pub use Nodes.{Came, Cause, Due, moment_of}
pub use Notes.{Actor, ByClient, ByProxy, ByServer, Kept, Noted, by_client, by_proxy, by_server, collected}
pub use OneHistory.{AreUnrevoked, IsReplyOfRequest, IsUnrevoked}
pub use OwnNonces.{HasKeyAndNonceOf, HasOwnNonces, IsSealed}
pub use Premise.{HasFreshDraws, HasOwnSecrets, IsDrawn, IsGenuine, IsGenuineOpening, IsMinted, IsOfToken, IsVouched}
pub use ProxyKinds.{ProxyStep}
pub use Runs.{Holds, IsNewClient, IsReached, IsRun, IsStart, IsTextOf, OfClient, OfProxy, OfServer, Skipped, WorldStep}
pub use Seals.{IsOpenOf, IsSealOf}
pub use ServerKinds.{Applied, IsPosted, IsServed, IsServerIdle, OutOfMemory, Posted, Replies, Served, ServerIdle, ServerRestarted, ServerStep, opening_note, reply_note, standing}
pub use States.{Ask, ClientState, Exchange, Minted, Nothing, OpenAsk, Outstanding, ServerState, WorldState, grants_of}
