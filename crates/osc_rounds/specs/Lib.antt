-- Definitions that the contracts cite.
pub mod Welcome
pub mod Ready
pub mod Coming
pub mod Asked
pub mod AskRound
pub mod ForProxy
pub mod AskRoundThrough
pub mod ExchangeRound
pub mod Agreement
pub mod ProxiedExchange
pub mod Loss
pub mod LossClaim
pub mod RoundNotes
pub mod ExchangeRoundThrough
pub use Agreement.{AwaitsAgreement, AwaitsPost, BegunExchange, IsAgreedTo, MakesContexts, agreement, body_of, posted}
pub use AskRound.{IsAskedAndAnswered, IsLawfulServer, IsServedAndAnswered, StraightRequest, asked_text}
pub use AskRoundThrough.{IsAnsweredAndEnds, IsAskedAndServedThrough, IsBroughtBackAndAnswered, IsPassedOnAndServed, IsServedAndBroughtBack, IsSettledAndServed, OnItsWay, forwarded_on, id_back, passage_of}
pub use Asked.{AnsweredRequest, AreForServer, AwaitsReply, AwaitsRequest, CarriesReply, ComesBack, HasServed, IsAnswered, IsAnsweredWith, IsForServer, IsServed, OpenedRequest, a_uri_host, in_acknowledgement, in_confirmable, nothing, with_acknowledgement}
pub use Coming.{coming, in_bytes}
pub use ExchangeRound.{IsAgreedAndMade, IsBegunAndMade, IsHeld, IsMade, StraightPost}
pub use ExchangeRoundThrough.{IsAgreedAndBroughtBack, IsBroughtBackAndMade, IsMadeAndEnds, IsPassedOnAndAgreed, IsPostedAndAgreedThrough, IsSettledAndAgreed, PostOnItsWay, forwarded_post, post_id_back, post_passage}
pub use ForProxy.{IsForProxy}
pub use ProxiedExchange.{IsAgreedAndMadeThrough, IsBegunAndMadeThrough, IsMadeThrough, IsPostedThrough, MayExchangeThrough, Posted, at_server, claims_text}
pub use Loss.{AreAddressed, AreWithin, AtClient, AtServer, ClientTick, Ends, Event, Given, Goes, Happening, Happens, IsWithin, LivesAtFirst, LivesBy, IsEventWithin, OnTheRoad, Route, ServerTick, route_of}
pub use LossClaim.{IsAskedOverLoss, IsServedOverLoss, entries_of}
pub use Ready.{Hops, IsStraight, IsThrough, MayAsk, MayExchange}
pub use RoundNotes.{AreAmongQuiet, AreNotesOfAgreement, AreNotesOfExchange, AreNotesOfRequest, Draws}
pub use Welcome.{IsWelcomeUnder, with_key}
