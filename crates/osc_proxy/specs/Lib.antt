-- Definitions that the contracts cite.
pub mod ProxyUri
pub mod Targets
pub mod Route
pub mod Forwarding
pub mod Exchanges
pub mod Case
pub mod State
pub mod Passage
pub mod Ends
pub mod Own
pub mod Table
pub mod Ticks
pub mod Hearing
pub mod Steps
pub mod ThereAndBack
pub mod Inner
pub use Case.{IsNewAnswered, case_of, ended_by}
pub use Ends.{EachHasItsExchange, has_exchange, is_its, is_of_over, is_request, without, without_over}
pub use Exchanges.{Changes, HasOwnTokens, answers, count, entries, first_key, free_key, get, is_in_place, is_named, is_overdue, none_open}
pub use Forwarding.{answer, forwarded, forwarded_options, forwarded_token, has_proxy_uri, is_taken_out}
pub use Hearing.{Hears}
pub use Own.{goes_now, has_room, kind_of, sends_own, with_own}
pub use ProxyUri.{HostAndPort, IsHost, IsPort, IsProxyUri, Reads, decimal, is_digit, is_host_byte, path_spelling, port_named, port_spelling}
pub use Route.{Names, NamesBy, by_scheme, port_in}
pub use State.{restarted}
pub use Steps.{IsStep, most_sent}
pub use Table.{Answers, AnswersMessage, AnswersNew, Counts, FitsBy, ForwardsBy, IsAnswered, IsForwarded, IsRefused, Settles, answer_for, answer_to, back_kept, back_sends, bad_gateway, counted, exchange_of, failure, forwarded_by, has_way_back, kept_on, key_for, named, next_own, taken_up}
pub use Targets.{peer_of}
pub use ThereAndBack.{CanSendTo, GoesBack, GoesThereAndBack, IsAnswerTo, IsAtRest, IsBroughtBack, IsCarried, IsLawfulProxy, IsPassedOn, TakesUp, acknowledged_at, answer_by, answer_id, answered_at, datagram_of, heard_with}
pub use Ticks.{AllEnd, AreOfExchanges, IsOfExchange, acts, any_overdue, is_given_up, is_over, timed_out, timeout, without_its, without_over_in}
