-- Definitions that the contracts cite.
pub mod Received
pub mod Heard
pub mod Confirmables
pub mod Pace
pub mod Ticks
pub mod Endpoint
pub mod Sending
pub mod Bounds
pub mod Queue
pub mod Limits
pub mod Timeout
pub mod Schedule
pub mod Outbox
pub use Bounds.{AreShort, IsBounded, IsBoundedSent, IsSound, is_reached, most_open, places}
pub use Confirmables.{Open, Sent, acknowledged, has_open, has_outstanding, is_named, is_outstanding, is_to, outstanding, peers_of, takes, waiting}
pub use Endpoint.{EndpointState, acknowledged_by, after_tick, fresh, fresh_with, handled_pace, id_taken, noted, own_id, quickened_by, settled}
pub use Heard.{AnswersAlone, IsAlone, IsSendableHeard, empty_heard, heard, ignores, is_reserved, new_or_repeated, noted_reply, rejected, rejects, repeats}
pub use Limits.{IsInOrder, IsWithinLimits}
pub use Outbox.{OutboxState}
pub use Pace.{allowed, goes_at_once, has_sent_once, is_slow, paced, quickened, sent_at, slowed, slowed_for, was_sent_once, with_open}
pub use Queue.{ArePlaced, HasPlace, IsIdle, IsPlacedFor, IsSoundQueue, messages, place_after, placed, placed_one}
pub use Received.{HasShortId, Receives}
pub use Schedule.{done_among, done_at, done_over, first_done, is_sending, on_first, schedule}
pub use Sending.{AreSendable, FitsDatagram, GoesOut, IsSendableHandling, IsSendableReply, acknowledgement, again, datagram, empty_acknowledgement, is_acknowledgement, is_confirmable, rejection, replied, reply_start, reset, sent_to}
pub use Ticks.{acts, after, datagram_of, due_at, due_of, dues, dues_of, given_up_of, is_kept, outstanding_due, repeated_to, sent_again, tick_gives_up, tick_repeats, tick_sends, ticked, waiting_due}
pub use Timeout.{timeout_of}
