pub mod Numbers
pub mod Table
pub mod Recognised
pub mod Requests
pub mod Replies
pub mod Split
pub mod MergedOptions
pub mod Errors
pub mod PlaintextRequests
pub mod PlaintextReplies
pub mod Texts
pub mod Inner
pub use MergedOptions.{behind_front}
pub use Numbers.{content_format, oscore, proxy_scheme, proxy_uri, uri_host, uri_path, uri_port, uri_query}
pub use PlaintextReplies.{etag_in, if_reply, reply_in, reply_of_plaintext, reply_plaintext}
pub use PlaintextRequests.{IsMemoryAside, request_of_plaintext, request_plaintext, refused_option}
pub use Recognised.{fits, has_unrecognised_unsafe, is_recognised, recognised, unrecognised_critical}
pub use Replies.{etag_option, format_option, max_age_option, reply_options, uint_bytes, with_error, with_reply}
pub use Requests.{IsWithinTable, each, none_match_options, path_options, request_of, request_options, uint, uint_options, value, values, with_request}
pub use Split.{AreInOrder, has_oscore, inner_options, insert, merge, of_class, of_number, outer_options, plaintext_of, protected, same_class, unprotected}
pub use Table.{class_of, is_critical, rule_of}
unfoldable pub use Texts.{read_request, reply_text}
pub use Texts.{IsReplyIn, IsWithinRanges, code_of, or_code, request_or_code}
