pub mod Data
pub mod Head
pub mod Major
pub mod Spelling
pub mod Faults
pub mod Errors
pub mod View
pub mod Parts
pub mod Same
pub mod Reading
pub mod Lent
pub mod Inner
pub use Data.{DataItem, HasKey, HasOwnKeys, Items, Pairs, array, bool, byte_string, item, item_count, items_nesting, map, most_nesting, negative, nesting, no_items, no_pairs, null, pair, pair_count, pairs_nesting, tag, text_string, unsigned, value_under}
unfoldable pub use Faults.{Fails}
pub use Faults.{HeadFails, IsExtended, IsUnsupported, ItemFails, ItemsFail, PairFails, PairsFail, StringFails, TooDeepFails, by_eight, by_four, by_one, by_two, bytes_end, cut_short, in_array, in_head, in_map, in_string, in_tag, key_again, key_fails, no_simple_value, not_utf8, reserved, text_ends, too_deep, unsupported, value_fails}
unfoldable pub use Head.{head}
pub use Head.{IsHead, in_eight_bytes, in_four_bytes, in_one_byte, in_two_bytes, inline}
pub use Lent.{AreItems, ArePairs, Opens, Stands, item_in, item_of, items_in, pairs_in, rest_of}
pub use Major.{major_number}
pub use Parts.{as_array, as_bytes, as_map, as_unsigned, value}
unfoldable pub use Reading.{any_content_at, any_item_at, any_pairs_from, argument_at, content_at, item_at, items_from, pairs_from, simple_at, string_at, text_at}
pub use Reading.{Found, Refuses, any_behind_first, behind_first, major_of, number_at, push_item, push_pair, ◌>>=◌}
pub use Same.{has_key, same, same_items, same_pairs}
pub use Spelling.{Begins, Follows, HasSpelling, HaveSpellings, IsWhole, PairsHaveSpellings, Spells, SpellsItems, SpellsPairs, items_spelling, pairs_spelling, spelling}
pub use View.{items_of, items_view, pairs_of, pairs_view, view}
