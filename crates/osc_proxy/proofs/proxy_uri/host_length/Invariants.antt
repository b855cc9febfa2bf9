use Rattle.std.proofs.Common.{◌≡◌, ◌+◌, drop}
use Rattle.std.specs.List.{prefix_len}
use Rattle.osc_proxy.specs.{is_host_byte}
use Rattle.osc_proxy.proofs.proxy_uri.host_length.Given as goal

abbrev pub invariant-loop-byte : goal.invariant-loop-byte
invariant-loop-byte l = record {
  value : l.count + prefix_len is_host_byte (drop l.byte-index l.bytes) ≡ prefix_len is_host_byte l.bytes;
  count : l.count ≡ l.byte-index;
}
