-- The ranges of codes (RFC 7252 section 12.1): class times 32 plus detail.
use Rattle.std.specs.Prelude.{ℕ, Bool, ◌&&◌, nat_le, nat_lt}

-- 0.01 to 0.31
abbrev pub is_request_code : ℕ → Bool
is_request_code code = nat_lt 0 code && nat_lt code 32

-- 2.00 to 5.31
abbrev pub is_response_code : ℕ → Bool
is_response_code code = nat_le 64 code && nat_lt code 192
