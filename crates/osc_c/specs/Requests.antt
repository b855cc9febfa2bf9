-- Requests of numbers and bytes.
use Rattle.std.specs.Prelude.{◌≡◌, ℕ, ◌==◌, ◌≤◌, if◌then◌else◌, List, [], ◌∷◌, take, Some}
use Rattle.osc_model.specs.{IsPath}
use Rattle.osc_model.specs.declared.request.Request.{Request}
use Rattle.osc_c.specs.Arguments.{IsFormat, IsFormatNumber}
use Rattle.osc_c.specs.declared.calls.plain.PlainOptions.{PlainOptions}

abbrev pub tags_of : PlainOptions → List (List ℕ)
tags_of options = if options.if_match == 1 then take options.if_match_length options.if_match_bytes ∷ [] else []

abbrev pub IsRequest : ℕ → List ℕ → PlainOptions → List ℕ → Request → Type 0
IsRequest method path options payload request =
    (request.code.0 ≡ method) × (request.path ≡ Some path) × IsFormat options.format request.format × IsFormat options.accept request.accept
    × (request.if_match ≡ tags_of options) × (request.if_none_match ≡ (options.if_none_match == 1)) × (request.payload ≡ payload)

-- 1 GET, 2 POST, 3 PUT, 4 DELETE
abbrev pub IsMethodNumber : ℕ → Type 0
IsMethodNumber method = (1 ≤ method) × (method ≤ 4)

-- a value of If-Match has at most 8 bytes, where there is one (RFC 7252 section 5.10)
abbrev pub IsTag : PlainOptions → Type 0
IsTag options = (options.if_match ≤ 1) × ((options.if_match ≡ 1) → options.if_match_length ≤ 8)

-- numbers that stand for options; flags are 0 or 1
abbrev pub AreOptions : PlainOptions → Type 0
AreOptions options = IsFormatNumber options.format × IsFormatNumber options.accept × (options.if_none_match ≤ 1) × IsTag options

-- these numbers and bytes make a request
abbrev pub MakeARequest : ℕ → List ℕ → PlainOptions → Type 0
MakeARequest method path options = IsMethodNumber method × AreOptions options × IsPath path
