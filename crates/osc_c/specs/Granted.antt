-- What a client was granted, and the way to its server.
use Rattle.std.specs.Prelude.{◌≡◌, ℕ, ◌⊎◌, ◌==◌, ◌≤◌, if◌then◌else◌, List, [], ◌∷◌, Option, Some, None}
use Rattle.std.specs.Option.{ForSome}
use Rattle.osc_model.specs.{algorithm_number}
use Rattle.osc_model.specs.declared.algorithm.Algorithm.{Algorithm}
use Rattle.osc_authz.specs.{IsSecret, IsShort}
use Rattle.osc_authz.specs.declared.granted.ClientDesk.{ClientDesk}
use Rattle.osc_client.specs.{HostAndPort, IsHost}
use Rattle.osc_c.specs.Given.{GivenGrant, client_settings_size}

-- it is an algorithm's number
abbrev pub IsAlgorithm : ℕ → Type 0
IsAlgorithm number = (alg : Algorithm) × (number ≡ algorithm_number alg)

abbrev pub id_context_of : ℕ → List ℕ → Option (List ℕ)
id_context_of is_there bytes = if is_there == 1 then Some bytes else None

-- no host is the server itself
abbrev pub origin_of : List ℕ → ℕ → Option HostAndPort
origin_of [] port = None
origin_of (byte ∷ host) port = Some (record { host = byte ∷ host; port = port })

abbrev pub IsDesk : List ℕ → List ℕ → List ℕ → Option (List ℕ) → Algorithm → ClientDesk → Type 0
IsDesk token secret salt context alg desk =
    (desk.token ≡ token) × (desk.secret ≡ secret) × (desk.salt ≡ salt) × (desk.id_context ≡ context) × (desk.alg ≡ alg)

-- input material of lengths that a token may have (RFC 9203 section 3.2.1)
abbrev pub IsLawfulGrant : List ℕ → List ℕ → Option (List ℕ) → Type 0
IsLawfulGrant secret salt context = IsSecret secret × IsShort salt × ForSome context IsShort

-- no host, or one that an option can hold
abbrev pub IsWay : List ℕ → Type 0
IsWay host = (host ≡ []) ⊎ IsHost host

-- these numbers and bytes make a client: the size is that of the struct, and the flag is 0 or 1
abbrev pub FitsClient : GivenGrant → Type 0
FitsClient given =
    (given.size ≡ client_settings_size) × IsAlgorithm given.algorithm × (given.has_context ≤ 1)
    × IsLawfulGrant given.secret given.salt (id_context_of given.has_context given.context) × IsWay given.host
