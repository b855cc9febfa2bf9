-- What calls give, as numbers and bytes.
use Rattle.std.specs.Prelude.{ℕ, ℤ, List}
use Rattle.osc_model.specs.Arrival.{Arrival}
use Rattle.osc_model.specs.declared.node.Draw.{Draw}
use Rattle.osc_model.specs.declared.node.Moment.{Moment}
use Rattle.osc_model.specs.declared.node.Peer.{Peer}
use Rattle.osc_c.specs.Plain.{draw_of, peer_of}
use Rattle.osc_c.specs.declared.calls.plain.PlainClaims.{PlainClaims}
use Rattle.osc_c.specs.declared.calls.plain.PlainClientSettings.{PlainClientSettings}
use Rattle.osc_c.specs.declared.calls.plain.PlainDeviceSettings.{PlainDeviceSettings}
use Rattle.osc_c.specs.declared.calls.plain.PlainDraw.{PlainDraw}
use Rattle.osc_c.specs.declared.calls.plain.PlainDraws.{PlainDraws}
use Rattle.osc_c.specs.declared.calls.plain.PlainOptions.{PlainOptions}
use Rattle.osc_c.specs.declared.calls.plain.PlainRequest.{PlainRequest}
use Rattle.osc_c.specs.declared.calls.plain.PlainResource.{PlainResource}

-- ---- how many bytes a struct has that a caller fills in; its first member says so

abbrev pub device_settings_size : ℕ
device_settings_size = 120

abbrev pub client_settings_size : ℕ
client_settings_size = 120

abbrev pub request_size : ℕ
request_size = 72

abbrev pub resource_size : ℕ
resource_size = 48

abbrev pub claims_size : ℕ
claims_size = 136

-- ---- and one that is filled in for a caller

abbrev pub value_size : ℕ
value_size = 40

abbrev pub served_size : ℕ
served_size = 128

abbrev pub refused_size : ℕ
refused_size = 104

abbrev pub result_size : ℕ
result_size = 40

abbrev pub change_size : ℕ
change_size = 32

-- ---- what the structs say

-- what a token is to claim
pub record GivenClaims : Type 0 where
  pub size : ℕ
  pub audience : List ℕ
  pub id : List ℕ
  pub secret : List ℕ
  pub context : List ℕ
  pub has_context : ℕ
  pub scope : List ℕ
  pub not_before : ℕ
  pub expires : ℕ
  pub algorithm : ℕ

abbrev pub claims_given : PlainClaims → GivenClaims
claims_given claims = record {
  size = claims.size;
  audience = claims.audience.bytes.now;
  id = claims.id.bytes.now;
  secret = claims.secret.bytes.now;
  context = claims.context.bytes.now;
  has_context = claims.has_context;
  scope = claims.scope.bytes.now;
  not_before = claims.not_before;
  expires = claims.expires;
  algorithm = claims.algorithm;
}

-- what a client was granted, and the way to its server
pub record GivenGrant : Type 0 where
  pub size : ℕ
  pub next_hop : Peer
  pub host : List ℕ
  pub port : ℕ
  pub token : List ℕ
  pub secret : List ℕ
  pub salt : List ℕ
  pub context : List ℕ
  pub has_context : ℕ
  pub algorithm : ℕ

abbrev pub grant_given : PlainClientSettings → GivenGrant
grant_given settings = record {
  size = settings.size;
  next_hop = peer_of settings.next_hop;
  host = settings.host.bytes.now;
  port = settings.port;
  token = settings.token.bytes.now;
  secret = settings.secret.bytes.now;
  salt = settings.salt.bytes.now;
  context = settings.context.bytes.now;
  has_context = settings.has_context;
  algorithm = settings.algorithm;
}

-- what a client is to ask
pub record GivenRequest : Type 0 where
  pub size : ℕ
  pub ms : ℕ
  pub method : ℕ
  pub path : List ℕ
  pub options : PlainOptions
  pub payload : List ℕ
  pub draw : Draw

abbrev pub request_given : ℕ → PlainRequest → PlainDraw → GivenRequest
request_given ms request draw = record {
  size = request.size;
  ms = ms;
  method = request.method;
  path = request.path.bytes.now;
  options = request.options;
  payload = request.payload.bytes.now;
  draw = draw_of draw;
}

-- what a device's server rules, beside its key and its audience, and the text of its revocation path
pub record GivenRules : Type 0 where
  pub old_key : List ℕ
  pub has_old_key : ℕ
  pub context_seconds : ℕ
  pub revoked : List ℕ
  pub no_subtrees : ℕ

-- what a device is made of
pub record GivenDevice : Type 0 where
  pub size : ℕ
  pub key : List ℕ
  pub audience : List ℕ
  pub free : List ℕ
  pub own : List ℕ
  pub rules : GivenRules

abbrev pub rules_given : PlainDeviceSettings → GivenRules
rules_given settings = record {
  old_key = settings.old_key.bytes;
  has_old_key = settings.has_old_key;
  context_seconds = settings.context_seconds;
  revoked = settings.revoked.bytes.now;
  no_subtrees = settings.no_subtrees;
}

abbrev pub device_given : PlainDeviceSettings → GivenDevice
device_given settings = record {
  size = settings.size;
  key = settings.key.bytes;
  audience = settings.audience.bytes.now;
  free = settings.unprotected.bytes.now;
  own = settings.own.bytes.now;
  rules = rules_given settings;
}

-- a value for a path of a device
pub record GivenValue : Type 0 where
  pub size : ℕ
  pub ms : ℕ
  pub path : List ℕ
  pub format : ℤ
  pub payload : List ℕ

abbrev pub value_given : ℕ → PlainResource → GivenValue
value_given ms resource = record {
  size = resource.size;
  ms = ms;
  path = resource.path.bytes.now;
  format = resource.format;
  payload = resource.payload.bytes.now;
}

-- a path of a device, where nothing is to be any more
pub record GivenPath : Type 0 where
  pub ms : ℕ
  pub path : List ℕ
  pub draws : PlainDraws

-- an id, whose tokens a device revokes, or lets in again
pub record GivenId : Type 0 where
  pub ms : ℕ
  pub id : List ℕ
  pub draws : PlainDraws

-- a datagram that came
pub record GivenDatagram : Type 0 where
  pub ms : ℕ
  pub from : Peer
  pub bytes : List ℕ

-- the same, at this moment, with these random bytes for the step
abbrev pub came_at : GivenDatagram → Moment → Draw → Arrival (List ℕ)
came_at given now draw = record { at = now; from = given.from; draw = draw; what = given.bytes }
