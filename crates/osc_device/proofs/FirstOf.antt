-- Where a device begins.
use Rattle.std.proofs.Common.{◌≡◌, ◌∙◌, ap, sym, subst, refl, ℕ, ◌+◌, ◌^◌, ◌<◌, ◌≤◌, Bool, true, false, if◌then◌else◌, List, [], ◌∷◌, ◌++◌, ◌||◌, not, length, None, Some, arith}
use Rattle.std.specs.Prelude.{nat_lt}
use Rattle.std.specs.Str.{IsUtf8}
use Rattle.std.proofs.lemmas.List.{length-append}
use Rattle.osc_cbor.specs.{byte_string, item, map, no_items, no_pairs, pair, unsigned, head, items_spelling, pairs_spelling, spelling}
use Rattle.osc_ccm.specs.{most_tag, IsLongerBy, Sealings}
use Rattle.osc_cose.specs.{enc_structure, object_item}
use Rattle.osc_authz.specs.{FitAToken, IsDeskOf, IsLawful}
use Rattle.osc_authz.specs.HoldsToken.{HoldsToken}
use Rattle.osc_client.specs.{PostIsTooLong}
use Rattle.osc_client.specs.State.{State as Client}
use Rattle.osc_model.specs.declared.algorithm.Algorithm.TheVariants.{EightByteTag}
use Rattle.osc_server.specs.State.{State as Server}
use Rattle.osc_model.specs.{has_subtrees}
use Rattle.osc_scope.specs.{Entry, IsScope, scope_of}
use Rattle.osc_token.specs.{HasLawfulParts, algorithm_header, claims_item, token_object}
use Rattle.osc_world.specs.{Beginning, Enrols, IsPlaced, first_nodes, minted_of}
use Rattle.osc_world.specs.declared.start.NewHolder.{NewHolder}
use Rattle.osc_device.specs.{IsBegun, IsGranted, IsTooLongToPost, own_claims, own_holder, server_alone, server_address}
use Rattle.osc_device.specs.Inner.Holding.{HoldsOwn}
use Rattle.osc_device.specs.State.{State, own_address}
use Rattle.osc_device.specs.declared.own_token.OwnToken.{OwnToken}
use Rattle.osc_device.specs.declared.own_token.ServerParts.{ServerParts}

-- ---- how long a token is

either_short : (first : Bool) (xs ys : List ℕ) → length xs ≤ 9 → length ys ≤ 9 → length (if first then xs else ys) ≤ 9
either_short true xs ys a b = a
either_short false xs ys a b = b

short_head : (major n : ℕ) → length (head major n) ≤ 9
unfolding head
short_head major n =
    either_short (nat_lt n 24) _ _ (omega arith)
    (either_short (nat_lt n (2 ^ 8)) _ _ (omega arith)
    (either_short (nat_lt n (2 ^ 16)) _ _ (omega arith)
    (either_short (nat_lt n (2 ^ 32)) _ _ (omega arith) (omega arith))))

string_most : (content : List ℕ) → length (spelling (byte_string content)) ≤ 9 + length content
string_most content = omega (arith, length-append (head 2 (length content)) content, short_head 2 (length content))

token_most : (iv ciphertext : List ℕ) → length (spelling (object_item (token_object iv ciphertext))) ≤ 70 + length iv + length ciphertext
token_most iv ciphertext =
    let iv_field = pair (unsigned 5) (byte_string iv) no_pairs in
    let last = item (byte_string ciphertext) no_items in
    let middle = item (map iv_field) last in
    omega (
      arith,
      length-append (head 4 3) (items_spelling (item (byte_string algorithm_header) middle)),
      short_head 4 3,
      length-append (spelling (byte_string algorithm_header)) (items_spelling middle),
      string_most algorithm_header,
      length-append (spelling (map iv_field)) (items_spelling last),
      length-append (head 5 1) (pairs_spelling iv_field),
      short_head 5 1,
      length-append (spelling (unsigned 5) ++ spelling (byte_string iv)) [],
      length-append (spelling (unsigned 5)) (spelling (byte_string iv)),
      short_head 0 5,
      string_most iv,
      length-append (spelling (byte_string ciphertext)) [],
      string_most ciphertext,
    )

-- ---- the device

-- the beginning of a world whose server is the device's, and whose one client is this one, with a token of this scope
abbrev start_of : ServerParts → OwnToken → List Entry → Client → Beginning
start_of parts own entries client = record (server_alone parts own.id) {
  minted = minted_of 0 (own_claims parts own) entries ∷ [];
  clients = record { at = own_address; node = client } ∷ [];
}

placed : (is_sealing : Sealings) (parts : ServerParts) (own : OwnToken) (client : Client) → (holds : HoldsOwn is_sealing parts.key own.iv (own_claims parts own) client)
    → IsPlaced (own_holder parts own) (spelling (object_item (token_object own.iv holds.ciphertext))) (record { at = own_address; node = client })
placed is_sealing parts own client holds = record {
  at = refl;
  next_hop = ap (λ (c : Client). c.next_hop) holds.is;
  origin = ap (λ (c : Client). c.origin) holds.is;
  desk = subst (λ (c : Client). IsDeskOf (own_claims parts own).material (spelling (object_item (token_object own.iv holds.ciphertext))) c.desk) (sym holds.is) holds.granted;
  context = ap (λ (c : Client). c.context) holds.is;
  waiting = ap (λ (c : Client). c.waiting) holds.is;
  endpoint = ap (λ (c : Client). c.endpoint) holds.is;
}

pub is_begun : (is_sealing : Sealings) (parts : ServerParts) (own : OwnToken) (client : Client) (server : Server)
    → HoldsOwn is_sealing parts.key own.iv (own_claims parts own) client → server ≡ (first_nodes (server_alone parts own.id)).server
    → IsBegun is_sealing parts own (record { server = server; own = client })
is_begun is_sealing parts own client server holds is = record {
  start = start_of parts own holds.entries client;
  enrols = record {
    minted = minted_of 0 (own_claims parts own) holds.entries;
    placed = record { at = own_address; node = client };
    enrolled = record {
      entries = holds.entries;
      scope = holds.scope;
      ciphertext = holds.ciphertext;
      sealed = holds.sealed;
      granted = refl;
      client = placed is_sealing parts own client holds;
    };
    is = refl;
  };
  server = is;
  own_is = refl;
}

pub lawful_parts : (parts : ServerParts) (own : OwnToken) → IsLawful (own_claims parts own)
    → IsUtf8 parts.audience × (length parts.audience < 2 ^ 64) → length own.id ≤ 64 → length own.scope < 2 ^ 64
    → HasLawfulParts (own_claims parts own)
lawful_parts parts own lawful audience id scope = record {
  audience = audience;
  not_before = λ seconds is. absurd cc;
  expires = λ seconds is. absurd cc;
  id = id;
  secret = lawful.secret;
  salt = omega arith;
  id_context = λ bytes is. absurd cc;
  scope = scope;
}

module _ (is_sealing : Sealings) (tag : ℕ) (sealed_length : IsLongerBy tag (is_sealing EightByteTag)) (short_tag : tag ≤ most_tag)
    (held : (before after start : Beginning) (holder : NewHolder) (enrols : Enrols is_sealing before holder after)
    → start.key ≡ before.key → HasLawfulParts holder.claims → FitAToken holder.claims
    → length holder.iv ≡ 13 → length enrols.placed.node.desk.token < 2 ^ 64
    → HoldsToken (is_sealing EightByteTag) start.key holder.claims enrols.enrolled.entries enrols.placed.node.desk)
    (parts : ServerParts) (own : OwnToken) (device : State) (is : IsBegun is_sealing parts own device)
    (lawful : IsLawful (own_claims parts own)) (has : HasLawfulParts (own_claims parts own)) (iv_size : length own.iv ≡ 13)
    (near : (entries : List Entry) → IsScope own.scope entries → (parts.subtrees || not (has_subtrees (scope_of entries))) ≡ true) where
  abbrev start : Beginning
  start = is.start

  token_size : length is.enrols.placed.node.desk.token < 2 ^ 64
  token_size =
      let enrolled = is.enrols.enrolled in
      omega (
        arith,
        ap length enrolled.client.desk.token_is,
        token_most own.iv enrolled.ciphertext,
        iv_size,
        sealed_length parts.key own.iv (enc_structure algorithm_header []) (spelling (claims_item (own_claims parts own))) enrolled.ciphertext enrolled.sealed,
        short_tag,
        lawful.fits,
      )

  same_key : start.key ≡ parts.key
  same_key = ap (λ (s : Beginning). s.key) is.enrols.is

  same_audience : parts.audience ≡ start.audience
  same_audience = sym (ap (λ (s : Beginning). s.audience) is.enrols.is)

  pub granted : IsGranted is_sealing device (own_claims parts own) is.enrols.enrolled.entries
  granted =
      let holds = held (server_alone parts own.id) start start (own_holder parts own) is.enrols same_key has lawful.fits iv_size token_size in
      record {
        holds = subst (λ (server : Server). HoldsToken (is_sealing EightByteTag) server.desk.key (own_claims parts own) is.enrols.enrolled.entries device.own.desk) (sym is.server)
            (subst (λ (client : Client). HoldsToken (is_sealing EightByteTag) start.key (own_claims parts own) is.enrols.enrolled.entries client.desk) (sym is.own_is) holds);
        lawful = has;
        allowed = ap (λ (s : Server). s.desk.rules.subtrees || not (has_subtrees (scope_of is.enrols.enrolled.entries))) is.server
            ∙ ap (λ (s : Beginning). s.rules.subtrees || not (has_subtrees (scope_of is.enrols.enrolled.entries))) is.enrols.is
            ∙ near is.enrols.enrolled.entries is.enrols.enrolled.scope;
        audience = same_audience ∙ sym (ap (λ (server : Server). server.desk.audience) is.server);
        not_before = refl;
        expires = refl;
      }

-- its server keeps a place for its token
pub reserved : (is_sealing : Sealings) (parts : ServerParts) (own : OwnToken) (device : State) → IsBegun is_sealing parts own device
    → device.server.desk.rules.reserved ≡ Some own.id
reserved is_sealing parts own device is =
    ap (λ (s : Server). s.desk.rules.reserved) is.server ∙ ap (λ (s : Beginning). s.rules.reserved) is.enrols.is

-- the device sends straight to its server
pub straight : (is_sealing : Sealings) (parts : ServerParts) (own : OwnToken) (client : Client) → HoldsOwn is_sealing parts.key own.iv (own_claims parts own) client
    → (client.origin ≡ None) × (client.next_hop ≡ server_address)
straight is_sealing parts own client holds = (ap (λ (c : Client). c.origin) holds.is, ap (λ (c : Client). c.next_hop) holds.is)

-- what stands against it: the post of its token
pub too_long : (is_sealing : Sealings) (tag : ℕ) → IsLongerBy tag (is_sealing EightByteTag) → tag ≡ 8
    → (parts : ServerParts) (own : OwnToken) (client : Client) → HoldsOwn is_sealing parts.key own.iv (own_claims parts own) client → PostIsTooLong client
    → IsTooLongToPost (own_holder parts own)
too_long is_sealing tag sealed_length eight parts own client holds long = record {
  ciphertext = holds.ciphertext;
  sealed_size = omega (
    arith,
    eight,
    sealed_length parts.key own.iv (enc_structure algorithm_header []) (spelling (claims_item (own_claims parts own))) holds.ciphertext holds.sealed,
  );
  placed = record { at = own_address; node = client };
  client = placed is_sealing parts own client holds;
  too_long = long;
}
