use Rattle.std.proofs.Common.{◌≡◌, rules, arith, sym, subst, ℕ, List}
use Rattle.osc_model.specs.declared.algorithm.Algorithm.TheVariants.{EightByteTag}
use Rattle.osc_authz.specs.{IsLawful, IsRefusal}
use Rattle.osc_token.specs.declared.claims.Claims.{Claims}
use Rattle.osc_world.specs.{first_nodes}
use Rattle.osc_device.specs.{own_claims, server_alone}
use Rattle.osc_device.specs.Inner.Holding.{HoldsOwn}
use Rattle.osc_device.proofs.FirstOf.{granted, is_begun, lawful_parts, reserved, straight, too_long}
use Rattle.osc_device.proofs.device.Device.new.Goals as goal

pub returns-in_err-client-clause-refused : goal.returns-in_err-client-clause-refused
returns-in_err-client-clause-refused g c =
    let claims : c.own_claims-claims.result ≡ own_claims c.args.parts c.args.own = c.own_claims-claims.ensures c.args.parts (sym c.in_ok-audience.ensures.cases) in
    let refused : IsRefusal (own_claims c.args.parts c.args.own) c.in_err-client.field-0.0 =
    subst (λ (claims : Claims). IsRefusal claims c.in_err-client.field-0.0) claims c.in_err-client.ensures.refused in
    search (rules, refused)

pub invariant_of-result : goal.invariant_of-result
invariant_of-result g c =
    let claims : c.own_claims-claims.result ≡ own_claims c.args.parts c.args.own = c.own_claims-claims.ensures c.args.parts (sym c.in_ok-audience.ensures.cases) in
    let holds = subst (λ (claims : Claims). HoldsOwn g.A.Ciphers.is_sealing c.args.parts.key c.args.own.iv claims c.in_ok-client.client) claims c.in_ok-client.ensures.holds in
    let way = straight g.A.Ciphers.is_sealing c.args.parts c.args.own c.in_ok-client.client holds in
    (way.0, way.1, c.post_fits.ensures.fits.0 (search rules))

pub returns-clause-begun : goal.returns-clause-begun
returns-clause-begun g c =
    let claims : c.own_claims-claims.result ≡ own_claims c.args.parts c.args.own = c.own_claims-claims.ensures c.args.parts (sym c.in_ok-audience.ensures.cases) in
    let holds = subst (λ (claims : Claims). HoldsOwn g.A.Ciphers.is_sealing c.args.parts.key c.args.own.iv claims c.in_ok-client.client) claims c.in_ok-client.ensures.holds in
    let server = subst (λ (id : List ℕ). c.in_ok-server.server ≡ (first_nodes (server_alone c.args.parts id)).server) c.in_ok-id.ensures.cases c.in_ok-server.ensures in
    is_begun g.A.Ciphers.is_sealing c.args.parts c.args.own c.in_ok-client.client c.in_ok-server.server holds server

pub returns-clause-granted : goal.returns-clause-granted
returns-clause-granted g c =
    let begun = returns-clause-begun g c in
    let claims : c.own_claims-claims.result ≡ own_claims c.args.parts c.args.own = c.own_claims-claims.ensures c.args.parts (sym c.in_ok-audience.ensures.cases) in
    let lawful = subst (λ (claims : Claims). IsLawful claims) claims c.in_ok-client.ensures.lawful in
    let has = lawful_parts c.args.parts c.args.own lawful c.fits.ensures.audience (omega (arith, c.if-len-gt-LONGEST_ID.false, c.len.ensures.len)) c.fits.ensures.scope in (
      begun.enrols.enrolled.entries,
      begun.enrols.enrolled.scope,
      granted g.A.Ciphers.is_sealing (g.A.Ciphers.TAG EightByteTag) (g.met.A.Ciphers.sealed_length EightByteTag) (g.met.A.Ciphers.short_tag EightByteTag)
          c.where_a_world_begins.ensures.holds c.args.parts c.args.own _ begun lawful has c.fits.ensures.iv (c.in_ok-far.ensures.near (search rules)),
    )

pub returns-clause-place : goal.returns-clause-place
returns-clause-place g c = reserved g.A.Ciphers.is_sealing c.args.parts c.args.own _ (returns-clause-begun g c)

pub returns-then-not-post_fits-clause-refused : goal.returns-then-not-post_fits-clause-refused
returns-then-not-post_fits-clause-refused g c =
    let claims : c.own_claims-claims.result ≡ own_claims c.args.parts c.args.own = c.own_claims-claims.ensures c.args.parts (sym c.in_ok-audience.ensures.cases) in
    let holds = subst (λ (claims : Claims). HoldsOwn g.A.Ciphers.is_sealing c.args.parts.key c.args.own.iv claims c.in_ok-client.client) claims c.in_ok-client.ensures.holds in
    too_long g.A.Ciphers.is_sealing (g.A.Ciphers.TAG EightByteTag) (g.met.A.Ciphers.sealed_length EightByteTag) g.met.A.Ciphers.tags.0
    c.args.parts c.args.own c.in_ok-client.client holds (c.post_fits.ensures.too_long.0 (search rules))
