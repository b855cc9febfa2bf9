-- A client that a line grants to is the holder that the lines make of it.
use Rattle.std.proofs.Common.{◌≡◌, ◌∙◌, ap, ℕ, List}
use Rattle.osc_client.specs.declared.route.Route.{Route}
use Rattle.osc_script.specs.{iv_of, address_of}
use Rattle.osc_script.specs.declared.client_name.ClientName.{ClientName}
use Rattle.osc_script.specs.declared.line.Line.{Line}
use Rattle.osc_script.specs.declared.node.NodeName.TheVariants.{Client}
use Rattle.osc_token.specs.declared.claims.Claims.{Claims}
use Rattle.osc_world.specs.declared.start.NewHolder.{NewHolder}
use Rattle.osc_simulation.specs.{holder_of, proxy_of, way_by}

pub holder_is : (lines : List Line) (number : ℕ) (client : ClientName) (granted : Claims) (way : Route) (claims : Claims) (holder : NewHolder)
    → way ≡ way_by (proxy_of client lines) → claims ≡ granted
    → holder ≡ record { at = address_of (Client client); way = way; claims = claims; iv = iv_of number }
    → holder ≡ holder_of lines number client granted
holder_is lines number client granted way claims holder w c h =
    let at_way : Route → NewHolder = λ w. record { at = address_of (Client client); way = w; claims = claims; iv = iv_of number } in
    h ∙ ap at_way w ∙ ap (λ c. holder_of lines number client c) c
