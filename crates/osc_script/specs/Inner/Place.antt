-- What is kept of the lines above while a script is read.
use Rattle.std.specs.Prelude.{◌≡◌, false, List, slice_index_or, count_by}
use Rattle.std.specs.List.{list_any}
use Rattle.osc_script.specs.Line.{grants, is_event, is_put, is_revocation, makes, moment_after, routes}
use Rattle.osc_script.specs.declared.line.Line.{Line}
use Rattle.osc_script.specs.declared.client_name.ClientName.{ClientName}
use Rattle.osc_script.specs.declared.place.LinesAbove.{LinesAbove}
use Rattle.osc_script.specs.declared.proxy_name.ProxyName.{ProxyName}

-- what is kept is so of the lines above
pub record IsPlace (above : List Line) (place : LinesAbove) : Type 0 where
  pub event : place.has_event ≡ list_any is_event above
  pub moment : place.moment.ms ≡ moment_after 0 above
  pub puts : place.puts ≡ count_by is_put above
  pub revoked : place.has_revoked ≡ list_any is_revocation above
  pub granted : (client : ClientName) → slice_index_or place.granted client.digit false ≡ list_any (grants client) above
  pub made : (proxy : ProxyName) → slice_index_or place.made proxy.digit false ≡ list_any (makes proxy) above
  pub routed : (client : ClientName) → slice_index_or place.routed client.digit false ≡ list_any (routes client) above
