-- The request that was made.
use Rattle.std.proofs.Common.{inl}
use Rattle.osc_c.proofs.calls.client.ClientNode.ask.Goals as goal

pub returns-in-Ok-request : goal.returns-in-Ok-request
returns-in-Ok-request g c =
    let fits = c.in-Ok-request.ensures.fits in
    inl (c.in-Ok.now, c.in-Ok-request.request, (c.in-Ok.ensures.fits, fits.0, fits.1), c.in-Ok.ensures.ok, c.in-Ok-request.ensures.ok, c.ask_at.ensures)
