-- Each post fits, or each is too long.
use Rattle.std.proofs.Common.{◌↔◌, subst}
use Rattle.std.specs.Bool.{IsFalse, IsTrue}
use Rattle.osc_client.specs.{PostFits, PostIsTooLong}
use Rattle.osc_client.specs.State.{State}
use Rattle.osc_client.proofs.Posting.{both_ways}
use Rattle.osc_client.proofs.client.Client.post_fits.Goals as goal

pub returns-clause-fits : goal.returns-clause-fits
returns-clause-fits c =
    subst (λ (client : State). IsTrue c.each_post_fits.result ↔ PostFits client) c.self.view_is
    (both_ways c.self.inside.desk c.self.inside.origin c.each_post_fits.result c.each_post_fits.ensures.fits c.each_post_fits.ensures.too_long).0

pub returns-clause-too_long : goal.returns-clause-too_long
returns-clause-too_long c =
    subst (λ (client : State). IsFalse c.each_post_fits.result ↔ PostIsTooLong client) c.self.view_is
    (both_ways c.self.inside.desk c.self.inside.origin c.each_post_fits.result c.each_post_fits.ensures.fits c.each_post_fits.ensures.too_long).1
