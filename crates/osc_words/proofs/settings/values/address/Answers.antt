use Rattle.std.proofs.Common.{subst}
use Rattle.osc_words.specs.Settings.{IsV4AddressFrom}
use Rattle.osc_words.specs.Settings.Inner.Reading.{IsRefusal}
use Rattle.osc_words.proofs.settings.OneAddress.{v6_instead}
use Rattle.osc_words.proofs.settings.values.address.Goals as goal

pub returns-in-Err-Bad : goal.returns-in-Err-Bad
returns-in-Err-Bad c =
    let none = subst (IsRefusal (IsV4AddressFrom c.args.least c.args.text.now)) c.in-Err-Bad.field-0-is c.in-Err-Bad.ensures in
    v6_instead c.args.least c.args.text.now c.v6_address.result none c.v6_address.ensures
