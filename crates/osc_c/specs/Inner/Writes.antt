-- What is read of a value that the device is to write.
use Rattle.std.specs.Prelude.{◌≡◌, ℕ, Option}
use Rattle.osc_model.specs.declared.code.Method.{Method}
use Rattle.osc_model.specs.declared.node.Moment.{Moment}
use Rattle.osc_model.specs.declared.request.Request.{Request}
use Rattle.osc_c.specs.Arguments.{IsFormat}
use Rattle.osc_c.specs.Given.{GivenValue}
use Rattle.osc_c.specs.Own.{FitsValue}
use Rattle.osc_device.specs.{own_request}

-- it is to be written by this method at this moment, by this request
abbrev pub Reads : Method → GivenValue → Moment → Request → Type 0
Reads method value now request =
    (format : Option ℕ) × FitsValue value × (now.ms ≡ value.ms) × IsFormat value.format format
    × (request ≡ own_request method value.path format value.payload)
