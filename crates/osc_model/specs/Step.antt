-- Steps of nodes.
use Rattle.std.specs.Prelude.{List, Some}
use Rattle.osc_model.specs.StepNotes.{quiet}
use Rattle.osc_model.specs.declared.step.Datagram.{Datagram}
use Rattle.osc_model.specs.declared.step.RefusedRequest.{RefusedRequest}
use Rattle.osc_model.specs.declared.step.Step.{Step}

-- a step that sends these datagrams, and neither seals, opens, serves, learns, draws, refuses nor loses anything
abbrev pub sends : List Datagram → Step
sends datagrams = record { out = datagrams; notes = quiet }

-- a step that refuses a request, which these datagrams answer
abbrev pub refuses : RefusedRequest → List Datagram → Step
refuses why datagrams = record { out = datagrams; notes = record quiet { refused = Some why } }
