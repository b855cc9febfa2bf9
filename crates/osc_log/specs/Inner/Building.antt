-- What a line that is being built stands for.
use Rattle.osc_log.specs.Line as spec
use Rattle.osc_log.specs.Line.{Growing}
use Rattle.osc_log.specs.Inner.Objects.{members_of}
use Rattle.osc_log.specs.declared.line.LogLine.{LogLine}
use Rattle.osc_log.specs.declared.line.LogLine.TheVariants.{Text, Json}

abbrev pub line_of : LogLine → Growing
line_of (Text text) = spec.text text.items
line_of (Json members) = spec.json (members_of members)
