-- The bytes of a kept value of If-Match.
use Rattle.std.specs.Prelude.{ℕ, List}
use Rattle.osc_model.specs.declared.etag.TagBytes.{TagBytes}
use Rattle.osc_model.specs.declared.etag.TagBytes.TheVariants.{Short, Long}

abbrev pub bytes_of : TagBytes → List ℕ
bytes_of (Short bytes) = bytes.items
bytes_of (Long bytes) = bytes
