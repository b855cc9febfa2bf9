use Rattle.std.proofs.lemmas.Str.{utf8_valid_len_le}
use Rattle.osc_programs.proofs.reading.not_utf8.Goals as goal

pub line_at-requires : goal.line_at-requires
line_at-requires c = rw (c.valid_up_to.ensures, c.requires) (utf8_valid_len_le c.args.bytes.now)
