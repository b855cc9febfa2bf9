use Rattle.std.proofs.Common.{inr, subst}
use Rattle.std.proofs.lemmas.Result.{err_from_is_err_and}
use Rattle.osc_words.specs.Settings.{IsKeyFault, IsClientFault}
use Rattle.osc_programs.specs.{IsWhy, TellsWhy}
use Rattle.osc_programs.proofs.WhyUnread.{tells_why}
use Rattle.osc_programs.proofs.reading.client_settings.Goals as goal

pub returns-clause-bad : goal.returns-clause-bad
returns-clause-bad g c =
    let why = tells_why (λ document. IsKeyFault (IsClientFault document)) (g.I.Read.remaining c.args.reader.now) c.in_ok-bytes.bytes.items c.in-Err.why c.ended_without.result (g.L.Log.told c.settings_bytes.new.log)
    (g.L.Log.told c.ended_without.new.log) c.in_ok-bytes.ensures.bytes
    (subst (λ bytes. IsWhy (λ document. IsKeyFault (IsClientFault document)) bytes c.in-Err.why) c.deref.ensures.value c.in-Err.ensures) c.ended_without.ensures.memory c.ended_without.ensures.told in
    λ bad. subst (λ log. TellsWhy (λ document. IsKeyFault (IsClientFault document)) (g.I.Read.remaining c.args.reader.now) (g.L.Log.told log) (g.L.Log.told c.ended_without.new.log)) c.in_ok-bytes.ensures.silent (why bad)

pub returns-in_err-bytes : goal.returns-in_err-bytes
returns-in_err-bytes g c =
    let p = err_from_is_err_and c.from_residual.result c.from_residual.ensures.1 in
    rw (p.1, p.2) (record { settings = tt; short = tt; end = c.settings_bytes.ensures.end; silent = tt; bad = λ bad. inr (c.in_err-bytes.ensures.long bad); ends = c.in_err-bytes.ensures.ends })
