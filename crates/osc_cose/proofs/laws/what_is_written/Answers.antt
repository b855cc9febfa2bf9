use Rattle.std.proofs.Common.{refl}
use Rattle.osc_cose.proofs.WritingLemmas.{header, kid_under, iv_under}
use Rattle.osc_cose.proofs.laws.what_is_written.Goals as goal

pub returns : goal.returns
returns c = λ object protected. record {
  unprotected = header object.kid object.iv;
  whole = refl;
  protected = protected;
  kid = kid_under object.kid object.iv;
  iv = iv_under object.kid object.iv;
}
