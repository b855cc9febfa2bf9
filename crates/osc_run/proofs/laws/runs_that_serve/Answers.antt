use Rattle.std.proofs.Common.{[], refl, arith}
use Rattle.osc_cbor.specs.{spelling}
use Rattle.osc_scope.specs.{scope_of}
use Rattle.osc_token.specs.{claims_item}
use Rattle.osc_run.proofs.MintedTexts.{minted_text, lawful_fit}
use Rattle.osc_run.proofs.OneRound.{Has, refusal, refusal_read, grant, after, reached, premise}
use Rattle.osc_run.proofs.laws.runs_that_serve.Goals as goal

pub returns : goal.returns
returns c = λ claims entries now tree lawful is_scope begins ends.
    let text = spelling (claims_item claims) in
    let scope = scope_of entries in
    let has : Has [] text claims.audience now claims lawful scope tree = record {
      granted = c.minted_claims.ensures claims entries now lawful is_scope begins ends;
      begins = begins;
      ends = ends;
      is_text = minted_text c.minted_texts.ensures claims entries (grant [] text claims.audience now claims lawful scope tree) (lawful_fit claims lawful) is_scope refl refl refl refl refl;
      reads = refusal_read (c.a_written_reply.ensures.spelled refusal tt) (c.a_reply_is_read_again.ensures refusal (omega arith) (omega arith) tt tt);
    } in (
      after [] text claims.audience now claims lawful scope tree,
      reached [] text claims.audience now claims lawful scope tree has,
      premise [] text claims.audience now claims lawful scope tree,
      refl,
      refl,
      refl,
    )
