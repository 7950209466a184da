use Rattle.std.proofs.Common.{◌≡◌, ◌∙◌, subst, arith}
use Rattle.std.specs.Io.KnownBytes.{Appends}
use Rattle.cdg_io.specs.Moves.{AppendsPrefix}
use Rattle.rand_pcg.specs.Lcg.{state_after}
use Rattle.cdg_workload.specs.Script.{picture_lines, generated_script}
use Rattle.cdg_workload.proofs.GeneratorLemmas.{picture_is, words_after}
use Rattle.cdg_workload.proofs.ScriptTexts.{on_err, script_first, script_begun, script_next, script_more}
use Rattle.cdg_workload.proofs.script.write_script.Goals as goal

pub returns-in_err-put_all-clause-part : goal.returns-in_err-put_all-clause-part
returns-in_err-put_all-clause-part g c =
    on_err c.from_residual.result _
    (script_first c.args.seed c.args.pictures _ _ c.in_err-put_all.ensures.part)

pub loop-k-init : goal.loop-k-init
unfolding state_after
loop-k-init g c = record {
  put = script_begun c.args.seed _ _ c.in_ok-put_all.ensures.ok;
  same = c.in_ok-put_all.ensures.cause.same;
  words = c.generator-words.ensures;
}

pub loop-k-preserved : goal.loop-k-preserved
loop-k-preserved g c =
    let so_far = c.loop-k.invariant in
    let lines : c.bytes.result.now ≡ picture_lines c.args.seed c.loop-k.k = c.bytes.ensures.bytes
    ∙ c.picture.ensures.lines ∙ picture_is c.args.seed c.loop-k.k c.loop-k.words so_far.words in
    record {
      put = script_more c.args.seed c.loop-k.k _ _ _ so_far.put
          (subst (Appends _ _) lines c.in_ok-put_all-2.ensures.ok);
      same = c.in_ok-put_all-2.ensures.cause.same ∙ so_far.same;
      words = c.picture.ensures.words ∙ words_after c.args.seed c.loop-k.k c.loop-k.words so_far.words;
    }

pub returns-in_err-put_all-2-clause-part : goal.returns-in_err-put_all-2-clause-part
returns-in_err-put_all-2-clause-part g c =
    let so_far = c.loop-k.invariant in
    let lines : c.bytes.result.now ≡ picture_lines c.args.seed c.loop-k.k = c.bytes.ensures.bytes
    ∙ c.picture.ensures.lines ∙ picture_is c.args.seed c.loop-k.k c.loop-k.words so_far.words in
    on_err c.from_residual-in_err-put_all-2.result _
    (script_next c.args.seed c.args.pictures c.loop-k.k _ _ _ (omega arith) so_far.put
    (subst (AppendsPrefix _ _) lines c.in_err-put_all-2.ensures.part))

pub returns-clause-ok : goal.returns-clause-ok
returns-clause-ok g c =
    let all : c.loop-k.k ≡ c.args.pictures = omega arith in
    subst (λ n. Appends (g.K.Sink.held c.args.out.now) (g.K.Sink.held c.loop-k.out)
    (generated_script c.args.seed n)) all c.loop-k.invariant.put
