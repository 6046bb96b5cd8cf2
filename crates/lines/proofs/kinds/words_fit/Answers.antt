use Rattle.std.proofs.Common.{sym, ◌∙◌, arith}
use Rattle.lines.proofs.Walking.{words_wrong, words_right}
use Rattle.lines.proofs.kinds.words_fit.Goals as goal

pub returns-then-not-has_shape : goal.returns-then-not-has_shape
returns-then-not-has_shape c =
    let l = c.loop-field in
    sym (l.invariant.fit ∙ words_wrong c.args.number c.args.room l.words c.in-Some.ensures.steps (omega arith)
    (sym c.has_shape.ensures ∙ c.if-not-has_shape.true))

pub loop-field-preserved : goal.loop-field-preserved
loop-field-preserved c =
    let l = c.loop-field in
    record {
      room = omega arith;
      fit =
          l.invariant.fit
          ∙ words_right c.args.number c.args.room l.words c.in-Some.ensures.steps (omega arith)
          (sym c.has_shape.ensures ∙ c.if-not-has_shape.false);
    }
