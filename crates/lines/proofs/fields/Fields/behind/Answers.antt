use Rattle.lines.specs.Fields.{left}
use Rattle.lines.proofs.Splitting.{passed}
use Rattle.lines.proofs.fields.Fields.behind.Goals as goal

pub loop-left-preserved : goal.loop-left-preserved
loop-left-preserved c =
    let l = c.loop-left in
    passed (left c.args.self) (left l.self) (left c.next.new.self) l._left c.next.result l.invariant c.next.ensures.steps
