use Rattle.std.proofs.Common.{◌≡◌, take}
use Rattle.base.specs.Words.{laid}
use Rattle.cells.proofs.copy.Given as goal

abbrev pub invariant-loop-i : goal.invariant-loop-i
invariant-loop-i g l =
    record {
      words : g.T.Cell.words l.to ≡ laid (g.T.Cell.words l.fn.to) l.at (take l.i (g.F.Cell.words l.from));
      rest : g.T.Cell.rest l.to ≡ g.T.Cell.rest l.fn.to;
    }
