use Rattle.std.proofs.Common.{◌≡◌}
use Rattle.base.specs.Words.{laid, blanks}
use Rattle.cells.proofs.blank.Given as goal

abbrev pub invariant-loop-i : goal.invariant-loop-i
invariant-loop-i g l =
    record {
      words : g.C.Cell.words l.run ≡ laid (g.C.Cell.words l.fn.run) l.at (blanks l.i);
      rest : g.C.Cell.rest l.run ≡ g.C.Cell.rest l.fn.run;
    }
