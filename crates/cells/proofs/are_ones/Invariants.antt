use Rattle.std.proofs.Common.{◌≡◌, ◌&&◌, drop}
use Rattle.std.specs.List.{list_all}
use Rattle.cells.proofs.Blanks.{is_ones}
use Rattle.cells.proofs.are_ones.Given as goal

abbrev pub invariant-loop-i : goal.invariant-loop-i
invariant-loop-i g l =
    let words = g.C.Cell.words l.run in
    (l.ones && list_all is_ones (drop l.i words)) ≡ list_all is_ones (drop l.from words)
