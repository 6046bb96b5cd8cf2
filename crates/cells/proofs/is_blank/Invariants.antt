use Rattle.std.proofs.Common.{◌≡◌, ◌*◌, drop}
use Rattle.std.specs.List.{list_all}
use Rattle.cells.proofs.Blanks.{is_ones}
use Rattle.cells.proofs.is_blank.Given as goal

abbrev pub invariant-loop-block : goal.invariant-loop-block
invariant-loop-block g l =
    let words = g.C.Cell.words l.run in
    list_all is_ones (drop (l.block * 64) words) ≡ list_all is_ones words
