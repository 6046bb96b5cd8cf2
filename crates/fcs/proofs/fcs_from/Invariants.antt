use Rattle.std.proofs.Common.{◌≡◌, ◌<◌, drop}
use Rattle.fcs.specs.Fcs.{fcs_from}
use Rattle.fcs.proofs.fcs_from.Given as goal

abbrev pub invariant-loop-i : goal.invariant-loop-i
invariant-loop-i g l =
    let words = g.C.Cell.words l.words in
    (l.c < 65536) × (fcs_from l.c (drop l.i words) ≡ fcs_from l.start words)
