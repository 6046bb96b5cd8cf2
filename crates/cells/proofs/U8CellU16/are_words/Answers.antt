use Rattle.std.proofs.Common.{arith}
use Rattle.cells.proofs.Bytes.{two_below}
use Rattle.cells.proofs.U8CellU16.are_words.Goals as goal

pub returns : goal.returns
returns c = two_below c.args._run.now (λ i. omega (arith, c.type_inv._run i))
