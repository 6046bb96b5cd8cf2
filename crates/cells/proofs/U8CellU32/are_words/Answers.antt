use Rattle.std.proofs.Common.{arith}
use Rattle.cells.proofs.Bytes.{four_below}
use Rattle.cells.proofs.U8CellU32.are_words.Goals as goal

pub returns : goal.returns
returns c = four_below c.args._run.now (λ i. omega (arith, c.type_inv._run i))
