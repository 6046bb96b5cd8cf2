-- Words in runs of cells: a cell is a word of its own, or a byte, of which k are a word, the low one first. Assumes nothing.
use Rattle.std.specs.Prelude.{ℕ, ◌*◌, ◌/◌, ◌≤◌, List, length, drop}
use Rattle.std.proofs.Common.{arith}
use Rattle.bytewise.specs.Bytes.{words_of}
use Rattle.bytewise.proofs.Runs.{length-words_of}

-- What stands behind the last whole word of a run of bytes, at k bytes a word.
abbrev pub rest_of : ℕ → List ℕ → List ℕ
rest_of k bytes = drop (length bytes / k * k) bytes

-- Two bytes a word, and four.
pub two_bytes : (bytes : List ℕ) → length (words_of 2 bytes) * 2 ≤ length bytes
two_bytes bytes = omega (arith, length-words_of 2 bytes)

pub four_bytes : (bytes : List ℕ) → length (words_of 4 bytes) * 4 ≤ length bytes
four_bytes bytes = omega (arith, length-words_of 4 bytes)
