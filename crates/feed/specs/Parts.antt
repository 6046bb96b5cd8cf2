-- Lines in a buffer. Assumes nothing.
use Rattle.std.specs.Prelude.{ℕ, Option, Some, None, if◌then◌else◌, ◌==◌, nat_lt, ◌+◌, ◌≤◌}
use Rattle.std.specs.Option.{option_map}
use Rattle.feed.specs.declared.Part.{Part}
use Rattle.feed.specs.declared.Line.{Line}
use Rattle.feed.specs.declared.Ahead.{Ahead}

-- No byte is read yet.
abbrev pub nothing_ahead : Ahead
nothing_ahead = record { start = 0; end = 0 }

-- The line up to a newline, of the bytes from one place of the buffer up to another: what stands behind the newline is read already.
abbrev pub line_to : ℕ → ℕ → ℕ → Line
line_to start at end = record { start = start; end = at; part = Part.Whole; ahead = record { start = at + 1; end = end } }

-- A line stands inside a buffer of n bytes, and so do the bytes that were read behind it.
pub record Within (line : Line) (n : ℕ) : Type 0 where
  pub ordered : line.start ≤ line.end
  pub inside : line.end ≤ n
  pub ahead_ordered : line.ahead.start ≤ line.ahead.end
  pub ahead_inside : line.ahead.end ≤ n

-- What so many bytes with no newline behind them are: nothing at the end of the input; a last line; or, where they fill a buffer of n bytes,
-- the first bytes of a line that is too long.
abbrev pub part_of : ℕ → ℕ → Option Part
part_of held n =
    if held == 0 then None
    else if nat_lt held n then Some Part.Whole
    else Some Part.Cut

-- They as a line, from the buffer's start on: nothing stands behind it.
abbrev pub last_of : ℕ → ℕ → Option Line
last_of held n = option_map (λ part. record { start = 0; end = held; part = part; ahead = record { start = held; end = held } }) (part_of held n)
