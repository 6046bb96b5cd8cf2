-- `lines::kinds::words_fit` meets its contract: the words that are left, with the room that is left, give what all of them give.
-- Assumes nothing.
use Rattle.std.proofs.Common.{◌≡◌, ◌+◌, ◌-◌, ◌≤◌}
use Rattle.lines.specs.Fields.{left}
use Rattle.lines.specs.Kinds.{words_fit}
use Rattle.lines.proofs.kinds.words_fit.Given as goal

abbrev pub invariant-loop-field : goal.invariant-loop-field
invariant-loop-field l = record {
  room : l.words ≤ l.room;
  fit : words_fit l.number l.room (left l.fields) ≡ words_fit (l.number + l.words) (l.room - l.words) (left l.field-iterator);
}
