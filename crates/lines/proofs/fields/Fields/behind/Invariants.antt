-- `lines::fields::Fields::behind` meets its contract: so many fields have been passed. Assumes nothing.
use Rattle.std.proofs.Common.{◌≡◌, drop}
use Rattle.lines.specs.Fields.{left}
use Rattle.lines.proofs.fields.Fields.behind.Given as goal

abbrev pub invariant-loop-left : goal.invariant-loop-left
invariant-loop-left l = left l.self ≡ drop l._left (left l.fn.self)
