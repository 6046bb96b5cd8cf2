use Rattle.std.proofs.Common.{◌≡◌, length}
use denote.Param.Always.{always_mut}
use Rattle.feed.proofs.Lines.each.Given as goal

abbrev pub invariant-loop : goal.invariant-loop
invariant-loop g l = (always_mut g.F.FnMut l.initial.f → always_mut g.F.FnMut l.f) × (length l.buffer ≡ length l.initial.buffer)
