use Rattle.std.proofs.Common.{sym, ◌∙◌}
use Rattle.salvage.proofs.Placed.{empty_placed, none_placed}
use Rattle.salvage.proofs.save_in.Goals as goal

pub returns-then-is_empty-clause-words : goal.returns-then-is_empty-clause-words
returns-then-is_empty-clause-words g c =
    empty_placed (g.F.Cell.words c.args.first.now) (g.S.Cell.words c.args.second.now) c.args.place c.requires.room c.requires.blank (sym c.is_empty.ensures ∙ c.if-is_empty.true)

pub returns-clause-words : goal.returns-clause-words
returns-clause-words g c =
    none_placed (g.F.Cell.words c.args.first.now) (g.S.Cell.words c.args.second.now) c.args.place c.requires.room c.requires.blank
    (sym c.is_empty.ensures ∙ c.if-is_empty.false) (sym c.is_followed.ensures ∙ c.if-is_followed.false)
