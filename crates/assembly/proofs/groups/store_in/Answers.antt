-- What is lent on is the buffer's words, and it is given back with others in their place.
use Rattle.std.proofs.Common.{◌≡◌, ◌+◌, ◌≤◌, sym, ap, ◌∙◌, length, arith}
use Rattle.base.specs.Words.{laid}
use Rattle.bytewise.proofs.Runs.{length_words}
use Rattle.assembly.proofs.Lent.{lent, lent_long, given_back}
use Rattle.assembly.proofs.groups.store_in.Goals as goal

pub slice_bounds-copy-end-2 : goal.slice_bounds-copy-end-2
slice_bounds-copy-end-2 g c = sym (lent_long c.args.reply.now c.requires.0)

pub copy-requires : goal.copy-requires
copy-requires g c =
    let bs = c.args.reply.now in
    omega (arith, c.requires.1, ap length (lent bs c.requires.0), length_words 2 12288 bs)

pub returns : goal.returns
returns g c =
    let a = c.args in
    let back = given_back a.reply.now c.requires.0 c.copy.new.to c.copy.auto.to in
    (sym back.0 ∙ c.copy.ensures.words ∙ ap (λ x. laid x a.at (g.P.Cell.words a.words.now)) (lent a.reply.now c.requires.0), back.1)
