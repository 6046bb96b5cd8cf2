use Rattle.std.proofs.Common.{◌∙◌, length, arith}
use Rattle.image.specs.declared.Memory.{Memory}
use Rattle.map.proofs.Packed.{word_read}
use Rattle.map.proofs.Run.{run_at}
use Rattle.map.proofs.runs.word_of.Goals as goal

pub overflow_add-address : goal.overflow_add-address
overflow_add-address g c =
    let r = run_at (length (g.P.Cell.words c.args.pm.now)) Memory.Pm c.args.page c.args.address c.args.n c.args.i c.requires.n_value in
    omega (arith, r.ends, c.requires.i_bound)

pub index_of-requires : goal.index_of-requires
index_of-requires g c =
    let r = run_at (length (g.P.Cell.words c.args.pm.now)) Memory.Pm c.args.page c.args.address c.args.n c.args.i c.requires.n_value in
    omega (arith, r.ends, c.requires.i_bound)

pub get-requires : goal.get-requires
get-requires g c =
    let r = run_at (length (g.P.Cell.words c.args.pm.now)) Memory.Pm c.args.page c.args.address c.args.n c.args.i c.requires.n_value in
    omega (arith, r.here c.requires.i_bound, c.index_of.ensures)

pub returns : goal.returns
returns g c = c.get.ensures ∙ word_read (g.P.Cell.words c.args.pm.now) Memory.Pm c.args.page c.args.address c.args.n c.args.i c.requires.i_bound c.index_of.ensures
