-- `lines::fields::Fields::field` meets its contract, by the list that the iterator shows. Assumes nothing.
use Rattle.std.proofs.Common.{refl, ap, ◌∙◌}
use Rattle.std.proofs.lemmas.Iterator.Consumers.{nth_from_yields_List, YieldsList-from_first}
use Rattle.lines.specs.Fields.{left}
use Rattle.lines.proofs.Splitting.{nth_field}
use Rattle.lines.proofs.fields.Fields.field.Goals as goal

pub returns : goal.returns
returns c =
    let a = c.args in
    let read = nth_from_yields_List c.nth.result c.nth.new.self a.n c.nth.ensures.ran (YieldsList-from_first (λ x. x.now) left (left a.self) refl) in
    ap (λ x. x.now) c.unwrap_or.ensures ∙ nth_field (left a.self) a.n c.nth.result _ read refl
