use Rattle.std.proofs.Common.{◌≡◌, ◌∙◌}
use Rattle.flash.proofs.Statuses.{all_empty}
use Rattle.flash.proofs.sectors.is_empty.Goals as goal

pub returns : goal.returns
returns g c = c.is_blank.ensures ∙ all_empty _
