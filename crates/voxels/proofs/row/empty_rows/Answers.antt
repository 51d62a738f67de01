use Rattle.voxels.specs.Stages.{no_row}
use Rattle.voxels.proofs.row.empty_rows.Goals as goal

pub returns : goal.returns
returns c = λ j h. (c.from_fn.ensures.items.at j no_row h).2.met
