-- The worked case of a pool with room for one record, by computing.
use Rattle.std.proofs.Common.{ℕ, Bool, not, ltb, [], ◌∷◌, ◌++◌, ap, ap₂}
use Rattle.cells.specs.Hall.{from_digits}
use Rattle.cells.specs.Refusals.{gives, refuse_if}
use Rattle.dag.specs.Sets.{count}
use Rattle.dag.specs.Records.{lowest, link_to}
use Rattle.dag.specs.Sealed.{turn, closing, below}
use Rattle.voxels.specs.OneRecord.{OneRecord}

pub one_record : OneRecord
unfolding from_digits count lowest link_to turn closing below
one_record m word room admits =
    let told = λ (n : ℕ). ap₂ (λ (k : ℕ) (b : Bool). refuse_if (ltb k n) 6 (refuse_if (not b) 7 (gives tt))) room (admits (m.words ++ word ∷ [])) in
    record {
      place_0 = told 0;
      place_8 = told 1;
      place_17 = told 1;
      place_63 = told 2;
      place_18 = told 1;
      seal = ap (λ (k : ℕ). refuse_if (ltb k 3) 6 (gives tt)) room;
    }
