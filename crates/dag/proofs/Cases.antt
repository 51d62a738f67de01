-- Worked halls, by computing.
use Rattle.std.proofs.Common.{refl}
use Rattle.cells.specs.Hall.{from_digits}
use Rattle.dag.specs.Sets.{count}
use Rattle.dag.specs.Records.{lowest, link_to}
use Rattle.dag.specs.Sealed.{turn, closing, below}
use Rattle.dag.specs.Cases.{ThreeCells, FullHall, ThreeRecords, NoCells}

pub three_cells : ThreeCells
unfolding from_digits count lowest link_to turn closing below
three_cells = refl

pub full_hall : FullHall
unfolding from_digits count lowest link_to turn closing below
full_hall = refl

pub three_records : ThreeRecords
unfolding from_digits count lowest link_to turn closing below
three_records = refl

pub no_cells : NoCells
unfolding from_digits count lowest link_to turn closing below
no_cells = refl
