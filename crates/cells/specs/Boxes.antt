-- Boxes of cells. Both corners belong to the box.
use Rattle.std.specs.Prelude.{Bool, ◌&&◌, nat_le}
use Rattle.cells.specs.declared.hall.Cell.{Cell}
use Rattle.cells.specs.declared.boxes.CellBox.{CellBox}

-- on no axis the first cell lies above the second
abbrev pub not_above : Cell → Cell → Bool
not_above a b = nat_le a.x b.x && nat_le a.y b.y && nat_le a.z b.z

-- a box holds a cell that lies, on each axis, from its low corner to its high corner
abbrev pub box_holds : CellBox → Cell → Bool
box_holds b c = not_above b.low c && not_above c b.high
