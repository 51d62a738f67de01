-- Number plates.
use Rattle.std.specs.Prelude.{ℕ, Some, Option}
use Rattle.std.proofs.Math.Decide.{dec_le}
use Rattle.tags.specs.declared.label.Label.{Label}
use Rattle.tags.specs.Bounds.{first_plate, last_plate}
use Rattle.tags.specs.Making.{only_if}

-- the number of a label's plate, which is its word
abbrev pub plate_of : Label → ℕ
plate_of t = t.plate

-- the label with this number: absent below the first and above the last
abbrev pub label_of : ℕ → Option Label
label_of plate =
    only_if (dec_le first_plate plate) (λ some.
    only_if (dec_le plate last_plate) (λ last. Some (record { plate = plate; some = some; last = last })))
