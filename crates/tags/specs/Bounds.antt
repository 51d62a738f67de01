-- The numbers that bound the kinds of tags and their words.
use Rattle.std.specs.Prelude.{ℕ}

-- the highest speed limit, in mm/s
abbrev pub top_speed : ℕ
top_speed = 1999

-- the highest load, in steps of 10 kg
abbrev pub top_load : ℕ
top_load = 6300

-- the highest number of a zone
abbrev pub top_zone : ℕ
top_zone = 255

-- the loads that a word keeps apart within one zone
abbrev pub loads_per_zone : ℕ
loads_per_zone = 8192

-- the lowest number of a plate
abbrev pub first_plate : ℕ
first_plate = 1

-- the highest number of a plate
abbrev pub last_plate : ℕ
last_plate = 65535

-- the written widths of the kinds, in bytes
abbrev pub speed_width : ℕ
speed_width = 2

abbrev pub load_width : ℕ
load_width = 3

abbrev pub label_width : ℕ
label_width = 2
