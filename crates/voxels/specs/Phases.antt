-- What holds of a map in each phase.
use Rattle.std.specs.Prelude.{ℕ, ◌^◌, Bool, true, false, ◌||◌, Some, None, Ok, Err, Option, Result, nat_lt}
use Rattle.cells.specs.Refusals.{Answer, refuses, number_of}
use Rattle.cells.specs.declared.refusal.Refusal.{Refusal}
use Rattle.cells.specs.Hall.{levels_fit}
use Rattle.voxels.specs.declared.phase.Phase.{Phase}
use Rattle.voxels.specs.declared.phase.Phase.TheVariants.{Void, Open, Sealed}

-- whether a map is void
abbrev pub is_void : Phase → Bool
is_void (Void refusal) = true
is_void Open = false
is_void Sealed = false

-- the number that made a map void; a map that is not void has none
abbrev pub void_by : Phase → Option ℕ
void_by (Void refusal) = Some (number_of refusal)
void_by Open = None
void_by Sealed = None

-- the number that a call refused with, if it did
abbrev pub refused_by : {A : Type 0} → Result A Refusal → Option ℕ
refused_by (Ok value) = None
refused_by (Err refusal) = Some (number_of refusal)

-- a map that is not void has 1 to 10 levels
abbrev pub levels_in : Phase → ℕ → Bool
levels_in phase L = is_void phase || levels_fit L

-- the last accepted code is one of the hall
abbrev pub last_in : Option ℕ → ℕ → Bool
last_in None L = true
last_in (Some last) L = nat_lt last (8 ^ L)

-- the answer of a call that wants an open map: a void map refuses with its number, a sealed one with 2
abbrev pub if_open : {A : Type 0} → Phase → Answer A → Answer A
if_open (Void refusal) next = refuses (number_of refusal)
if_open Open next = next
if_open Sealed next = refuses 2

-- the answer of a call that wants a sealed map: a void map refuses with its number, an open one with 2
abbrev pub if_sealed : {A : Type 0} → Phase → Answer A → Answer A
if_sealed (Void refusal) next = refuses (number_of refusal)
if_sealed Open next = refuses 2
if_sealed Sealed next = next
