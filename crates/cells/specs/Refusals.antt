-- The table of refusals: each refusal's number, and what a call answers.
use Rattle.std.specs.Prelude.{ℕ, Bool, true, false, Ok, Err, Result}
use Rattle.cells.specs.declared.refusal.Refusal.{Refusal}
use Rattle.cells.specs.declared.refusal.Refusal.TheVariants.{Levels, State, Outside, NotAbove, NothingThere, PoolFull, StoreFull, CornersCrossed, NotSealed, TagsUnfit, TagOutside, BadLine, TooManyBoxes, BufferShort}

-- the number of each refusal
abbrev pub number_of : Refusal → ℕ
number_of Levels = 1
number_of State = 2
number_of Outside = 3
number_of NotAbove = 4
number_of NothingThere = 5
number_of PoolFull = 6
number_of StoreFull = 7
number_of CornersCrossed = 8
number_of NotSealed = 9
number_of TagsUnfit = 10
number_of TagOutside = 11
number_of BadLine = 12
number_of TooManyBoxes = 13
number_of BufferShort = 14

-- what a call answers: a value, or the number of its refusal and nothing more
pub data Answer (A : Type 0) : Type 0 where
  gives : A → Answer A
  refuses : ℕ → Answer A

-- a result of the code, shown as an answer
abbrev pub answer : {A : Type 0} → Result A Refusal → Answer A
answer (Ok a) = gives a
answer (Err e) = refuses (number_of e)

-- a call refuses with number n where its condition holds, and otherwise answers what comes next
abbrev pub refuse_if : {A : Type 0} → Bool → ℕ → Answer A → Answer A
refuse_if true n next = refuses n
refuse_if false n next = next
