-- Tags made from plain numbers.
use Rattle.std.specs.Prelude.{Some, None, Option}
use Rattle.cells.specs.Refusals.{Answer}

-- what comes only where a condition holds, and is absent otherwise
abbrev pub only_if : {P A : Type 0} → Dec P → (P → Option A) → Option A
only_if (yes h) next = next h
only_if (no _) next = None

-- a tag made from numbers: numbers outside the kind, which make no tag, are refused with 11
abbrev pub made : {A : Type 0} → Option A → Answer A
made (Some t) = Answer.gives t
made None = Answer.refuses 11

-- an answer, with its value shown another way
abbrev pub shown : {A B : Type 0} → (A → B) → Answer A → Answer B
shown f (Answer.gives a) = Answer.gives (f a)
shown f (Answer.refuses n) = Answer.refuses n
