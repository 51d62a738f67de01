-- What calls leave of what a map shows.
use Rattle.std.proofs.Common.{◌≡◌, Ok, Err, Result}
use Rattle.std.specs.Prelude.{OnOk, OnErr}
use Rattle.cells.specs.Refusals.{answer}
use Rattle.cells.specs.declared.refusal.Refusal.{Refusal}
use Rattle.voxels.specs.Shown.{Shown, Accepted, Refused}

-- what follows from an accepted call, and from a refused one
pub on_ok : {A P Q : Type 0} (r : Result A Refusal) → OnOk r P → (P → Q) → Accepted (answer r) Q
on_ok (Ok a) h f = f h
on_ok (Err e) h f = tt

pub on_err : {A P Q : Type 0} (r : Result A Refusal) → OnErr r P → (P → Q) → Refused (answer r) Q
on_err (Ok a) h f = tt
on_err (Err e) h f = f h

-- two maps show the same if all parts are the same
pub same_shown : (a b : Shown) → a.phase ≡ b.phase → a.levels ≡ b.levels → a.last ≡ b.last → a.rows ≡ b.rows → a.nodes ≡ b.nodes → a.capacity ≡ b.capacity
    → a.memory ≡ b.memory → a.behind ≡ b.behind → a.words ≡ b.words → a.admits ≡ b.admits → a ≡ b
same_shown a b phase levels last rows nodes capacity memory behind words admits = λ i. record {
  phase = phase i;
  levels = levels i;
  last = last i;
  rows = rows i;
  nodes = nodes i;
  capacity = capacity i;
  memory = memory i;
  behind = behind i;
  words = words i;
  admits = admits i;
}
