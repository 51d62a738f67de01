-- A report that is being written.
use Rattle.std.specs.Prelude.{◌≡◌, ◌+◌, ◌++◌, string_bytes}
use Rattle.cells.specs.Refusals.{Answer}
use Rattle.locate.specs.declared.line.Place.{Place}
use Rattle.locate.specs.declared.report.Draft.{Draft}
use Rattle.locate.specs.Report.{shown, is_located, is_refused}

-- one more answer was written, and counted
pub record Noted (before : Draft) (x : Answer Place) (after : Draft) : Type 0 where
  pub text : string_bytes after.text ≡ string_bytes before.text ++ shown before.line x
  pub line : after.line ≡ before.line + 1
  pub located : after.located ≡ before.located + is_located x
  pub refused : after.refused ≡ before.refused + is_refused x
