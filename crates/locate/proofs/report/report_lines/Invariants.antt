use Rattle.std.proofs.Common.{◌≡◌, ◌+◌, ◌≤◌, ◌++◌, length, string_bytes}
use Rattle.text.specs.Pieces.{pieces}
use Rattle.locate.specs.Report.{answers, line_answers}
use Rattle.locate.proofs.report.report_lines.Given as goal

-- what was written and the answers to what is left make the whole report; each line took a byte at least
abbrev pub invariant-loop-after : goal.invariant-loop-after
invariant-loop-after l =
    (string_bytes l.draft.text ++ answers l.draft.line l.draft.located l.draft.refused (line_answers l.levels (pieces 10 l.rest))
    ≡ answers 2 0 0 (line_answers l.levels (pieces 10 l.lines)))
    × (l.draft.line + length l.rest ≤ 16386)
    × (l.draft.located + l.draft.refused + 2 ≤ l.draft.line)

abbrev pub decreases-loop-after : goal.decreases-loop-after
decreases-loop-after l = length l.rest
