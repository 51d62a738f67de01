-- What is printed for a file.
use Rattle.std.specs.Prelude.{ℕ, ◌+◌, cond, List, [], ◌∷◌, ◌++◌, length, codes, decimal, nat_lt}
use Rattle.cells.specs.Refusals.{Answer, gives, refuses}
use Rattle.text.specs.Pieces.{pieces}
use Rattle.locate.specs.declared.line.Place.{Place}
use Rattle.locate.specs.Lines.{line_answer, levels_answer}

-- refusal n at line p
abbrev pub refusal_line : ℕ → ℕ → List ℕ
refusal_line n p = codes "refused " ++ (decimal n ++ (codes " at " ++ (decimal p ++ codes "\n")))

-- what is printed for the answer of line p
abbrev pub shown : ℕ → Answer Place → List ℕ
shown p (gives place) =
    codes "cell " ++ (decimal place.cell.x ++ (codes " " ++ (decimal place.cell.y ++ (codes " " ++ (decimal place.cell.z
    ++ (codes " code " ++ (decimal place.code ++ codes "\n")))))))
shown p (refuses n) = refusal_line n p

-- 1 for a line that is located, and 0 for one that is refused
abbrev pub is_located : Answer Place → ℕ
is_located (gives place) = 1
is_located (refuses n) = 0

abbrev pub is_refused : Answer Place → ℕ
is_refused (gives place) = 0
is_refused (refuses n) = 1

-- the last line: how many lines were located, and how many refused
abbrev pub summary : ℕ → ℕ → List ℕ
summary a b = codes "located " ++ (decimal a ++ (codes " refused " ++ (decimal b ++ codes "\n")))

-- the answers in their order from line p on, after a located and b refused lines, and then the summary
unfoldable pub answers : ℕ → ℕ → ℕ → List (Answer Place) → List ℕ
answers p a b [] = summary a b
answers p a b (x ∷ xs) = shown p x ++ answers (p + 1) (a + is_located x) (b + is_refused x) xs

-- what stands behind the last line feed is no line if it is empty, and else a line without its line feed
abbrev pub end_answers : List ℕ → List (Answer Place)
end_answers [] = []
end_answers (b ∷ bs) = refuses 12 ∷ []

-- the answers to what stands between the line feeds
unfoldable pub line_answers : ℕ → List (List ℕ) → List (Answer Place)
line_answers L [] = []
line_answers L (last ∷ []) = end_answers last
line_answers L (line ∷ next ∷ more) = line_answer L (pieces 32 line) ∷ line_answers L (next ∷ more)

-- the lines after the first, where that named its levels
abbrev pub after_first : Answer ℕ → List (List ℕ) → List ℕ
after_first (gives L) lines = answers 2 0 0 (line_answers L lines)
after_first (refuses n) lines = refusal_line n 1

-- a file by what stands between its line feeds: the first line has to end in one
abbrev pub by_lines : List (List ℕ) → List ℕ
by_lines [] = refusal_line 12 1
by_lines (first ∷ []) = refusal_line 12 1
by_lines (first ∷ next ∷ more) = after_first (levels_answer first) (next ∷ more)

-- the whole report: a file of more than 16,384 bytes is refused as a whole
abbrev pub report_of : List ℕ → List ℕ
report_of file = cond (nat_lt 16384 (length file)) (refusal_line 12 0) (by_lines (pieces 10 file))
