-- The report, piece by piece.
use Rattle.std.proofs.Common.{◌≡◌, ℕ, ◌+◌, ◌<◌, ◌≤◌, List, [], ◌∷◌, ◌++◌, length, string_bytes, sym, refl, ap, ◌∙◌, append_assoc, arith}
use Rattle.cells.specs.Refusals.{Answer, gives, refuses}
use Rattle.text.specs.Pieces.{pieces}
use Rattle.text.proofs.Cuts.{first_piece}
use Rattle.locate.specs.declared.line.Place.{Place}
use Rattle.locate.specs.declared.report.Draft.{Draft}
use Rattle.std.proofs.lemmas.Bool.{le-ltb}
use Rattle.locate.specs.Lines.{line_answer, levels_answer}
use Rattle.locate.specs.Report.{shown, is_located, is_refused, summary, answers, end_answers, line_answers, after_first, by_lines, report_of}
use Rattle.locate.specs.Drafts.{Noted}

-- nothing stands behind the last line feed
pub end_none : (p a b : ℕ) (last : List ℕ) → length last ≡ 0 → summary a b ≡ answers p a b (end_answers last)
unfolding answers
end_none p a b [] h = refl
end_none p a b (x ∷ xs) h = absurd (omega arith)

-- a line without its line feed
end_some : (p a b : ℕ) (last : List ℕ) → 0 < length last → end_answers last ≡ refuses 12 ∷ []
end_some p a b [] h = absurd (omega arith)
end_some p a b (x ∷ xs) h = refl

-- one more answer, and what follows it
pub answers_more : (d e : Draft) (x : Answer Place) (xs : List (Answer Place)) → Noted d x e
    → string_bytes e.text ++ answers e.line e.located e.refused xs
    ≡ string_bytes d.text ++ answers d.line d.located d.refused (x ∷ xs)
unfolding answers
answers_more d e x xs n =
    rw (n.text, n.line, n.located, n.refused)
    (append_assoc (string_bytes d.text) (shown d.line x) (answers (d.line + 1) (d.located + is_located x) (d.refused + is_refused x) xs))

-- the text after the summary, where a line without its line feed was noted before it
pub end_noted : (d e : Draft) (last : List ℕ) → 0 < length last → Noted d (refuses 12) e
    → string_bytes e.text ++ summary e.located e.refused
    ≡ string_bytes d.text ++ answers d.line d.located d.refused (end_answers last)
unfolding answers
end_noted d e last h n =
    answers_more d e (refuses 12) [] n
    ∙ ap (λ xs. string_bytes d.text ++ answers d.line d.located d.refused xs) (sym (end_some 0 0 0 last h))

-- a line that ends in its line feed, and what follows it
pub lines_more : (L : ℕ) (line rest : List ℕ) → line_answers L (line ∷ pieces 10 rest) ≡ line_answer L (pieces 32 line) ∷ line_answers L (pieces 10 rest)
unfolding line_answers
lines_more L line rest = let h = first_piece 10 rest in rw h.2 refl

pub lines_last : (L : ℕ) (last : List ℕ) → line_answers L (last ∷ []) ≡ end_answers last
unfolding line_answers
lines_last L last = refl

-- a line was noted: what is left makes the same report
pub lines_step : (L : ℕ) (d e : Draft) (x : Answer Place) (line rest after : List ℕ)
    → Noted d x e → x ≡ line_answer L (pieces 32 line) → pieces 10 rest ≡ line ∷ pieces 10 after
    → string_bytes e.text ++ answers e.line e.located e.refused (line_answers L (pieces 10 after))
    ≡ string_bytes d.text ++ answers d.line d.located d.refused (line_answers L (pieces 10 rest))
lines_step L d e x line rest after n f g =
    answers_more d e x (line_answers L (pieces 10 after)) n
    ∙ ap (λ xs. string_bytes d.text ++ answers d.line d.located d.refused xs)
    (ap (λ y. y ∷ line_answers L (pieces 10 after)) f ∙ sym (lines_more L line after) ∙ ap (line_answers L) (sym g))

-- each line is located or refused
pub counted : (x : Answer Place) → is_located x + is_refused x ≡ 1
counted (gives place) = refl
counted (refuses n) = refl

-- a file that is not too long, and whose first line ends
pub report_is : (file first rest : List ℕ) (x : Answer ℕ) → length file ≤ 16384 → pieces 10 file ≡ first ∷ pieces 10 rest → x ≡ levels_answer first
    → after_first x (pieces 10 rest) ≡ report_of file
report_is file first rest x h e f =
    let g = first_piece 10 rest in
    let t : by_lines (first ∷ pieces 10 rest) ≡ after_first (levels_answer first) (pieces 10 rest) = rw g.2 refl in
    rw (le-ltb 16384 (length file) h, e, t) (ap (λ y. after_first y (pieces 10 rest)) f)
