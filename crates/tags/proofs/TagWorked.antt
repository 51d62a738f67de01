-- The worked cases hold: each side computes to the other.
use Rattle.std.proofs.Common.{refl}
use Rattle.tags.specs.TagCases.{TopLoadWord, SeventeenthRefused, SingleChanged, DoubleKept}

pub top_load_word : TopLoadWord
top_load_word = refl

pub seventeenth_refused : SeventeenthRefused
seventeenth_refused = refl

pub single_changed : SingleChanged
single_changed = refl

pub double_kept : DoubleKept
double_kept = refl
