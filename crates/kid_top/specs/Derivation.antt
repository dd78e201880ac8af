-- The derivation of a program by the range theory, as it is saved.
use Rattle.std.specs.Prelude.{ℕ, ℤ, List, codes}
use Rattle.kid_value.specs.PlainSort.{PlainSort, ints}
use Rattle.kid_sexp.specs.Plain.{Plain, Plains, atom, list, none, more, one}
use Rattle.kid_sexp.specs.Printing.{text}
use Rattle.kid_codec.specs.SortSpelling.{number_tree, headed}
use Rattle.kid_prog.specs.PlainProgram.{PlainProgram}

-- the one step: the range theory with its components' names, the bounds, and no moves
abbrev pub range_step : ℤ → ℤ → Plain
range_step lo hi =
    headed (codes "match") (more (atom (codes "range")) (more (list (more (atom (codes "low")) (one (atom (codes "high")))))
    (more (number_tree lo) (more (number_tree hi) (one (headed (codes "by") none))))))

abbrev pub steps_at : PlainSort → Plains
steps_at (ints lo hi) = one (range_step lo hi)
steps_at s = none

abbrev pub derivation_text : PlainProgram → List ℕ
derivation_text p = text (steps_at p.sort)
