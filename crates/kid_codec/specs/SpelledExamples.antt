-- Trees, and what they spell.
use Rattle.std.specs.Prelude.{pos, codes}
use Rattle.kid_sexp.specs.Plain as tree
use Rattle.kid_sexp.specs.Plain.{Plain, Plains, atom, list, one}
use Rattle.kid_value.specs.PlainValue.{PlainValue, int, set, none, more}
use Rattle.kid_codec.specs.SortSpelling.{headed}
use Rattle.kid_codec.specs.SpelledValue.{Spells}

-- `(set 2 1 2)` and `(map (1 2) (1 2))`
abbrev pub set_with_a_repeat : Plain
set_with_a_repeat = headed (codes "set") (tree.more (atom (codes "2")) (tree.more (atom (codes "1")) (one (atom (codes "2")))))

abbrev pub two_under_one : Plain
two_under_one = list (tree.more (atom (codes "1")) (one (atom (codes "2"))))

abbrev pub map_with_a_repeat : Plain
map_with_a_repeat = headed (codes "map") (tree.more two_under_one (one two_under_one))

-- the one spells the set of 1 and 2, and the other, in which a key stands twice, spells no value
pub record SpelledExamples : Type 0 where
  pub repeated_member : Spells set_with_a_repeat (set (more (int (pos 1)) (more (int (pos 2)) none)))
  pub repeated_key : (v : PlainValue) → Spells map_with_a_repeat v → ⊥
