-- Lines and moves as trees, and those that have a spelling.
use Rattle.std.specs.Prelude.{◌≡◌, ℕ, pos, Bool, true, false, ◌&&◌, List, [], ◌∷◌, codes}
use Rattle.std.specs.List.{list_all}
use Rattle.kid_sexp.specs.Plain.{Plain, Plains, list, none, more, one}
use Rattle.kid_term.specs.PlainTerm.{PlainTerm, term_row}
use Rattle.kid_codec.specs.SortSpelling.{number_tree, headed}
use Rattle.kid_codec.specs.TermSpelling.{term_spellings}
use Rattle.kid_moves.specs.PlainRule.{PlainLine, PlainMove, left_of, right_of, both_of, again, concluded_by, after_lines}
use Rattle.kid_lines.specs.RuleSpelling.{rule_spelling, is_index, is_plain_term, is_spelled_rule}

abbrev pub index_spelling : ℕ → Plain
index_spelling n = number_tree (pos n)

-- the child numbers of a path
abbrev pub index_spellings : List ℕ → Plains
index_spellings [] = none
index_spellings (n ∷ ns) = more (index_spelling n) (index_spellings ns)

abbrev pub side_word : Bool → List ℕ
side_word false = codes "at"
side_word true = codes "back"

-- (at PATH RULE) or (back PATH RULE)
abbrev pub line_spelling : PlainLine → Plain
line_spelling l = headed (side_word l.back) (more (list (index_spellings l.path)) (one (rule_spelling l.rule l.args)))

abbrev pub line_spellings : List PlainLine → Plains
line_spellings [] = none
line_spellings (l ∷ ls) = more (line_spelling l) (line_spellings ls)

-- (left FACT), (right FACT), (join FACT FACT), (again FACT), (have RULE (TERM ..)) with a rule without arguments, or (copy FACT LINE ..)
abbrev pub move_spelling : PlainMove → Plain
move_spelling (left_of k) = headed (codes "left") (one (index_spelling k))
move_spelling (right_of k) = headed (codes "right") (one (index_spelling k))
move_spelling (both_of k l) = headed (codes "join") (more (index_spelling k) (one (index_spelling l)))
move_spelling (again k) = headed (codes "again") (one (index_spelling k))
move_spelling (concluded_by r ts) = headed (codes "have") (more (rule_spelling r []) (one (list (term_spellings (term_row ts)))))
move_spelling (after_lines k ls) = headed (codes "copy") (more (index_spelling k) (line_spellings ls))

-- the lines that have a spelling
abbrev pub is_spelled_line : PlainLine → Bool
is_spelled_line l = list_all is_index l.path && is_spelled_rule l.rule l.args

-- the moves that have a spelling
abbrev pub is_spelled_move : PlainMove → Bool
is_spelled_move (left_of k) = is_index k
is_spelled_move (right_of k) = is_index k
is_spelled_move (both_of k l) = is_index k && is_index l
is_spelled_move (again k) = is_index k
is_spelled_move (concluded_by r ts) = is_spelled_rule r [] && list_all is_plain_term ts
is_spelled_move (after_lines k ls) = is_index k && list_all is_spelled_line ls

-- the tree spells the line
pub record SpellsLine (t : Plain) (l : PlainLine) : Type 0 where
  pub tree : t ≡ line_spelling l
  pub spelled : is_spelled_line l ≡ true

-- the tree spells the move
pub record SpellsMove (t : Plain) (m : PlainMove) : Type 0 where
  pub tree : t ≡ move_spelling m
  pub spelled : is_spelled_move m ≡ true
