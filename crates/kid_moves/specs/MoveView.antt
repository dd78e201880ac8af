-- Moves of the program as plain data.
use Rattle.kid_moves.specs.PlainRule.{PlainMove, left_of, right_of, both_of, again, concluded_by, after_lines}
use Rattle.kid_moves.specs.RuleView.{plain_rule}
use Rattle.kid_moves.specs.declared.step.Move.{Move}
use Rattle.kid_moves.specs.declared.step.Move.TheVariants.{Left, Right, Join, Again, Have, Copy}

abbrev pub plain_move : Move → PlainMove
plain_move (Left k) = left_of k
plain_move (Right k) = right_of k
plain_move (Join k l) = both_of k l
plain_move (Again k) = again k
plain_move (Have r ts) = concluded_by (plain_rule r) ts
plain_move (Copy k ls) = after_lines k ls
