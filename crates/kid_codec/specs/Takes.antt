-- How many arguments an operator takes, and how many of them are written as numbers.
use Rattle.std.specs.Prelude.{ℕ, Bool, true, ◌==◌}
use Rattle.kid_term.specs.declared.operator.LogicOp.{LogicOp}
use Rattle.kid_term.specs.declared.operator.LogicOp.TheVariants as logic
use Rattle.kid_term.specs.declared.operator.NumberOp.{NumberOp}
use Rattle.kid_term.specs.declared.operator.NumberOp.TheVariants as num
use Rattle.kid_term.specs.declared.operator.PairOp.{PairOp}
use Rattle.kid_term.specs.declared.operator.PairOp.TheVariants as pair_op
use Rattle.kid_term.specs.declared.operator.SetOp.{SetOp}
use Rattle.kid_term.specs.declared.operator.SetOp.TheVariants as set_op
use Rattle.kid_term.specs.declared.operator.SeqOp.{SeqOp}
use Rattle.kid_term.specs.declared.operator.SeqOp.TheVariants as seq_op
use Rattle.kid_term.specs.declared.operator.MapOp.{MapOp}
use Rattle.kid_term.specs.declared.operator.MapOp.TheVariants as map_op
use Rattle.kid_term.specs.declared.operator.WordOp.{WordOp}
use Rattle.kid_term.specs.declared.operator.WordOp.TheVariants as word_op
use Rattle.kid_term.specs.declared.operator.Op.{Op}
use Rattle.kid_term.specs.declared.operator.Op.TheVariants.{Logic, Number, Pair, Set, Seq, Map, Word}

-- whether an operator takes so many arguments
abbrev pub logic_takes : LogicOp → ℕ → Bool
logic_takes logic.Not n = n == 1
logic_takes logic.If n = n == 3
logic_takes o n = n == 2

abbrev pub number_takes : NumberOp → ℕ → Bool
number_takes num.Neg n = n == 1
number_takes o n = n == 2

abbrev pub pair_takes : PairOp → ℕ → Bool
pair_takes pair_op.Pair n = n == 2
pair_takes o n = n == 1

abbrev pub set_takes : SetOp → ℕ → Bool
set_takes set_op.Set n = true
set_takes set_op.Card n = n == 1
set_takes set_op.Sum n = n == 1
set_takes o n = n == 2

abbrev pub seq_takes : SeqOp → ℕ → Bool
seq_takes seq_op.Seq n = true
seq_takes seq_op.Len n = n == 1
seq_takes seq_op.Items n = n == 1
seq_takes seq_op.Total n = n == 1
seq_takes seq_op.At n = n == 3
seq_takes o n = n == 2

abbrev pub map_takes : MapOp → ℕ → Bool
map_takes map_op.Map n = n == 0
map_takes map_op.Dom n = n == 1
map_takes map_op.Ran n = n == 1
map_takes map_op.Get n = n == 3
map_takes map_op.Put n = n == 3
map_takes o n = n == 2

abbrev pub word_operator_takes : WordOp → ℕ → Bool
word_operator_takes word_op.Wcard n = n == 1
word_operator_takes word_op.Wor n = n == 2
word_operator_takes word_op.Wand n = n == 2
word_operator_takes word_op.Wnot n = n == 2
word_operator_takes word_op.Rdec n = n == 2
word_operator_takes word_op.Rget n = n == 4
word_operator_takes word_op.Rput n = n == 4
word_operator_takes o n = n == 3

abbrev pub takes : Op → ℕ → Bool
takes (Logic o) n = logic_takes o n
takes (Number o) n = number_takes o n
takes (Pair o) n = pair_takes o n
takes (Set o) n = set_takes o n
takes (Seq o) n = seq_takes o n
takes (Map o) n = map_takes o n
takes (Word o) n = word_operator_takes o n

-- how many arguments of an operator, which stand first, are written as numbers
abbrev pub word_operator_numbers : WordOp → ℕ
word_operator_numbers word_op.Wenc = 2
word_operator_numbers word_op.Wdec = 2
word_operator_numbers word_op.Renc = 2
word_operator_numbers word_op.Wor = 0
word_operator_numbers word_op.Wand = 0
word_operator_numbers word_op.Wnot = 0
word_operator_numbers word_op.Wcard = 0
word_operator_numbers o = 1

abbrev pub numbers_first : Op → ℕ
numbers_first (Word o) = word_operator_numbers o
numbers_first o = 0
