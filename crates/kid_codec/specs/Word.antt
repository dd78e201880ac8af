-- The words of the operators and of the binders.
use Rattle.std.specs.Prelude.{ℕ, List, [], ◌∷◌, Option, Some, None, if◌then◌else◌, codes}
use Rattle.std.specs.Str.{bytes_eq}
use Rattle.kid_term.specs.declared.operator.LogicOp.{LogicOp}
use Rattle.kid_term.specs.declared.operator.LogicOp.TheVariants as logic
use Rattle.kid_term.specs.declared.operator.NumberOp.{NumberOp}
use Rattle.kid_term.specs.declared.operator.NumberOp.TheVariants as num
use Rattle.kid_term.specs.declared.operator.PairOp.{PairOp}
use Rattle.kid_term.specs.declared.operator.PairOp.TheVariants as pair_op
use Rattle.kid_term.specs.declared.operator.SetOp.{SetOp}
use Rattle.kid_term.specs.declared.operator.SetOp.TheVariants as set_op
use Rattle.kid_term.specs.declared.operator.SeqOp.{SeqOp}
use Rattle.kid_term.specs.declared.operator.SeqOp.TheVariants as seq_op
use Rattle.kid_term.specs.declared.operator.MapOp.{MapOp}
use Rattle.kid_term.specs.declared.operator.MapOp.TheVariants as map_op
use Rattle.kid_term.specs.declared.operator.WordOp.{WordOp}
use Rattle.kid_term.specs.declared.operator.WordOp.TheVariants as word_op
use Rattle.kid_term.specs.declared.operator.Op.{Op}
use Rattle.kid_term.specs.declared.operator.Op.TheVariants.{Logic, Number, Pair, Set, Seq, Map, Word}
use Rattle.kid_term.specs.declared.operator.Binder.{Binder}
use Rattle.kid_term.specs.declared.operator.Binder.TheVariants as binder
use Rattle.kid_codec.specs.declared.word.TheConstants.{OPERATORS, BINDERS}

abbrev pub logic_word : LogicOp → List ℕ
logic_word logic.Not = codes "not"
logic_word logic.And = codes "and"
logic_word logic.Or = codes "or"
logic_word logic.Implies = codes "implies"
logic_word logic.If = codes "if"
logic_word logic.Eq = codes "eq"

abbrev pub number_word : NumberOp → List ℕ
number_word num.Le = codes "le"
number_word num.Lt = codes "lt"
number_word num.Add = codes "add"
number_word num.Sub = codes "sub"
number_word num.Neg = codes "neg"
number_word num.Mul = codes "mul"
number_word num.Div = codes "div"
number_word num.Mod = codes "mod"
number_word num.Min = codes "min"
number_word num.Max = codes "max"

abbrev pub pair_word : PairOp → List ℕ
pair_word pair_op.Pair = codes "pair"
pair_word pair_op.Fst = codes "fst"
pair_word pair_op.Snd = codes "snd"

abbrev pub set_word : SetOp → List ℕ
set_word set_op.Set = codes "set"
set_word set_op.Range = codes "range"
set_word set_op.In = codes "in"
set_word set_op.Subset = codes "subset"
set_word set_op.Union = codes "union"
set_word set_op.With = codes "with"
set_word set_op.Inter = codes "inter"
set_word set_op.Diff = codes "diff"
set_word set_op.Without = codes "without"
set_word set_op.Card = codes "card"
set_word set_op.Sum = codes "sum"
set_word set_op.Least = codes "least"

abbrev pub seq_word : SeqOp → List ℕ
seq_word seq_op.Seq = codes "seq"
seq_word seq_op.Len = codes "len"
seq_word seq_op.At = codes "at"
seq_word seq_op.Snoc = codes "snoc"
seq_word seq_op.Rest = codes "rest"
seq_word seq_op.Items = codes "items"
seq_word seq_op.Total = codes "total"
seq_word seq_op.Prefix = codes "prefix"

abbrev pub map_word : MapOp → List ℕ
map_word map_op.Map = codes "map"
map_word map_op.Dom = codes "dom"
map_word map_op.Ran = codes "ran"
map_word map_op.Get = codes "get"
map_word map_op.Put = codes "put"
map_word map_op.Drop = codes "drop"
map_word map_op.Fill = codes "fill"
map_word map_op.Submap = codes "submap"
map_word map_op.Fits = codes "fits"
map_word map_op.Narrow = codes "narrow"

abbrev pub word_operator_word : WordOp → List ℕ
word_operator_word word_op.Wenc = codes "wenc"
word_operator_word word_op.Wdec = codes "wdec"
word_operator_word word_op.Wor = codes "wor"
word_operator_word word_op.Wand = codes "wand"
word_operator_word word_op.Wnot = codes "wnot"
word_operator_word word_op.Wcard = codes "wcard"
word_operator_word word_op.Win = codes "win"
word_operator_word word_op.Wleast = codes "wleast"
word_operator_word word_op.Renc = codes "renc"
word_operator_word word_op.Rdec = codes "rdec"
word_operator_word word_op.Rget = codes "rget"
word_operator_word word_op.Rput = codes "rput"
word_operator_word word_op.Rdrop = codes "rdrop"

abbrev pub operator_word : Op → List ℕ
operator_word (Logic o) = logic_word o
operator_word (Number o) = number_word o
operator_word (Pair o) = pair_word o
operator_word (Set o) = set_word o
operator_word (Seq o) = seq_word o
operator_word (Map o) = map_word o
operator_word (Word o) = word_operator_word o

abbrev pub binder_word : Binder → List ℕ
binder_word binder.All = codes "all"
binder_word binder.Some = codes "some"
binder_word binder.SetOf = codes "setof"
binder_word binder.Image = codes "image"
binder_word binder.SumOf = codes "sumof"

-- the first thing that has the word
abbrev pub first_with : {A : Type 0} → (A → List ℕ) → List A → List ℕ → Option A
first_with word [] w = None
first_with word (x ∷ xs) w = if bytes_eq w (word x) then Some x else first_with word xs w

-- the operator of a word
unfoldable pub op_of : List ℕ → Option Op
op_of w = first_with operator_word OPERATORS w

-- the binder of a word
unfoldable pub binder_of : List ℕ → Option Binder
binder_of w = first_with binder_word BINDERS w
