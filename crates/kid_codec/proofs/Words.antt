-- Words and what has them. Each operator is found in the list of all operators; what else is shown of each goes through that list.
use Rattle.std.proofs.Common.{◌≡◌, ℕ, Bool, true, List, Option, Some, None, refl, sym}
use Rattle.std.specs.Prelude.{IfSome}
use Rattle.std.specs.List.{list_all}
use Rattle.kid_codec.specs.declared.word.TheConstants.{OPERATORS, BINDERS}
use Rattle.kid_codec.proofs.Found.{first_with-word, first_with-all}
use Rattle.kid_term.specs.declared.operator.LogicOp.TheVariants as logic
use Rattle.kid_term.specs.declared.operator.NumberOp.TheVariants as num
use Rattle.kid_term.specs.declared.operator.PairOp.TheVariants as pair_op
use Rattle.kid_term.specs.declared.operator.SetOp.TheVariants as set_op
use Rattle.kid_term.specs.declared.operator.SeqOp.TheVariants as seq_op
use Rattle.kid_term.specs.declared.operator.MapOp.TheVariants as map_op
use Rattle.kid_term.specs.declared.operator.WordOp.TheVariants as word_op
use Rattle.kid_term.specs.declared.operator.Op.{Op}
use Rattle.kid_term.specs.declared.operator.Op.TheVariants.{Logic, Number, Pair, Set, Seq, Map, Word}
use Rattle.kid_term.specs.declared.operator.Binder.{Binder}
use Rattle.kid_term.specs.declared.operator.Binder.TheVariants as binder
use Rattle.kid_codec.specs.Word.{operator_word, op_of, binder_word, binder_of}

pub op_of-word : (o : Op) → op_of (operator_word o) ≡ Some o
unfolding op_of
op_of-word (Logic logic.Not) = refl
op_of-word (Logic logic.And) = refl
op_of-word (Logic logic.Or) = refl
op_of-word (Logic logic.Implies) = refl
op_of-word (Logic logic.If) = refl
op_of-word (Logic logic.Eq) = refl
op_of-word (Number num.Le) = refl
op_of-word (Number num.Lt) = refl
op_of-word (Number num.Add) = refl
op_of-word (Number num.Sub) = refl
op_of-word (Number num.Neg) = refl
op_of-word (Number num.Mul) = refl
op_of-word (Number num.Div) = refl
op_of-word (Number num.Mod) = refl
op_of-word (Number num.Min) = refl
op_of-word (Number num.Max) = refl
op_of-word (Pair pair_op.Pair) = refl
op_of-word (Pair pair_op.Fst) = refl
op_of-word (Pair pair_op.Snd) = refl
op_of-word (Set set_op.Set) = refl
op_of-word (Set set_op.Range) = refl
op_of-word (Set set_op.In) = refl
op_of-word (Set set_op.Subset) = refl
op_of-word (Set set_op.Union) = refl
op_of-word (Set set_op.With) = refl
op_of-word (Set set_op.Inter) = refl
op_of-word (Set set_op.Diff) = refl
op_of-word (Set set_op.Without) = refl
op_of-word (Set set_op.Card) = refl
op_of-word (Set set_op.Sum) = refl
op_of-word (Set set_op.Least) = refl
op_of-word (Seq seq_op.Seq) = refl
op_of-word (Seq seq_op.Len) = refl
op_of-word (Seq seq_op.At) = refl
op_of-word (Seq seq_op.Snoc) = refl
op_of-word (Seq seq_op.Rest) = refl
op_of-word (Seq seq_op.Items) = refl
op_of-word (Seq seq_op.Total) = refl
op_of-word (Seq seq_op.Prefix) = refl
op_of-word (Map map_op.Map) = refl
op_of-word (Map map_op.Dom) = refl
op_of-word (Map map_op.Ran) = refl
op_of-word (Map map_op.Get) = refl
op_of-word (Map map_op.Put) = refl
op_of-word (Map map_op.Drop) = refl
op_of-word (Map map_op.Fill) = refl
op_of-word (Map map_op.Submap) = refl
op_of-word (Map map_op.Fits) = refl
op_of-word (Map map_op.Narrow) = refl
op_of-word (Word word_op.Wenc) = refl
op_of-word (Word word_op.Wdec) = refl
op_of-word (Word word_op.Wor) = refl
op_of-word (Word word_op.Wand) = refl
op_of-word (Word word_op.Wnot) = refl
op_of-word (Word word_op.Wcard) = refl
op_of-word (Word word_op.Win) = refl
op_of-word (Word word_op.Wleast) = refl
op_of-word (Word word_op.Renc) = refl
op_of-word (Word word_op.Rdec) = refl
op_of-word (Word word_op.Rget) = refl
op_of-word (Word word_op.Rput) = refl
op_of-word (Word word_op.Rdrop) = refl

-- what the list's operators pass, each operator passes
pub of_each : (test : Op → Bool) → list_all test OPERATORS ≡ true → (o : Op) → test o ≡ true
unfolding op_of
of_each test each o = first_with-all operator_word test OPERATORS (operator_word o) o (op_of-word o) each

pub binder_of-word : (b : Binder) → binder_of (binder_word b) ≡ Some b
unfolding binder_of
binder_of-word binder.All = refl
binder_of-word binder.Some = refl
binder_of-word binder.SetOf = refl
binder_of-word binder.Image = refl
binder_of-word binder.SumOf = refl

-- an operator that is found has the word, and so has a binder
pub op_of-told : (w : List ℕ) (o : Op) → op_of w ≡ Some o → w ≡ operator_word o
unfolding op_of
op_of-told w o p = first_with-word operator_word OPERATORS w o p

pub binder_of-told : (w : List ℕ) (b : Binder) → binder_of w ≡ Some b → w ≡ binder_word b
unfolding binder_of
binder_of-told w b p = first_with-word binder_word BINDERS w b p

pub op_found : (o : Option Op) (w : List ℕ) → o ≡ op_of w → IfSome o (λ p. w ≡ operator_word p)
op_found None w h = tt
op_found (Some o) w h = op_of-told w o (sym h)

pub binder_found : (b : Option Binder) (w : List ℕ) → b ≡ binder_of w → IfSome b (λ p. w ≡ binder_word p)
binder_found None w h = tt
binder_found (Some b) w h = binder_of-told w b (sym h)
