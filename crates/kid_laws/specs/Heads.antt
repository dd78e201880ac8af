-- The words and letters with which the laws are written: each is a term.
use Rattle.std.specs.Prelude.{pos, true, false, codes}
use Rattle.kid_term.specs.PlainTerm.{PlainTerm, var, number, truth}
use Rattle.kid_term.specs.declared.operator.Op.TheVariants.{Logic, Number, Set, Seq, Map}
use Rattle.kid_term.specs.declared.operator.LogicOp.TheVariants as logic
use Rattle.kid_term.specs.declared.operator.NumberOp.TheVariants as num
use Rattle.kid_term.specs.declared.operator.SetOp.TheVariants as set
use Rattle.kid_term.specs.declared.operator.SeqOp.TheVariants as seq
use Rattle.kid_term.specs.declared.operator.MapOp.TheVariants as map_op
use Rattle.kid_laws.specs.Law.{none, one, two, three}

-- ---- variables

abbrev pub a : PlainTerm
a = var (codes "a")

abbrev pub b : PlainTerm
b = var (codes "b")

abbrev pub c : PlainTerm
c = var (codes "c")

abbrev pub d : PlainTerm
d = var (codes "d")

abbrev pub m : PlainTerm
m = var (codes "m")

abbrev pub n : PlainTerm
n = var (codes "n")

abbrev pub p : PlainTerm
p = var (codes "p")

abbrev pub q : PlainTerm
q = var (codes "q")

abbrev pub r : PlainTerm
r = var (codes "r")

abbrev pub s : PlainTerm
s = var (codes "s")

abbrev pub t : PlainTerm
t = var (codes "t")

abbrev pub u : PlainTerm
u = var (codes "u")

abbrev pub v : PlainTerm
v = var (codes "v")

abbrev pub w : PlainTerm
w = var (codes "w")

abbrev pub x : PlainTerm
x = var (codes "x")

abbrev pub y : PlainTerm
y = var (codes "y")

-- ---- literals

abbrev pub true' : PlainTerm
true' = truth true

abbrev pub false' : PlainTerm
false' = truth false

abbrev pub zero' : PlainTerm
zero' = number (pos 0)

abbrev pub one' : PlainTerm
one' = number (pos 1)

-- ---- truth values

abbrev pub not' : PlainTerm → PlainTerm
not' f = one (Logic logic.Not) f

abbrev pub and' : PlainTerm → PlainTerm → PlainTerm
and' f g = two (Logic logic.And) f g

abbrev pub or' : PlainTerm → PlainTerm → PlainTerm
or' f g = two (Logic logic.Or) f g

abbrev pub implies' : PlainTerm → PlainTerm → PlainTerm
implies' f g = two (Logic logic.Implies) f g

abbrev pub if' : PlainTerm → PlainTerm → PlainTerm → PlainTerm
if' f g h = three (Logic logic.If) f g h

abbrev pub eq' : PlainTerm → PlainTerm → PlainTerm
eq' f g = two (Logic logic.Eq) f g

-- ---- numbers

abbrev pub le' : PlainTerm → PlainTerm → PlainTerm
le' f g = two (Number num.Le) f g

abbrev pub lt' : PlainTerm → PlainTerm → PlainTerm
lt' f g = two (Number num.Lt) f g

abbrev pub add' : PlainTerm → PlainTerm → PlainTerm
add' f g = two (Number num.Add) f g

abbrev pub sub' : PlainTerm → PlainTerm → PlainTerm
sub' f g = two (Number num.Sub) f g

abbrev pub neg' : PlainTerm → PlainTerm
neg' f = one (Number num.Neg) f

abbrev pub mul' : PlainTerm → PlainTerm → PlainTerm
mul' f g = two (Number num.Mul) f g

abbrev pub min' : PlainTerm → PlainTerm → PlainTerm
min' f g = two (Number num.Min) f g

abbrev pub max' : PlainTerm → PlainTerm → PlainTerm
max' f g = two (Number num.Max) f g

-- ---- sets

abbrev pub empty' : PlainTerm
empty' = none (Set set.Set)

abbrev pub set' : PlainTerm → PlainTerm
set' f = one (Set set.Set) f

abbrev pub range' : PlainTerm → PlainTerm → PlainTerm
range' f g = two (Set set.Range) f g

abbrev pub in' : PlainTerm → PlainTerm → PlainTerm
in' f g = two (Set set.In) f g

abbrev pub subset' : PlainTerm → PlainTerm → PlainTerm
subset' f g = two (Set set.Subset) f g

abbrev pub union' : PlainTerm → PlainTerm → PlainTerm
union' f g = two (Set set.Union) f g

abbrev pub with' : PlainTerm → PlainTerm → PlainTerm
with' f g = two (Set set.With) f g

abbrev pub inter' : PlainTerm → PlainTerm → PlainTerm
inter' f g = two (Set set.Inter) f g

abbrev pub diff' : PlainTerm → PlainTerm → PlainTerm
diff' f g = two (Set set.Diff) f g

abbrev pub without' : PlainTerm → PlainTerm → PlainTerm
without' f g = two (Set set.Without) f g

abbrev pub card' : PlainTerm → PlainTerm
card' f = one (Set set.Card) f

abbrev pub sum' : PlainTerm → PlainTerm
sum' f = one (Set set.Sum) f

abbrev pub least' : PlainTerm → PlainTerm → PlainTerm
least' f g = two (Set set.Least) f g

-- ---- sequences

abbrev pub len' : PlainTerm → PlainTerm
len' f = one (Seq seq.Len) f

abbrev pub at' : PlainTerm → PlainTerm → PlainTerm → PlainTerm
at' f g h = three (Seq seq.At) f g h

abbrev pub snoc' : PlainTerm → PlainTerm → PlainTerm
snoc' f g = two (Seq seq.Snoc) f g

abbrev pub items' : PlainTerm → PlainTerm
items' f = one (Seq seq.Items) f

abbrev pub total' : PlainTerm → PlainTerm
total' f = one (Seq seq.Total) f

abbrev pub prefix' : PlainTerm → PlainTerm → PlainTerm
prefix' f g = two (Seq seq.Prefix) f g

-- ---- maps

abbrev pub dom' : PlainTerm → PlainTerm
dom' f = one (Map map_op.Dom) f

abbrev pub get' : PlainTerm → PlainTerm → PlainTerm → PlainTerm
get' f g h = three (Map map_op.Get) f g h

abbrev pub put' : PlainTerm → PlainTerm → PlainTerm → PlainTerm
put' f g h = three (Map map_op.Put) f g h

abbrev pub submap' : PlainTerm → PlainTerm → PlainTerm
submap' f g = two (Map map_op.Submap) f g

abbrev pub fits' : PlainTerm → PlainTerm → PlainTerm
fits' f g = two (Map map_op.Fits) f g
