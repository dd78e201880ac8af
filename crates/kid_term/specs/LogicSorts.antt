-- The sorts of the operators on truth values.
use Rattle.std.specs.Prelude.{List, Ok}
use Rattle.kid_value.specs.PlainSort.{PlainSort, bools}
use Rattle.kid_value.specs.SortOrder.{join}
use Rattle.kid_term.specs.Sorted.{Sorted, allowed, with_one, with_two, with_three, with_bool, with_join}
use Rattle.kid_term.specs.declared.operator.LogicOp.{LogicOp}
use Rattle.kid_term.specs.declared.operator.LogicOp.TheVariants.{Not, And, Or, Implies, If, Eq}

abbrev pub two_bools : List PlainSort → Sorted
two_bools ss = with_two ss (λ a b. with_bool a (with_bool b (Ok bools)))

abbrev pub logic_sort : LogicOp → List PlainSort → Sorted
logic_sort Not ss = with_one ss (λ a. with_bool a (Ok bools))
logic_sort And ss = two_bools ss
logic_sort Or ss = two_bools ss
logic_sort Implies ss = two_bools ss
logic_sort If ss = with_three ss (λ p a b. with_bool p (with_join (join a b) allowed))
logic_sort Eq ss = with_two ss (λ a b. with_join (join a b) (λ _. Ok bools))
