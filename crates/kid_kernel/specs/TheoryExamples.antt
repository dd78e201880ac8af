-- A small theory: which laws may stand in it, and which inputs are good.
use Rattle.std.specs.Prelude.{◌≡◌, ℕ, Bool, true, false, pos, List, [], ◌∷◌, None, codes}
use Rattle.kid_value.specs.PlainSort.{bools, ints}
use Rattle.kid_value.specs.PlainValue.{PlainValue, int}
use Rattle.kid_term.specs.Eval.{Env}
use Rattle.kid_term.specs.Good.{Good}
use Rattle.kid_term.specs.Names.{Names}
use Rattle.kid_term.specs.PlainLaw.{PlainConclusion, equal, holds, PlainLaw}
use Rattle.kid_term.specs.PlainTerm.{PlainTerm, op, var, number, truth, app, bind, no_term, term}
use Rattle.kid_term.specs.PlainTheory.{PlainTheory}
use Rattle.kid_term.specs.declared.operator.Binder.TheVariants as binder
use Rattle.kid_term.specs.declared.operator.NumberOp.TheVariants as num
use Rattle.kid_term.specs.declared.operator.Op.TheVariants.{Number, Set}
use Rattle.kid_term.specs.declared.operator.SetOp.TheVariants as set_word
use Rattle.kid_kernel.specs.Differ.{differ, are_apart}
use Rattle.kid_kernel.specs.IsTheory.{declared_names, has_own_variables}
use Rattle.kid_kernel.specs.SortedLaw.{is_sorted_law}

abbrev pub x : List ℕ
x = codes "x"

abbrev pub y : List ℕ
y = codes "y"

abbrev pub less : PlainTerm → PlainTerm → PlainTerm
less t u = app (op (Number num.Lt)) (term t (term u no_term))

-- (axiom below ((NAME (int 0 2))) (given CONDITION) CONCLUSION)
abbrev pub below : List ℕ → PlainTerm → PlainConclusion → PlainLaw
below v condition conclusion =
    record { name = codes "below"; variables = (v, ints (pos 0) (pos 2)) ∷ []; conditions = condition ∷ []; conclusion = conclusion }

-- each y from 0 to 2 that is below 2 is below x
abbrev pub small_below : PlainLaw
small_below = below y (less (var y) (number (pos 2))) (holds (less (var y) (var x)))

abbrev pub inputs : Names
inputs = (x, ints (pos 0) (pos 9)) ∷ []

abbrev pub is_law : PlainLaw → Bool
is_law l = is_sorted_law [] inputs l

-- an x from 0 to 9 that is below 5
abbrev pub theory : PlainTheory
theory = record {
  signature = record { definitions = []; inputs = inputs };
  laws = [];
  axioms = small_below ∷ [];
  spec = record { inputs = inputs; condition = less (var x) (number (pos 5)); output = codes "z"; sort = bools; relation = truth true; first = None };
}

abbrev pub at : PlainValue → Env
at v = (x, v) ∷ []

abbrev pub each_member : PlainTerm
each_member = bind binder.All (codes "m") (app (op (Set set_word.Set)) (term (var y) no_term)) (less (var (codes "m")) (var x))

pub record LawExamples : Type 0 where
  pub sorted : is_law small_below ≡ true
  pub condition_is_a_number : is_law (below y (var y) (holds (truth true))) ≡ false
  pub condition_has_a_binder : is_law (below y each_member (holds (truth true))) ≡ false
  pub names_another : is_law (below y (truth true) (holds (less (var y) (var (codes "z"))))) ≡ false
  pub common_sort : is_law (below y (truth true) (equal (var y) (var x))) ≡ true
  pub no_common_sort : is_law (below y (truth true) (equal (var y) (truth true))) ≡ false
  pub names : declared_names theory ≡ x ∷ codes "below" ∷ codes "z" ∷ []
  pub names_differ : differ (declared_names theory) ≡ true
  pub name_twice : differ (x ∷ y ∷ x ∷ []) ≡ false
  pub apart : are_apart (y ∷ []) (declared_names theory) ≡ true
  pub own_variable : has_own_variables (declared_names theory) small_below ≡ true
  pub variable_of_an_input : has_own_variables (declared_names theory) (below x (truth true) (holds (truth true))) ≡ false

-- at 5 the input condition is false, and at 1 the axiom, whose y may be 1; 10 is no value of the input's sort
pub record GoodExamples : Type 0 where
  pub condition_false : Good theory (at (int (pos 5))) → ⊥
  pub law_false : Good theory (at (int (pos 1))) → ⊥
  pub another_sort : Good theory (at (int (pos 10))) → ⊥
