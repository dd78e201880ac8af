-- A law: two terms over variables that have one value wherever the conditions are true.
use Rattle.std.specs.Prelude.{ℕ, true, List, [], map}
use Rattle.kid_term.specs.PlainTerm.{op, PlainTerm, var, truth, app, no_term, term}
use Rattle.kid_term.specs.declared.operator.Op.{Op}

-- the variables stand in the order in which they first stand in the conditions and then in the sides
pub record Law : Type 0 where
  pub variables : List (List ℕ)
  pub conditions : List PlainTerm
  pub left : PlainTerm
  pub right : PlainTerm

abbrev pub none : Op → PlainTerm
none o = app (op o) no_term

abbrev pub one : Op → PlainTerm → PlainTerm
one o t = app (op o) (term t no_term)

abbrev pub two : Op → PlainTerm → PlainTerm → PlainTerm
two o t u = app (op o) (term t (term u no_term))

abbrev pub three : Op → PlainTerm → PlainTerm → PlainTerm → PlainTerm
three o t u v = app (op o) (term t (term u (term v no_term)))

abbrev pub name_of : PlainTerm → List ℕ
name_of (var x) = x
name_of t = []

abbrev pub equation : List PlainTerm → List PlainTerm → PlainTerm → PlainTerm → Law
equation vs cs l r = record { variables = map name_of vs; conditions = cs; left = l; right = r }

-- an implication says that its conclusion is true
abbrev pub implication : List PlainTerm → List PlainTerm → PlainTerm → Law
implication vs cs l = equation vs cs l (truth true)
