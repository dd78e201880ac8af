-- What a law says at some values of its variables.
use Rattle.std.specs.Prelude.{Bool, []}
use Rattle.std.specs.List.{list_all}
use Rattle.kid_value.specs.PlainValue.{PlainValue}
use Rattle.kid_value.specs.Rows.Parts.{truth_of}
use Rattle.kid_term.specs.Eval.{Env, eval}
use Rattle.kid_laws.specs.Law.{Law}

-- whether the conditions hold, and the values of the sides
pub record Corner : Type 0 where
  pub holds : Bool
  pub left : PlainValue
  pub right : PlainValue

abbrev pub shown : Bool → PlainValue → PlainValue → Corner
shown b v w = record { holds = b; left = v; right = w }

abbrev pub at_values : Env → Law → Corner
at_values env l = shown (list_all (λ c. truth_of (eval [] env c)) l.conditions) (eval [] env l.left) (eval [] env l.right)
