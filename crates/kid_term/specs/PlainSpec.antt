-- A problem as plain data.
use Rattle.std.specs.Prelude.{ℕ, nat_le, Bool, true, ◌&&◌, List, [], ◌∷◌, ◌++◌, Option, Some, None}
use Rattle.kid_value.specs.PlainSort.{PlainSort}
use Rattle.kid_value.specs.SortView.{plain_sort}
use Rattle.kid_term.specs.Names.{Names}
use Rattle.kid_term.specs.PlainTerm.{PlainTerm}
use Rattle.kid_term.specs.TermView.{plain_term}
use Rattle.kid_term.specs.declared.spec.Spec.{Spec}

-- the inputs with their sorts, the condition that they meet, the output with its sort, the relation between the inputs and the output, and how many answers are wanted, where not all are
pub record PlainSpec : Type 0 where
  pub inputs : Names
  pub condition : PlainTerm
  pub output : List ℕ
  pub sort : PlainSort
  pub relation : PlainTerm
  pub first : Option ℕ

-- how many answers may be asked for
abbrev pub is_count : ℕ → Bool
is_count n = nat_le 1 n && nat_le n 1000000

-- all answers, or so many
abbrev pub is_wanted : Option ℕ → Bool
is_wanted None = true
is_wanted (Some n) = is_count n

abbrev pub plain_spec : Spec → PlainSpec
plain_spec s = record {
  inputs = s.inputs;
  condition = plain_term s.condition;
  output = s.output;
  sort = plain_sort s.sort;
  relation = plain_term s.relation;
  first = s.first;
}

-- the names that the relation sees
abbrev pub relation_scope : PlainSpec → Names
relation_scope s = s.inputs ++ (s.output, s.sort) ∷ []
