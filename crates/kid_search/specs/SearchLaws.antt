-- The theorem: a search through a lawful space finds just the answers of a problem.
use Rattle.std.specs.Prelude.{◌≡◌, Bool, true, ◌&&◌}
use Rattle.kid_value.specs.InSort.{in_sort}
use Rattle.kid_value.specs.PlainValue.{PlainValue}
use Rattle.kid_term.specs.Answer.{relates, AllAnswers, Answer}
use Rattle.kid_term.specs.Eval.{Env, Calls}
use Rattle.kid_term.specs.PlainSpec.{PlainSpec}
use Rattle.kid_search.specs.Space.{Descriptor, Space}
use Rattle.kid_search.specs.SpaceLaws.{IsLawful}
use Rattle.kid_search.specs.Searching.{Pruning, IsNecessary, values_of, upto_value, search}

-- whether the value is one that is sought
abbrev pub is_feasible : Calls → PlainSpec → Env → PlainValue → Bool
is_feasible calls spec x v = in_sort spec.sort v && relates calls spec x v

-- a lawful space, a pruning that loses no feasible value, and a good start that every feasible value satisfies
pub record IsPlanned (calls : Calls) (spec : PlainSpec) (x : Env) (s : Space) (p : Pruning) (start : Descriptor) : Type 0 where
  pub lawful : IsLawful s (in_sort spec.sort)
  pub necessary : IsNecessary s (is_feasible calls spec x) p
  pub good : s.is_good start ≡ true
  pub complete : (v : PlainValue) → is_feasible calls spec x v ≡ true → s.satisfies start v ≡ true

-- the values that the search finds are all answers, each once and in ascending order
abbrev pub SearchesFindAll : Type 0
SearchesFindAll =
    (calls : Calls) (spec : PlainSpec) (x : Env) (s : Space) (p : Pruning) (start : Descriptor) → IsPlanned calls spec x s p start
    → AllAnswers calls spec x (values_of (search s (relates calls spec x) p start))

-- and as far as values are wanted, they are as many of the first answers
abbrev pub SearchesFindFirst : Type 0
SearchesFindFirst =
    (calls : Calls) (spec : PlainSpec) (x : Env) (s : Space) (p : Pruning) (start : Descriptor) → IsPlanned calls spec x s p start
    → Answer calls spec x (values_of (upto_value spec.first (search s (relates calls spec x) p start)))
