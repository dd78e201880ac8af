-- The theory of facts, and terms with a sort.
use Rattle.std.proofs.Common.{◌≡◌, ℕ, true, List, [], ◌∷◌, ◌++◌, Option, Some, None, Result, Ok, Err, sym, ap, ◌∙◌}
use Rattle.std.specs.Prelude.{IfOk}
use Rattle.kid_value.specs.PlainSort.{PlainSort}
use Rattle.kid_term.specs.Names.{Names, PlainDef}
use Rattle.kid_term.specs.PlainTerm.{PlainTerm}
use Rattle.kid_term.specs.PlainTheory.{PlainTheory}
use Rattle.kid_term.specs.Chain.{◌>>=◌}
use Rattle.kid_term.specs.Sorting.{sort_of}
use Rattle.kid_term.specs.declared.why.Why.{Why}
use Rattle.kid_scope.specs.Holds.{has_a_sort}
use Rattle.kid_scope.specs.Rewriting.{unless}
use Rattle.kid_moves.specs.PlainRule.{PlainMove}
use Rattle.kid_kernel.specs.FactAnswers.{Begun, Stepped}
use Rattle.kid_kernel.specs.Moves.{begun, first_untrue, moved, stepped}
use Rattle.kid_kernel.specs.PlainFacts.{PlainFacts}

-- what has a sort over these names has one over the same
pub sorted_over : (defs : List PlainDef) (names own : Names) (t : PlainTerm) (s : PlainSort) → names ≡ own → sort_of defs names t ≡ Ok s → has_a_sort (sort_of defs own t) ≡ true
sorted_over defs names own t s e p = ap (λ ns. has_a_sort (sort_of defs ns t)) (sym e) ∙ ap has_a_sort p

given : (o : Option Why) (f g : PlainFacts) → unless o f ≡ Ok g → f ≡ g
given None f g p = cc
given (Some w) f g p = cc

-- facts are over the theory that they began with
pub begins_over : (r : Result PlainFacts Why) (k : List ℕ) (defs : List PlainDef) (names : Names) (start : List PlainTerm) → Begun r (begun k defs names start) → IfOk r (λ f. k ≡ f.theory)
begins_over (Ok g) k defs names start p =
    ap (λ (f : PlainFacts). f.theory) (given (first_untrue defs names start) (record { theory = k; names = names; start = start; facts = start }) g p)
begins_over (Err w) k defs names start p = tt

abbrev with_fact : PlainFacts → PlainTerm → Result PlainFacts Why
with_fact f fact = Ok (record f { facts = f.facts ++ fact ∷ [] })

one_more : (r : Result PlainTerm Why) (f g : PlainFacts) → (r >>= with_fact f) ≡ Ok g → f.theory ≡ g.theory
one_more (Ok fact) f g p = ap (λ (h : PlainFacts). h.theory) (given None (record f { facts = f.facts ++ fact ∷ [] }) g p)
one_more (Err w) f g p = cc

-- and stay so
pub steps_over : {A : Type 0} (r : Result A Why) (k : List ℕ) (t : PlainTheory) (old new : PlainFacts) (m : PlainMove) → k ≡ old.theory → Stepped r old new (stepped t old m) → k ≡ new.theory
steps_over (Ok x) k t old new m e p = e ∙ one_more (moved t old.names old.facts m) old new p
steps_over (Err w) k t old new m e p = e ∙ ap (λ (f : PlainFacts). f.theory) (sym p.1)
