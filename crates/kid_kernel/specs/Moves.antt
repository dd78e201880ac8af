-- The fact that a move adds, facts at the start and after a move, and the first refusal of each.
use Rattle.std.specs.Prelude.{ℕ, List, [], ◌∷◌, ◌++◌, Option, Some, None, Result, Ok, Err}
use Rattle.kid_value.specs.PlainSort.{bools}
use Rattle.kid_term.specs.PlainTerm.{PlainTerm, op, app, no_term, term}
use Rattle.kid_term.specs.PlainTheory.{PlainTheory}
use Rattle.kid_term.specs.Names.{Names, PlainDef}
use Rattle.kid_term.specs.Sorted.{Sorted}
use Rattle.kid_term.specs.Chain.{◌>>=◌}
use Rattle.kid_term.specs.Sorting.{sort_of}
use Rattle.kid_term.specs.declared.operator.Op.TheVariants.{Logic}
use Rattle.kid_term.specs.declared.operator.LogicOp.TheVariants.{And}
use Rattle.kid_term.specs.declared.why.Why.{Why}
use Rattle.kid_term.specs.declared.why.Why.TheVariants.{NoMatch, IllSorted}
use Rattle.kid_scope.specs.Rewriting.{why_of, unless}
use Rattle.kid_scope.specs.Using.{fact_at}
use Rattle.kid_kernel.specs.Comparing.{conjuncts}
use Rattle.kid_kernel.specs.Placed.{top_scope}
use Rattle.kid_kernel.specs.PlainFacts.{PlainFacts}
use Rattle.kid_moves.specs.PlainRule.{PlainMove, left_of, right_of, both_of, again, concluded_by, after_lines}
use Rattle.kid_kernel.specs.Rules.{lines_rewritten, concluded}

abbrev pub both : PlainTerm → PlainTerm → PlainTerm
both a b = app (op (Logic And)) (term a (term b no_term))

-- why a term is no truth value's, if it is none
abbrev pub untrue : Sorted → Option Why
untrue (Ok bools) = None
untrue (Ok s) = Some IllSorted
untrue (Err fault) = Some (why_of fault)

abbrev pub or_next : Option Why → Option Why → Option Why
or_next None next = next
or_next (Some why) next = Some why

-- why the first term is none that is no truth value's
abbrev pub first_untrue : List PlainDef → Names → List PlainTerm → Option Why
first_untrue defs names [] = None
first_untrue defs names (t ∷ ts) = or_next (untrue (sort_of defs names t)) (first_untrue defs names ts)

abbrev pub truth_term : List PlainDef → Names → PlainTerm → Result PlainTerm Why
truth_term defs names t = unless (untrue (sort_of defs names t)) t

-- ---- facts by their numbers, and their parts

abbrev pub found : Option PlainTerm → Result PlainTerm Why
found None = Err NoMatch
found (Some t) = Ok t

abbrev pub given : List PlainTerm → ℕ → Result PlainTerm Why
given facts k = found (fact_at facts k)

abbrev pub parted : Option (PlainTerm × PlainTerm) → Result (PlainTerm × PlainTerm) Why
parted None = Err NoMatch
parted (Some p) = Ok p

abbrev pub given_parts : List PlainTerm → ℕ → Result (PlainTerm × PlainTerm) Why
given_parts facts k = given facts k >>= λ t. parted (conjuncts t)

-- ---- moves

abbrev pub moved : PlainTheory → Names → List PlainTerm → PlainMove → Result PlainTerm Why
moved t names facts (left_of k) = given_parts facts k >>= λ p. Ok p.0
moved t names facts (right_of k) = given_parts facts k >>= λ p. Ok p.1
moved t names facts (both_of k l) = given facts k >>= λ a. given facts l >>= λ b. truth_term t.signature.definitions names (both a b)
moved t names facts (again k) = given facts k
moved t names facts (concluded_by rule ts) = concluded t (top_scope names facts) rule ts
moved t names facts (after_lines k lines) = given facts k >>= λ fact. lines_rewritten t (top_scope names facts) lines fact

-- the facts with the one that the move adds
abbrev pub stepped : PlainTheory → PlainFacts → PlainMove → Result PlainFacts Why
stepped t f m = moved t f.names f.facts m >>= λ fact. Ok (record f { facts = f.facts ++ fact ∷ [] })

-- the facts at the start, over the theory of a key
abbrev pub begun : List ℕ → List PlainDef → Names → List PlainTerm → Result PlainFacts Why
begun k defs names start = unless (first_untrue defs names start) (record { theory = k; names = names; start = start; facts = start })
