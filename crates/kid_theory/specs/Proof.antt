-- Proofs of laws: where they begin, what they are to reach, and whether their moves reach it.
use Rattle.std.specs.Prelude.{Bool, false, List, [], ◌∷◌, ◌++◌, Result, Ok, Err}
use Rattle.kid_term.specs.Chain.{◌>>=◌}
use Rattle.kid_term.specs.Names.{Names}
use Rattle.kid_term.specs.PlainLaw.{PlainConclusion, equal, holds, PlainLaw}
use Rattle.kid_term.specs.PlainTerm.{PlainTerm, op, app, no_term, term}
use Rattle.kid_term.specs.PlainTheory.{PlainTheory}
use Rattle.kid_term.specs.declared.operator.LogicOp.TheVariants.{Eq}
use Rattle.kid_term.specs.declared.operator.Op.TheVariants.{Logic}
use Rattle.kid_term.specs.declared.why.Why.{Why}
use Rattle.kid_moves.specs.PlainRule.{PlainMove}
use Rattle.kid_scope.specs.Holds as scope
use Rattle.kid_kernel.specs.Key.{key}
use Rattle.kid_kernel.specs.Moves.{begun, stepped}
use Rattle.kid_kernel.specs.Placed.{top_scope}
use Rattle.kid_kernel.specs.PlainFacts.{PlainFacts}

-- the names that a proof sees: the inputs, and then the law's variables
abbrev pub proof_names : PlainTheory → PlainLaw → Names
proof_names t l = t.signature.inputs ++ l.variables

-- the facts that it begins with: the input condition, and then the law's conditions
abbrev pub proof_start : PlainTheory → PlainLaw → List PlainTerm
proof_start t l = t.spec.condition ∷ l.conditions

-- what it is to reach: that both sides are equal, or the term itself
abbrev pub goal_of : PlainConclusion → PlainTerm
goal_of (equal l r) = app (op (Logic Eq)) (term l (term r no_term))
goal_of (holds c) = c

-- the facts after all moves, or the first refusal
abbrev pub all_stepped : PlainTheory → List PlainMove → PlainFacts → Result PlainFacts Why
all_stepped t [] f = Ok f
all_stepped t (m ∷ moves) f = stepped t f m >>= λ g. all_stepped t moves g

-- the facts of the proof of a law
abbrev pub proof_facts : PlainTheory → PlainLaw → List PlainMove → Result PlainFacts Why
proof_facts t l moves = begun (key t) t.signature.definitions (proof_names t l) (proof_start t l) >>= λ f. all_stepped t moves f

-- whether there are facts, and the goal holds over them
abbrev pub reaches : PlainTheory → PlainTerm → Result PlainFacts Why → Bool
reaches t goal (Ok f) = scope.holds t.signature.definitions (top_scope f.names f.facts) goal
reaches t goal (Err why) = false

-- whether the moves prove the law over a theory that holds what stands before it
unfoldable pub is_proved : PlainTheory → PlainLaw → List PlainMove → Bool
is_proved t l moves = reaches t (goal_of l.conclusion) (proof_facts t l moves)
