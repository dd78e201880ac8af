-- A theory file as a forest.
use Rattle.std.specs.Prelude.{ℕ, pos, List, [], ◌∷◌, Option, Some, None, codes}
use Rattle.kid_sexp.specs.Plain.{Plain, Plains, atom, list, none, more, one}
use Rattle.kid_term.specs.PlainTerm.{term_row}
use Rattle.kid_codec.specs.DeclaredSpelling.{named_spelling, names_spelling, definitions_before, inputs_before}
use Rattle.kid_codec.specs.SortSpelling.{headed, number_tree}
use Rattle.kid_codec.specs.TermSpelling.{term_spelling, term_spellings}
use Rattle.kid_term.specs.PlainLaw.{PlainConclusion, equal, holds, PlainLaw}
use Rattle.kid_moves.specs.PlainRule.{PlainMove}
use Rattle.kid_lines.specs.LineSpelling.{move_spelling}
use Rattle.kid_theory.specs.Claims.{PlainClaim, assumed, proved}
use Rattle.kid_theory.specs.PlainFile.{PlainFile, output_of}

abbrev pub conclusion_spelling : PlainConclusion → Plain
conclusion_spelling (equal l r) = headed (codes "equal") (more (term_spelling l) (one (term_spelling r)))
conclusion_spelling (holds c) = headed (codes "holds") (one (term_spelling c))

-- what a law says, and then the parts after it
abbrev pub law_parts : PlainLaw → Plains → Plains
law_parts l rest =
    more (atom l.name)
    (more (list (names_spelling l.variables)) (more (headed (codes "given") (term_spellings (term_row l.conditions))) (more (conclusion_spelling l.conclusion) rest)))

abbrev pub move_spellings : List PlainMove → Plains
move_spellings [] = none
move_spellings (m ∷ ms) = more (move_spelling m) (move_spellings ms)

abbrev pub proof_spelling : List PlainMove → Plain
proof_spelling moves = headed (codes "by") (move_spellings moves)

abbrev pub claim_spelling : PlainClaim → Plain
claim_spelling (assumed l) = headed (codes "axiom") (law_parts l none)
claim_spelling (proved l moves) = headed (codes "law") (law_parts l (one (proof_spelling moves)))

-- laws and axioms, and then the forms after them
abbrev pub claims_before : List PlainClaim → Plains → Plains
claims_before [] rest = rest
claims_before (c ∷ cs) rest = more (claim_spelling c) (claims_before cs rest)

abbrev pub first_spelling : ℕ → Plain
first_spelling n = headed (codes "first") (one (number_tree (pos n)))

-- where not all answers are wanted, the form that says how many, and then the forms after it
abbrev pub first_before : Option ℕ → Plains → Plains
first_before None rest = rest
first_before (Some n) rest = more (first_spelling n) rest

abbrev pub last_forms : PlainFile → Plains
last_forms f =
    more (headed (codes "output") (named_spelling (output_of f)))
    (more (headed (codes "ensure") (one (term_spelling f.relation))) (first_before f.first none))

-- the forms after the inputs
abbrev pub later_forms : PlainFile → Plains
later_forms f = more (headed (codes "require") (one (term_spelling f.condition))) (claims_before f.claims (last_forms f))

-- the forms after the definitions
abbrev pub from_inputs : PlainFile → Plains
from_inputs f = inputs_before f.inputs (later_forms f)

-- the forms of a theory file in their order
abbrev pub file_spelling : PlainFile → Plains
file_spelling f = more (headed (codes "theory") (one (atom f.title))) (definitions_before f.definitions (from_inputs f))
