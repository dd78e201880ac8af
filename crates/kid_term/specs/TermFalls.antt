-- A term is deeper than its parts.
use Rattle.std.specs.Prelude.{◌≤◌, List, [], ◌∷◌, map}
use Rattle.std.proofs.Common.{arith}
use denote.Param.Weighed.{most}
use Rattle.kid_term.specs.PlainTerm.{depth, depths, term_row}
use Rattle.kid_term.specs.TermView.{plain_term}
use Rattle.kid_term.specs.declared.Literal.TheVariants.{Int, Bool, Tag}
use Rattle.kid_term.specs.declared.Term.{Term}
use Rattle.kid_term.specs.declared.Term.TheVariants.{Var, Lit, App, Bind}
use Rattle.kid_term.specs.declared.BoxedTerm.TheDeep.{deep-Term}

pub deep-le-depth : (t : Term) → deep-Term t ≤ depth (plain_term t)
deep-le-depth (Var x) = omega arith
deep-le-depth (Lit (Int n)) = omega arith
deep-le-depth (Lit (Bool b)) = omega arith
deep-le-depth (Lit (Tag n)) = omega arith
deep-le-depth (App h ts) = omega arith
deep-le-depth (Bind b x s t) = omega arith

pub most_le-depths : (ts : List Term) → most deep-Term ts ≤ depths (term_row (map plain_term ts))
most_le-depths [] = omega arith
most_le-depths (t ∷ ts) = omega (arith, most_le-depths ts, deep-le-depth t)
