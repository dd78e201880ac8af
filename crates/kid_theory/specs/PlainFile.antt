-- A theory file as plain data, and the theory that is made of it.
use Rattle.std.specs.Prelude.{ℕ, List, [], ◌∷◌, ◌++◌, Option}
use Rattle.kid_value.specs.PlainSort.{PlainSort}
use Rattle.kid_term.specs.PlainTerm.{PlainTerm}
use Rattle.kid_term.specs.Names.{Names, PlainDef}
use Rattle.kid_term.specs.PlainTheory.{PlainTheory}
use Rattle.kid_theory.specs.Claims.{PlainClaim, proved_among, assumed_among}

-- the title, definitions and inputs, the input condition, the laws and axioms in their order, the output with its sort, the relation, and how many answers are wanted, where not all are
pub record PlainFile : Type 0 where
  pub title : List ℕ
  pub definitions : List PlainDef
  pub inputs : Names
  pub condition : PlainTerm
  pub claims : List PlainClaim
  pub output : List ℕ
  pub sort : PlainSort
  pub relation : PlainTerm
  pub first : Option ℕ

-- the output as a name with its sort
abbrev pub output_of : PlainFile → List ℕ × PlainSort
output_of f = (f.output, f.sort)

-- the names that the relation sees
abbrev pub relation_names : PlainFile → Names
relation_names f = f.inputs ++ output_of f ∷ []

abbrev pub theory_of : PlainFile → PlainTheory
theory_of f = record {
  signature = record { definitions = f.definitions; inputs = f.inputs };
  laws = proved_among f.claims;
  axioms = assumed_among f.claims;
  spec = record { inputs = f.inputs; condition = f.condition; output = f.output; sort = f.sort; relation = f.relation; first = f.first };
}
