-- Pieces by their parts.
use Rattle.std.specs.Prelude.{List, Option}
use Rattle.kid_term.specs.PlainTerm.{PlainTerm}
use Rattle.kid_term.specs.TermView.{plain_term}
use Rattle.kid_search.specs.Pieces.{PlainBranch, PlainPieces}
use Rattle.kid_search.specs.declared.assembling.Outline.{Outline}
use Rattle.kid_search.specs.declared.assembling.Guards.{Guards}

abbrev pub assembled : Outline → Guards → Option PlainBranch → List (List PlainTerm) → PlainTerm → PlainPieces
assembled o g branch kids measure = record {
  components = o.components;
  start = o.start;
  inv = plain_term o.inv;
  sat = o.sat;
  goal = plain_term o.goal;
  leaf_guard = plain_term g.leaf_guard;
  leaf = plain_term g.leaf;
  kid_guard = plain_term g.kid_guard;
  branch = branch;
  kids = kids;
  measure = measure;
}
