-- Pieces and plans of the program as plain data, and what a search theory answers.
use Rattle.std.specs.Prelude.{◌≡◌, Result, Ok, Err, ⊤}
use Rattle.std.specs.Option.{option_map}
use Rattle.kid_value.specs.SortView.{plain_sort}
use Rattle.kid_term.specs.TermView.{plain_term}
use Rattle.kid_term.specs.declared.why.Why.{Why}
use Rattle.kid_term.specs.declared.why.Why.TheVariants.{Memory}
use Rattle.kid_search.specs.Pieces.{PlainBranch, PlainPieces}
use Rattle.kid_search.specs.PlainPlan.{PlainPlan}
use Rattle.kid_search.specs.declared.pieces.Branch.{Branch}
use Rattle.kid_search.specs.declared.pieces.Pieces.{Pieces}
use Rattle.kid_search.specs.declared.plan.Plan.{Plan}

abbrev pub plain_branch : Branch → PlainBranch
plain_branch b = record { name = b.name; sort = plain_sort b.sort; pool = plain_term b.pool }

abbrev pub plain_pieces : Pieces → PlainPieces
plain_pieces p = record {
  components = p.components;
  start = p.start;
  inv = plain_term p.inv;
  sat = p.sat;
  goal = plain_term p.goal;
  leaf_guard = plain_term p.leaf_guard;
  leaf = plain_term p.leaf;
  kid_guard = plain_term p.kid_guard;
  branch = option_map plain_branch p.branch;
  kids = p.kids;
  measure = plain_term p.measure;
}

abbrev pub plain_plan : Plan → PlainPlan
plain_plan p = record {
  pieces = plain_pieces p.pieces;
  cuts = p.cuts;
  filters = p.filters;
  start_test = plain_term p.start_test;
  leaf_test = plain_term p.leaf_test;
  kid_tests = p.kid_tests;
  calls = p.calls;
  parameters = p.parameters;
}

-- each refusal is the one that there is, but for want of memory, which may come at any time
abbrev pub Refuses : Why → Result PlainPieces Why → Type 0
Refuses Memory there = ⊤
Refuses why there = there ≡ Err why

abbrev pub PiecesGiven : Result Pieces Why → Result PlainPieces Why → Type 0
PiecesGiven (Ok p) there = there ≡ Ok (plain_pieces p)
PiecesGiven (Err why) there = Refuses why there
