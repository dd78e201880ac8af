use Rattle.std.proofs.Common.{◌≡◌, ◌+◌, [], length}
use Rattle.kid_sexp.specs.Tree.{plains}
use Rattle.kid_prog.specs.Loading.{after_definitions}
use Rattle.kid_prog.proofs.loader.after_definitions.Given as goal

abbrev pub decreases-loop-tree : goal.decreases-loop-tree
decreases-loop-tree l = length l.rest

abbrev pub invariant-loop-tree : goal.invariant-loop-tree
invariant-loop-tree l = record {
  told : after_definitions l.number l.format l.known (plains l.rest) ≡ after_definitions l.before l.format [] (plains l.trees);
  counted : l.number + length l.rest ≡ l.before + length l.trees;
}
