use Rattle.std.proofs.Common.{◌≡◌, ◌∷◌, ◌++◌, drop}
use Rattle.kid_codec.proofs.print.tag_tree.Given as goal

abbrev pub invariant-loop-byte : goal.invariant-loop-byte
invariant-loop-byte l = l.word ++ drop l.byte-index l.name ≡ 39 ∷ l.name
