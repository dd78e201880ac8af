use Rattle.std.proofs.Common.{◌≡◌, true, drop, map}
use Rattle.std.specs.List.{list_all}
use Rattle.kid_sexp.specs.Plain.{join, none}
use Rattle.kid_value.specs.NameView.{plain_name}
use Rattle.kid_prog.specs.Spelling.{names_spelling, is_spelled_name}
use Rattle.kid_prog.proofs.forest.names_tree.Given as goal

abbrev pub invariant-loop-name : goal.invariant-loop-name
invariant-loop-name l = record {
  told : join l.trees (names_spelling (map plain_name (drop l.name-index l.names))) ≡ join none (names_spelling (map plain_name l.names));
  spelled : list_all is_spelled_name (map plain_name (drop l.name-index l.names)) ≡ true;
}
