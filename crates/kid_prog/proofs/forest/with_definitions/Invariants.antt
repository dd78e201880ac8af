use Rattle.std.proofs.Common.{◌≡◌, true, drop, map}
use Rattle.std.specs.List.{list_all}
use Rattle.kid_sexp.specs.Plain.{join, none}
use Rattle.kid_term.specs.DefView.{plain_def}
use Rattle.kid_prog.specs.Spelling.{definitions_before, is_spelled_definition}
use Rattle.kid_prog.proofs.forest.with_definitions.Given as goal

abbrev pub invariant-loop-definition : goal.invariant-loop-definition
invariant-loop-definition l = record {
  told : join l.trees (definitions_before (map plain_def (drop l.definition-index l.definitions)) none) ≡ join l.initial.trees (definitions_before (map plain_def l.definitions) none);
  spelled : list_all is_spelled_definition (map plain_def (drop l.definition-index l.definitions)) ≡ true;
}
