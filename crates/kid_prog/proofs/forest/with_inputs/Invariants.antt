use Rattle.std.proofs.Common.{◌≡◌, true, drop, map}
use Rattle.std.specs.List.{list_all}
use Rattle.kid_sexp.specs.Plain.{join, none}
use Rattle.kid_value.specs.NameView.{plain_name}
use Rattle.kid_prog.specs.Spelling.{inputs_before, is_spelled_name}
use Rattle.kid_prog.proofs.forest.with_inputs.Given as goal

abbrev pub invariant-loop-input : goal.invariant-loop-input
invariant-loop-input l = record {
  told : join l.trees (inputs_before (map plain_name (drop l.input-index l.inputs)) none) ≡ join l.initial.trees (inputs_before (map plain_name l.inputs) none);
  spelled : list_all is_spelled_name (map plain_name (drop l.input-index l.inputs)) ≡ true;
}
