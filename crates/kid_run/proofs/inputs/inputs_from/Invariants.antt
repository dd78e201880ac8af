use Rattle.std.proofs.Common.{◌≡◌, drop, map}
use Rattle.kid_sexp.specs.Tree.{plains}
use Rattle.kid_value.specs.NameView.{plain_name}
use Rattle.kid_run.specs.InputReading.{inputs_from, AllFit}
use Rattle.kid_run.proofs.InputLemmas.{put_before}
use Rattle.kid_run.proofs.inputs.inputs_from.Given as goal

-- the inputs so far and those of what is left are all inputs
abbrev pub invariant-loop-before : goal.invariant-loop-before
invariant-loop-before l = record {
  told : put_before l.inputs (inputs_from (map plain_name l.names) l.before (plains (drop l.before l.trees))) ≡ inputs_from (map plain_name l.names) 0 (plains l.trees);
  fit : AllFit (map plain_name l.names) l.inputs;
}
