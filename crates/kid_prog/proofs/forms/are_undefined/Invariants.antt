use Rattle.std.proofs.Common.{◌≡◌, map, drop}
use Rattle.kid_value.specs.NameView.{plain_name}
use Rattle.kid_term.specs.DefView.{plain_def}
use Rattle.kid_prog.specs.Forms.{are_undefined}
use Rattle.kid_prog.proofs.forms.are_undefined.Given as goal

abbrev pub invariant-loop-name : goal.invariant-loop-name
invariant-loop-name l = are_undefined (map plain_name (drop l.name-index l.name-items)) (map plain_def l.definitions) ≡ are_undefined l.names (map plain_def l.definitions)
