use Rattle.std.proofs.Common.{◌≡◌, map, drop}
use Rattle.std.specs.List.{list_any}
use Rattle.kid_term.specs.DefView.{plain_def}
use Rattle.kid_prog.specs.Tags.{definition_has_tags}
use Rattle.kid_prog.proofs.tags.definitions_have_tags.Given as goal

abbrev pub invariant-loop-definition : goal.invariant-loop-definition
invariant-loop-definition l = list_any definition_has_tags (map plain_def (drop l.definition-index l.definitions)) ≡ list_any definition_has_tags (map plain_def l.definitions)
