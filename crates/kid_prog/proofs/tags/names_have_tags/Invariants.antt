use Rattle.std.proofs.Common.{◌≡◌, map, drop}
use Rattle.std.specs.List.{list_any}
use Rattle.kid_value.specs.NameView.{plain_name}
use Rattle.kid_prog.specs.Tags.{name_has_tags}
use Rattle.kid_prog.proofs.tags.names_have_tags.Given as goal

abbrev pub invariant-loop-name : goal.invariant-loop-name
invariant-loop-name l = list_any name_has_tags (map plain_name (drop l.name-index l.names)) ≡ list_any name_has_tags (map plain_name l.names)
