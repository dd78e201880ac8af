use Rattle.std.proofs.Common.{◌≡◌, ◌++◌, take, drop}
use Rattle.kid_value.specs.NameSet.{put_name}
use Rattle.kid_value.proofs.texts.place_of_text.Given as goal

abbrev pub invariant-loop-i : goal.invariant-loop-i
invariant-loop-i l = put_name l.text l.items ≡ take l.i l.items ++ put_name l.text (drop l.i l.items)
