use Rattle.std.proofs.Common.{◌≡◌, ◌++◌, ◌+ℤ◌, pos, map, drop}
use Rattle.kid_value.specs.ValueView.{plain}
use Rattle.kid_value.specs.Rows.Word.{row_entries}
use Rattle.kid_ops.proofs.word.entries_of.Given as goal

abbrev pub invariant-loop-i : goal.invariant-loop-i
invariant-loop-i l = l.entries ++ row_entries (l.lo +ℤ pos l.i) (map plain (drop l.i l.items)) ≡ row_entries l.lo (map plain l.items)
