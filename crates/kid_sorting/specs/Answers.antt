-- What a call answers, against the sort or the fault that there is.
use Rattle.std.specs.Prelude.{◌≡◌, List, Result, Ok, Err, ⊤, map}
use Rattle.std.specs.Global.{Vec}
use Rattle.kid_value.specs.PlainSort.{PlainSort}
use Rattle.kid_value.specs.SortView.{plain_sort}
use Rattle.kid_value.specs.declared.sort.Sort.{Sort}
use Rattle.kid_term.specs.Sorted as sorted
use Rattle.kid_term.specs.Sorted.{Fault, Sorted}
use Rattle.kid_sorting.specs.declared.fault.SortFault.{SortFault}
use Rattle.kid_sorting.specs.declared.fault.SortFault.TheVariants.{Size, TermDeep, Unknown, Kind, Bounds, Shadow, Memory}

-- each fault is the one that there is, but for want of memory, which may come at any time
abbrev pub Fails : {A : Type 0} → SortFault → Result A Fault → Type 0
Fails Size there = there ≡ Err sorted.Size
Fails TermDeep there = there ≡ Err sorted.TermDeep
Fails Unknown there = there ≡ Err sorted.Unknown
Fails Kind there = there ≡ Err sorted.Kind
Fails Bounds there = there ≡ Err sorted.Bounds
Fails Shadow there = there ≡ Err sorted.Shadow
Fails Memory there = ⊤

-- the answer is the sort, or the fault
abbrev pub SortGives : Result Sort SortFault → Sorted → Type 0
SortGives (Ok s) there = there ≡ Ok (plain_sort s)
SortGives (Err fault) there = Fails fault there

-- the same of a list of sorts
abbrev pub SortsGive : Result (Vec Sort) SortFault → Result (List PlainSort) Fault → Type 0
SortsGive (Ok ss) there = there ≡ Ok (map plain_sort ss.items)
SortsGive (Err fault) there = Fails fault there
