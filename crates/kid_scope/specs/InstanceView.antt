-- Instances of rules as plain data, and what the program answers.
use Rattle.std.specs.Prelude.{◌≡◌, Result, Ok, Err, ⊤}
use Rattle.kid_value.specs.PlainSort.{PlainSort}
use Rattle.kid_value.specs.SortView.{plain_sort}
use Rattle.kid_value.specs.declared.sort.Sort.{Sort}
use Rattle.kid_term.specs.PlainTerm.{PlainTerm}
use Rattle.kid_term.specs.TermView.{plain_term}
use Rattle.kid_term.specs.declared.Term.{Term}
use Rattle.kid_term.specs.declared.why.Why.{Why}
use Rattle.kid_term.specs.declared.why.Why.TheVariants.{Memory}
use Rattle.kid_scope.specs.Rewriting.{PlainInstance}
use Rattle.kid_scope.specs.declared.instance.Instance.{Instance}

abbrev pub plain_part : Term × Sort → PlainTerm × PlainSort
plain_part p = (plain_term p.0, plain_sort p.1)

abbrev pub plain_instance : Instance → PlainInstance
plain_instance n = record { conditions = n.conditions; term = plain_term n.term; within = n.within }

-- each refusal is the one that there is, but for want of memory, which may come at any time
abbrev pub Fails : {A : Type 0} → Why → Result A Why → Type 0
Fails Memory there = ⊤
Fails why there = there ≡ Err why

abbrev pub TermGiven : Result Term Why → Result PlainTerm Why → Type 0
TermGiven (Ok t) there = there ≡ Ok (plain_term t)
TermGiven (Err why) there = Fails why there

abbrev pub InstanceGiven : Result Instance Why → Result PlainInstance Why → Type 0
InstanceGiven (Ok n) there = there ≡ Ok (plain_instance n)
InstanceGiven (Err why) there = Fails why there
