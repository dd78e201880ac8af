-- What a judge of sorts answers, against the refusal that there is, if there is one.
use Rattle.std.specs.Prelude.{◌≡◌, Option, Some, None, Result, Ok, Err, ⊤}
use Rattle.kid_term.specs.declared.why.Why.{Why}
use Rattle.kid_term.specs.declared.why.Why.TheVariants.{Memory}

-- the refusal is the one that there is, but for want of memory, which may come at any time
abbrev pub Refuses : Why → Option Why → Type 0
Refuses Memory there = ⊤
Refuses why there = there ≡ Some why

abbrev pub Judges : {A : Type 0} → Result A Why → Option Why → Type 0
Judges (Ok x) there = there ≡ None
Judges (Err why) there = Refuses why there
