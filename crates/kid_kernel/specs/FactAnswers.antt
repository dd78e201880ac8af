-- What a call on facts answers, against what there is.
use Rattle.std.specs.Prelude.{◌≡◌, ◌++◌, ◌∷◌, [], List, Result, Ok, Err}
use Rattle.kid_term.specs.PlainTerm.{PlainTerm}
use Rattle.kid_term.specs.declared.why.Why.{Why}
use Rattle.kid_term.specs.declared.why.Why.TheVariants.{Memory}
use Rattle.kid_scope.specs.InstanceView.{Fails}
use Rattle.kid_kernel.specs.PlainFacts.{PlainFacts}

-- the facts at the start, or the refusal that there is
abbrev pub Begun : Result PlainFacts Why → Result PlainFacts Why → Type 0
Begun (Ok f) there = there ≡ Ok f
Begun (Err why) there = Fails why there

-- the facts after a move, which are the old ones after a refusal
abbrev pub Stepped : {A : Type 0} → Result A Why → PlainFacts → PlainFacts → Result PlainFacts Why → Type 0
Stepped (Ok x) old new there = there ≡ Ok new
Stepped (Err why) old new there = Fails why there × (new ≡ old)

-- the list with the term, or the old list where memory is wanting
abbrev pub PushedOn : {A : Type 0} → Result A Why → List PlainTerm → List PlainTerm → PlainTerm → Type 0
PushedOn (Ok x) old new t = new ≡ old ++ t ∷ []
PushedOn (Err why) old new t = (why ≡ Memory) × (new ≡ old)
