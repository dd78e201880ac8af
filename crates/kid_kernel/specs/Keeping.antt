-- A term that keeps its value over facts.
use Rattle.std.specs.Prelude.{◌≡◌, List}
use Rattle.kid_term.specs.Eval.{Env, eval, calls_of}
use Rattle.kid_term.specs.Names.{Names}
use Rattle.kid_term.specs.PlainTerm.{PlainTerm}
use Rattle.kid_term.specs.PlainTheory.{PlainTheory}
use Rattle.kid_term.specs.Truths.{AllTrue}
use Rattle.kid_scope.specs.Cases.{IsCase}
use Rattle.kid_kernel.specs.Held.{LawsHold}

-- at all good inputs where the start is true, the new term has the old one's value
abbrev pub KeepsOver : PlainTheory → Names → List PlainTerm → PlainTerm → PlainTerm → Type 0
KeepsOver t names start old new =
    LawsHold t → (env : Env) → IsCase t names env → AllTrue (calls_of t.signature.definitions) env start
    → eval (calls_of t.signature.definitions) env new ≡ eval (calls_of t.signature.definitions) env old
