-- What keeps its value wherever a scope is met keeps it over the facts.
use Rattle.std.proofs.Common.{◌≡◌, List, Result, Ok, Err}
use Rattle.std.specs.Prelude.{IfOk}
use Rattle.kid_term.specs.Names.{Names}
use Rattle.kid_term.specs.PlainTerm.{PlainTerm}
use Rattle.kid_term.specs.PlainTheory.{PlainTheory}
use Rattle.kid_term.specs.TermView.{plain_term}
use Rattle.kid_term.specs.declared.Term.{Term}
use Rattle.kid_term.specs.declared.why.Why.{Why}
use Rattle.kid_kernel.specs.Held.{Held}
use Rattle.kid_kernel.specs.Keeping.{KeepsOver}
use Rattle.kid_kernel.specs.Placed.{KeepsAt, top_scope}
use Rattle.kid_kernel.proofs.FactLemmas.{scope_stands, case_meets}
use Rattle.kid_kernel.proofs.SoundTheory.{sound_theory}

over_facts : (t : PlainTheory) (names : Names) (start facts : List PlainTerm) (old new : PlainTerm) → Held t names start facts → KeepsAt t (top_scope names facts) old new → KeepsOver t names start old new
over_facts t names start facts old new h k laws env case s =
    k env (sound_theory t h.theory laws) (scope_stands t names start facts h) (case_meets t names start facts h laws env case s)

pub kept_over : (t : PlainTheory) (names : Names) (start facts : List PlainTerm) (old : PlainTerm) (r : Result Term (Term × Why)) → Held t names start facts
    → IfOk r (λ new. KeepsAt t (top_scope names facts) old (plain_term new)) → IfOk r (λ new. KeepsOver t names start old (plain_term new))
kept_over t names start facts old (Ok u) h k = over_facts t names start facts old (plain_term u) h k
kept_over t names start facts old (Err e) h k = tt
