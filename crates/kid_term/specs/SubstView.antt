-- Names with their terms as plain data.
use Rattle.std.specs.Prelude.{ℕ, List, [], ◌∷◌, map}
use Rattle.kid_term.specs.PlainTerm.{PlainTerm, var}
use Rattle.kid_term.specs.TermView.{plain_term}
use Rattle.kid_term.specs.Simultaneous.{Subst}
use Rattle.kid_term.specs.declared.Term.{Term}
use Rattle.kid_term.specs.declared.substitute_all.Scope.{Scope, Many, One, Under'}

abbrev pub plain_pair : List ℕ × Term → List ℕ × PlainTerm
plain_pair e = (e.0, plain_term e.1)

-- a binder's name stands for itself in its body
abbrev pub subst_of : Scope → Subst
subst_of (Many es) = map plain_pair es.now
subst_of (One x t) = (x.now, plain_term t.now) ∷ []
subst_of (Under' y p rest) = (y.now, var y.now) ∷ subst_of rest
