-- Rules that are wanted forth and without arguments, and those that are not.
use Rattle.std.proofs.Common.{◌≡◌, Bool, true, false, List, [], ◌∷◌, cond, refl}
use Rattle.kid_term.specs.PlainTerm.{PlainTerm}
use Rattle.kid_term.specs.PlainTheory.{PlainTheory}
use Rattle.kid_scope.specs.Instances.{no_match, forth_alone}
use Rattle.kid_scope.specs.Rewriting.{Rule}
use Rattle.kid_scope.specs.Scope.{PlainScope}
use Rattle.kid_kernel.specs.Arguments.{is_forth_alone}

pub forth_alone_said : (back : Bool) (args : List PlainTerm) (rule : Rule) (t : PlainTheory) (sc : PlainScope) (old : PlainTerm)
    → forth_alone back args rule t sc old ≡ cond (is_forth_alone back args) (rule t sc old) no_match
forth_alone_said false [] rule t sc old = refl
forth_alone_said false (a ∷ args) rule t sc old = refl
forth_alone_said true [] rule t sc old = refl
forth_alone_said true (a ∷ args) rule t sc old = refl
