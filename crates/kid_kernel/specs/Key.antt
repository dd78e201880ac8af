-- A theory as a list of numbers that no other theory has.
use Rattle.std.specs.Prelude.{ℕ, List, [], ◌∷◌}
use base.Stored.{Gv, gnil, gnum, gcons}
use Rattle.kid_term.specs.PlainTheory.{PlainTheory}
use Rattle.kid_kernel.specs.TheoryCode.{coded_theory}

abbrev pub spelled : Gv → List ℕ → List ℕ
spelled gnil rest = 0 ∷ rest
spelled (gnum n) rest = 1 ∷ n ∷ rest
spelled (gcons a b) rest = 2 ∷ spelled a (spelled b rest)

unfoldable pub key : PlainTheory → List ℕ
key t = spelled (coded_theory.code t) []
