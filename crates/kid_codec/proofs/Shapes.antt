-- Lists of trees of another length than is wanted.
use Rattle.std.proofs.Common.{◌≡◌, ◌<◌, ◌≤◌, List, [], ◌∷◌, length, refl, arith, None}
use Rattle.kid_sexp.specs.declared.tree.Tree.{Tree}
use Rattle.kid_sexp.specs.Tree.{plains}
use Rattle.kid_codec.specs.Shape.{single, couple, quadruple}

pub single-short : (ts : List Tree) → length ts < 1 → single (plains ts) ≡ None
single-short [] h = refl
single-short (a ∷ ts) h = absurd (omega arith)

pub single-long : (ts : List Tree) → 2 ≤ length ts → single (plains ts) ≡ None
single-long [] h = refl
single-long (a ∷ []) h = absurd (omega arith)
single-long (a ∷ b ∷ ts) h = refl

pub couple-short : (ts : List Tree) → length ts < 2 → couple (plains ts) ≡ None
couple-short [] h = refl
couple-short (a ∷ []) h = refl
couple-short (a ∷ b ∷ ts) h = absurd (omega arith)

pub couple-long : (ts : List Tree) → 3 ≤ length ts → couple (plains ts) ≡ None
couple-long [] h = refl
couple-long (a ∷ []) h = refl
couple-long (a ∷ b ∷ []) h = absurd (omega arith)
couple-long (a ∷ b ∷ c ∷ ts) h = refl

pub quadruple-short : (ts : List Tree) → length ts < 4 → quadruple (plains ts) ≡ None
quadruple-short [] h = refl
quadruple-short (a ∷ []) h = refl
quadruple-short (a ∷ b ∷ []) h = refl
quadruple-short (a ∷ b ∷ c ∷ []) h = refl
quadruple-short (a ∷ b ∷ c ∷ d ∷ ts) h = absurd (omega arith)

pub quadruple-long : (ts : List Tree) → 5 ≤ length ts → quadruple (plains ts) ≡ None
quadruple-long [] h = refl
quadruple-long (a ∷ []) h = absurd (omega arith)
quadruple-long (a ∷ b ∷ []) h = absurd (omega arith)
quadruple-long (a ∷ b ∷ c ∷ []) h = absurd (omega arith)
quadruple-long (a ∷ b ∷ c ∷ d ∷ []) h = absurd (omega arith)
quadruple-long (a ∷ b ∷ c ∷ d ∷ e ∷ ts) h = refl

pub ruleset shapes = (single-short, single-long, couple-short, couple-long, quadruple-short, quadruple-long)
