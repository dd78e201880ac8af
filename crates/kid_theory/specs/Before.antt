-- The theory of the forms so far. Its output and its relation are stand-ins: an output without a name, which no proof of a law sees.
use Rattle.std.specs.Prelude.{Bool, true, ◌&&◌, List, [], ◌∷◌, ◌++◌, None}
use Rattle.kid_value.specs.PlainSort.{bools}
use Rattle.kid_term.specs.Names.{Names, PlainDef}
use Rattle.kid_term.specs.PlainLaw.{PlainLaw}
use Rattle.kid_term.specs.PlainTerm.{PlainTerm, truth}
use Rattle.kid_term.specs.PlainTheory.{PlainTheory}
use Rattle.kid_theory.specs.Claims.{PlainClaim, assumed, proved}
use Rattle.kid_theory.specs.Proof.{is_proved}

-- before any law
abbrev pub theory_before : List PlainDef → Names → PlainTerm → PlainTheory
theory_before defs inputs condition = record {
  signature = record { definitions = defs; inputs = inputs };
  laws = [];
  axioms = [];
  spec = record { inputs = inputs; condition = condition; output = []; sort = bools; relation = truth true; first = None };
}

abbrev pub laws_with : List PlainLaw → PlainClaim → List PlainLaw
laws_with laws (assumed l) = laws
laws_with laws (proved l moves) = laws ++ l ∷ []

abbrev pub axioms_with : List PlainLaw → PlainClaim → List PlainLaw
axioms_with axioms (assumed l) = axioms ++ l ∷ []
axioms_with axioms (proved l moves) = axioms

-- with one more claim
abbrev pub with_claim : PlainTheory → PlainClaim → PlainTheory
with_claim t c = record t { laws = laws_with t.laws c; axioms = axioms_with t.axioms c }

-- whether a claim needs no proof over the theory before it, or has one
abbrev pub is_shown : PlainTheory → PlainClaim → Bool
is_shown t (assumed l) = true
is_shown t (proved l moves) = is_proved t l moves

-- whether each claim is shown over the theory and the claims before it
abbrev pub are_shown : PlainTheory → List PlainClaim → Bool
are_shown t [] = true
are_shown t (c ∷ cs) = is_shown t c && are_shown (with_claim t c) cs
