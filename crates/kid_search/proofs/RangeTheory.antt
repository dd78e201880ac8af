-- The search of an interval keeps the laws of a search theory.
use Rattle.std.proofs.Common.{◌≡◌, ℕ, ℤ, Bool, true, false, cond, List, [], ◌∷◌, Ok, Err, refl, sym, ap, subst}
use Rattle.std.specs.Prelude.{◌&&◌, not}
use Rattle.kid_value.specs.Canonical.{is_canonical}
use Rattle.kid_value.specs.InSort.{in_sort}
use Rattle.kid_value.specs.PlainSort.{PlainSort, ints, has_sort}
use Rattle.kid_value.specs.PlainValue.{PlainValue}
use Rattle.kid_value.specs.SortOrder.{is_subsort}
use Rattle.kid_value.proofs.SortLemmas.{and_parts, and_both, has_sort-subsort}
use Rattle.kid_term.specs.Eval.{Env, Calls, eval}
use Rattle.kid_term.specs.PlainTerm.{PlainTerm}
use Rattle.kid_term.specs.Substitution.{mentions}
use Rattle.kid_term.specs.declared.why.Why.TheVariants.{IllSorted, Limit}
use Rattle.kid_search.specs.Judged.{pieces_fit, judged}
use Rattle.kid_search.specs.Pieces.{PlainPieces, AreLawful, lacks}
use Rattle.kid_search.specs.RangePieces.{range_pieces}
use Rattle.kid_search.specs.RangeAnswer.{has_ends, has_middle, are_within, range_between, range_answer}
use Rattle.kid_search.specs.TheoryLaws.{IsSearchTheory, AreGiven, has_kids}
use Rattle.kid_search.proofs.RangeLifting.{range_is_lawful}

-- what was judged is what was made
pub judged-same : (sorted : Bool) (p q : PlainPieces) → judged sorted p ≡ Ok q → q ≡ p
judged-same sorted p q e = by (pieces_fit p) sorted e
  where
    by : (f s : Bool) → cond f (cond s (Ok p) (Err IllSorted)) (Err Limit) ≡ Ok q → q ≡ p
    by true true e = cc
    by true false e = cc
    by false s e = cc

-- what is made where both terms are within
between-same : (lo hi : ℤ) (z : List ℕ) (l h : List ℕ × PlainSort) (a b : PlainTerm) (p : PlainPieces) → range_between lo hi z l h a b ≡ Ok p
    → (are_within lo hi l.1 h.1 ≡ true) × (p ≡ range_pieces lo hi l.0 h.0 z a b)
between-same lo hi z l h a b p e = by (are_within lo hi l.1 h.1) refl (has_ends lo hi) e
  where
    by : (w : Bool) → are_within lo hi l.1 h.1 ≡ w → (k : Bool) → cond (w && k) (judged (has_middle lo hi) (range_pieces lo hi l.0 h.0 z a b)) (Err IllSorted) ≡ Ok p
        → (are_within lo hi l.1 h.1 ≡ true) × (p ≡ range_pieces lo hi l.0 h.0 z a b)
    by true q true e = (q, judged-same (has_middle lo hi) (range_pieces lo hi l.0 h.0 z a b) p e)
    by true q false e = cc
    by false q k e = cc

-- a value of a sort within the output's is of the output's
pub widened : (output s : PlainSort) (v : PlainValue) → is_subsort s output ≡ true → in_sort s v ≡ true → in_sort output v ≡ true
widened output s v e i =
    let r = and_parts (has_sort s v) (is_canonical v) i in
    and_both (has_sort output v) (is_canonical v) (has_sort-subsort s output v e r.0) r.1

pub lacks-first : (t : PlainTerm) (z : List ℕ) (xs : List (List ℕ)) → lacks t (z ∷ xs) ≡ true → lacks t (z ∷ []) ≡ true
lacks-first t z xs e = ap (λ b. b && true) (and_parts (not (mentions z t)) (lacks t xs) e).0

pub range_keeps_laws : IsSearchTheory range_answer
range_keeps_laws (ints lo hi) z (l ∷ h ∷ []) (a ∷ b ∷ []) p e apart =
    let made = between-same lo hi z l h a b p e in
    let within = and_parts (is_subsort l.1 (ints lo hi)) (is_subsort h.1 (ints lo hi)) made.0 in
    subst (λ q. (has_kids q.branch q.kids ≡ true) × ((calls : Calls) (x : Env) → AreGiven calls x z (l ∷ h ∷ []) (l ∷ h ∷ []) (a ∷ b ∷ []) → AreLawful calls x z q (ints lo hi)))
    (sym made.1) (
      refl,
      λ calls x given. range_is_lawful lo hi l.0 h.0 z a b calls x apart
          (lacks-first a z (l.0 ∷ h.0 ∷ []) given.1) (lacks-first b z (l.0 ∷ h.0 ∷ []) given.2.1)
          (widened (ints lo hi) l.1 (eval calls x a) within.0 given.0) (widened (ints lo hi) h.1 (eval calls x b) within.1 given.2.0),
    )
range_keeps_laws s z names ts p e apart = cc
