-- The search of subsets keeps the laws of a search theory.
use Rattle.std.proofs.Common.{◌≡◌, ℕ, Bool, true, false, cond, List, [], ◌∷◌, Ok, Err, refl, sym, subst}
use Rattle.kid_value.specs.Canonical.{IsCanonical}
use Rattle.kid_value.specs.Least.{least_value}
use Rattle.kid_value.specs.PlainSort.{PlainSort, never, bools, ints, pairs, sets, seqs, maps, enums}
use Rattle.kid_value.specs.SortOrder.{is_subsort}
use Rattle.kid_term.specs.Eval.{Env, Calls, eval}
use Rattle.kid_term.specs.PlainTerm.{PlainTerm}
use Rattle.kid_term.specs.Quote.{quote}
use Rattle.kid_term.specs.declared.why.Why.TheVariants.{IllSorted}
use Rattle.kid_term.proofs.QuoteLemmas.{eval-quote}
use Rattle.kid_search.specs.Judged.{judged}
use Rattle.kid_search.specs.Pieces.{PlainPieces, AreLawful}
use Rattle.kid_search.specs.TheoryLaws.{IsSearchTheory, AreGiven, has_kids}
use Rattle.kid_search.proofs.RangeTheory.{judged-same, lacks-first, widened}
use Rattle.kid_subsets.specs.SubsetsPieces.{subsets_pieces}
use Rattle.kid_subsets.specs.SubsetsAnswer.{subsets_within, subsets_answer}
use Rattle.kid_subsets.proofs.SubsetsLifting.{subsets_are_lawful}

least-canonical : (a : PlainSort) → IsCanonical (least_value a)
least-canonical never = tt
least-canonical bools = tt
least-canonical (ints lo hi) = tt
least-canonical (pairs a b) = (least-canonical a, least-canonical b)
least-canonical (sets a) = (tt, tt)
least-canonical (seqs a n) = tt
least-canonical (maps a b) = (tt, tt)
least-canonical (enums ns) = tt

least-quoted : (a : PlainSort) (calls : Calls) (env : Env) → eval calls env (quote (least_value a)) ≡ least_value a
least-quoted a calls env = eval-quote calls env (least_value a) (least-canonical a)

-- what is made where the term is within
within-same : (a : PlainSort) (z : List ℕ) (u : List ℕ × PlainSort) (w : List ℕ) (s : PlainTerm) (p : PlainPieces) → subsets_within a z u w s ≡ Ok p
    → (is_subsort u.1 (sets a) ≡ true) × (p ≡ subsets_pieces a (quote (least_value a)) u.0 w z s)
within-same a z u w s p e = by (is_subsort u.1 (sets a)) refl e
  where
    by : (k : Bool) → is_subsort u.1 (sets a) ≡ k → cond k (judged true (subsets_pieces a (quote (least_value a)) u.0 w z s)) (Err IllSorted) ≡ Ok p
        → (is_subsort u.1 (sets a) ≡ true) × (p ≡ subsets_pieces a (quote (least_value a)) u.0 w z s)
    by true q e = (q, judged-same true (subsets_pieces a (quote (least_value a)) u.0 w z s) p e)
    by false q e = cc

pub subsets_keep_laws : IsSearchTheory subsets_answer
subsets_keep_laws (sets a) z (u ∷ w ∷ []) (s ∷ []) p e apart =
    let made = within-same a z u w.0 s p e in
    subst (λ q. (has_kids q.branch q.kids ≡ true) × ((calls : Calls) (x : Env) → AreGiven calls x z (u ∷ w ∷ []) (u ∷ w ∷ []) (s ∷ []) → AreLawful calls x z q (sets a)))
    (sym made.1) (
      refl,
      λ calls x given. subsets_are_lawful a (quote (least_value a)) u.0 w.0 z s calls x (least-quoted a calls) apart
          (lacks-first s z (u.0 ∷ w.0 ∷ []) given.1) (widened (sets a) u.1 (eval calls x s) made.0 given.0),
    )
subsets_keep_laws r z names ts p e apart = cc
