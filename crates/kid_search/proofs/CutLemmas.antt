-- Cuts one after another, and a plan's pruning from its cuts and filters.
use Rattle.std.proofs.Common.{◌≡◌, Bool, true, arith}
use Rattle.std.specs.Prelude.{◌&&◌}
use Rattle.kid_value.specs.PlainValue.{PlainValue}
use Rattle.kid_value.proofs.SortLemmas.{and_parts}
use Rattle.kid_search.specs.Searching.{Pruning, IsNecessary}
use Rattle.kid_search.specs.Space.{Descriptor, Space}
use Rattle.kid_search.specs.SpaceLaws.{IsCut}

module _ (s : Space) (in_sort : PlainValue → Bool) where
  pub no-cut : (d : Descriptor) → s.is_good d ≡ true → IsCut s in_sort (λ z. true) d d
  no-cut d g = record { good = g; rank = omega arith; within = λ z i h. h; keeps = λ z i f h. h }

  -- the second fact is asked for at the descriptor that the first cut made
  pub then-cut : (f g : PlainValue → Bool) (d e changed : Descriptor) → IsCut s in_sort f d e → IsCut s in_sort g e changed → IsCut s in_sort (λ z. f z && g z) d changed
  then-cut f g d e changed a b = record {
    good = b.good;
    rank = omega (arith, a.rank, b.rank);
    within = λ z i h. a.within z i (b.within z i h);
    keeps = λ z i h k. let r = and_parts (f z) (g z) h in b.keeps z i r.1 (a.keeps z i r.0 k);
  }

  -- where each feasible value makes the facts of the cuts and the filters true, no answer is lost
  pub necessary-cuts : (holds : PlainValue → Bool) (p : Pruning) (fact : Descriptor → PlainValue → Bool)
      → ((d : Descriptor) → s.is_good d ≡ true → IsCut s in_sort (fact d) d (p.cut d))
      → ((d : Descriptor) (z : PlainValue) → s.is_good d ≡ true → (in_sort z && holds z) ≡ true → s.satisfies d z ≡ true → fact d z ≡ true)
      → ((d : Descriptor) (z : PlainValue) → s.is_good d ≡ true → (in_sort z && holds z) ≡ true → s.satisfies d z ≡ true → p.passes d ≡ true)
      → IsNecessary s (λ z. in_sort z && holds z) p
  necessary-cuts holds p fact cuts facts filters = record {
    cut_good = λ d g. let c = cuts d g in c.good;
    cut_rank = λ d g. let c = cuts d g in c.rank;
    cut_within = λ d z g f h. let c = cuts d g in c.within z (and_parts (in_sort z) (holds z) f).0 h;
    cut_keeps = λ d z g f h. let c = cuts d g in c.keeps z (and_parts (in_sort z) (holds z) f).0 (facts d z g f h) h;
    filter_keeps = filters;
  }
