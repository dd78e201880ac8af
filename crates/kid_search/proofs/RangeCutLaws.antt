-- The cuts of an interval lose nothing.
use Rattle.std.proofs.Common.{◌≡◌, ◌≤◌, Bool, true, List, [], ◌∷◌, map, refl, sym, ◌∙◌, subst}
use Rattle.kid_value.specs.InSort.{in_sort}
use Rattle.kid_value.specs.PlainSort.{PlainSort, ints}
use Rattle.kid_value.specs.PlainValue.{PlainValue}
use Rattle.kid_value.specs.Rows.Parts.{truth_of}
use Rattle.kid_value.specs.Rows.Number.{le}
use Rattle.kid_term.specs.Eval.{eval}
use Rattle.kid_search.specs.CutBy.{cut_by}
use Rattle.kid_search.specs.Pieces.{space_of, at_descriptor}
use Rattle.kid_search.specs.Range.{range_space, range_low, range_high, is_at_least, is_at_most}
use Rattle.kid_search.specs.RangePieces.{range_pieces}
use Rattle.kid_search.specs.RangeCuts.{fact_at, RangeCutsLoseNothing}
use Rattle.kid_search.specs.Space.{Descriptor, Space}
use Rattle.kid_search.specs.SpaceLaws.{IsCut}
use Rattle.kid_search.specs.declared.cut_kind.CutKind.TheVariants.{Drop, Take, Pool, Low, High}
use Rattle.kid_search.proofs.RangeLaws.{low-cut, high-cut}
use Rattle.kid_search.proofs.RangeLifting.{range-same}
use Rattle.kid_search.proofs.ReadLemmas.{found, unmentioned, apart}
use Rattle.kid_search.proofs.SameSpace.{SameAtGood}

-- a cut of a space is one of a space that is as it at good descriptors, and for each fact that implies its own
pub cut-same : (s t : Space) (of_sort : PlainValue → Bool) → SameAtGood s t of_sort → (f g : PlainValue → Bool) → ((v : PlainValue) → g v ≡ true → f v ≡ true) → (d e : Descriptor)
    → s.is_good d ≡ true → IsCut s of_sort f d e → IsCut t of_sort g d e
cut-same s t of_sort same f g implies d e good cut = record {
  good = same.good e ∙ cut.good;
  rank = subst (λ n. n ≤ t.rank d) (sym (same.rank e cut.good)) (subst (λ n. s.rank e ≤ n) (sym (same.rank d good)) cut.rank);
  within = λ v i h. same.satisfies d v good i ∙ cut.within v i (sym (same.satisfies e v cut.good i) ∙ h);
  keeps = λ v i h k. same.satisfies e v cut.good i ∙ cut.keeps v i (implies v h) (sym (same.satisfies d v good i) ∙ k);
}

low-same : (ss : List PlainSort) (c : PlainValue) (d : Descriptor) → range_low c d ≡ cut_by Low ss c d
low-same ss c [] = refl
low-same ss c (x ∷ []) = refl
low-same ss c (x ∷ y ∷ []) = refl
low-same ss c (x ∷ y ∷ t ∷ ts) = refl

high-same : (ss : List PlainSort) (c : PlainValue) (d : Descriptor) → range_high c d ≡ cut_by High ss c d
high-same ss c [] = refl
high-same ss c (x ∷ []) = refl
high-same ss c (x ∷ y ∷ []) = refl
high-same ss c (x ∷ y ∷ t ∷ ts) = refl

pub range_cuts_lose_nothing : RangeCutsLoseNothing
range_cuts_lose_nothing lo hi l h z a b calls input names Low k c free x y d g i =
    let p = range_pieces lo hi l h z a b in
    let env = at_descriptor calls input z p d in
    let same = range-same lo hi l h z a b calls input (apart l h z names) in
    let good = sym (same.good d) ∙ g in
    subst (λ e. IsCut (space_of calls input z p) (in_sort (ints lo hi)) (fact_at calls input z p Low c d) d e) (low-same (map (λ n. n.1) p.components) (eval calls env c) d)
    (cut-same (range_space lo hi) (space_of calls input z p) (in_sort (ints lo hi)) same (is_at_least (eval calls env c)) (fact_at calls input z p Low c d)
    (λ v e. (λ j. truth_of (le (sym (unmentioned calls z v env c free) j) (sym (found z v env) j))) ∙ e)
    d (range_low (eval calls env c) d) good (low-cut lo hi x y (eval calls env c) i d good))
range_cuts_lose_nothing lo hi l h z a b calls input names High k c free x y d g i =
    let p = range_pieces lo hi l h z a b in
    let env = at_descriptor calls input z p d in
    let same = range-same lo hi l h z a b calls input (apart l h z names) in
    let good = sym (same.good d) ∙ g in
    subst (λ e. IsCut (space_of calls input z p) (in_sort (ints lo hi)) (fact_at calls input z p High c d) d e) (high-same (map (λ n. n.1) p.components) (eval calls env c) d)
    (cut-same (range_space lo hi) (space_of calls input z p) (in_sort (ints lo hi)) same (is_at_most (eval calls env c)) (fact_at calls input z p High c d)
    (λ v e. (λ j. truth_of (le (sym (found z v env) j) (sym (unmentioned calls z v env c free) j))) ∙ e)
    d (range_high (eval calls env c) d) good (high-cut lo hi x y (eval calls env c) i d good))
range_cuts_lose_nothing lo hi l h z a b calls input names Drop k c free x y d g i = cc
range_cuts_lose_nothing lo hi l h z a b calls input names Take k c free x y d g i = cc
range_cuts_lose_nothing lo hi l h z a b calls input names Pool k c free x y d g i = cc
