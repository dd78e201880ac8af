-- The cuts of subsets lose nothing.
use Rattle.std.proofs.Common.{◌≡◌, List, [], ◌∷◌, map, refl, sym, ◌∙◌, subst}
use Rattle.kid_value.specs.InSort.{in_sort}
use Rattle.kid_value.specs.PlainSort.{PlainSort, sets}
use Rattle.kid_value.specs.PlainValue.{PlainValue}
use Rattle.kid_value.specs.Rows.Logic.{eq}
use Rattle.kid_value.specs.Rows.Parts.{truth_of}
use Rattle.kid_value.specs.Rows.Set as rows
use Rattle.kid_term.specs.Eval.{eval}
use Rattle.kid_search.specs.CutBy.{cut_by}
use Rattle.kid_search.specs.Pieces.{space_of, at_descriptor}
use Rattle.kid_search.specs.RangeCuts.{fact_at}
use Rattle.kid_search.specs.Space.{Descriptor, no_members}
use Rattle.kid_search.specs.SpaceLaws.{IsCut}
use Rattle.kid_search.specs.declared.cut_kind.CutKind.TheVariants.{Drop, Take, Pool, Low, High}
use Rattle.kid_search.proofs.RangeCutLaws.{cut-same}
use Rattle.kid_search.proofs.ReadLemmas.{found, unmentioned, apart}
use Rattle.kid_search.proofs.SameSpace.{SameAtGood}
use Rattle.kid_subsets.specs.Subsets.{subsets_space, subsets_drop, subsets_take, is_apart, is_within}
use Rattle.kid_subsets.specs.SubsetsPieces.{subsets_pieces}
use Rattle.kid_subsets.specs.SubsetsCuts.{SubsetsCutsLoseNothing}
use Rattle.kid_subsets.proofs.SubsetsLaws.{drop-cut, take-cut}
use Rattle.kid_subsets.proofs.SubsetsLifting as lifting

drop-same : (ss : List PlainSort) (c : PlainValue) (d : Descriptor) → subsets_drop c d ≡ cut_by Drop ss c d
drop-same ss c [] = refl
drop-same ss c (x ∷ []) = refl
drop-same ss c (x ∷ y ∷ []) = refl
drop-same ss c (x ∷ y ∷ t ∷ ts) = refl

take-same : (ss : List PlainSort) (c : PlainValue) (d : Descriptor) → subsets_take c d ≡ cut_by Take ss c d
take-same ss c [] = refl
take-same ss c (x ∷ []) = refl
take-same ss c (x ∷ y ∷ []) = refl
take-same ss c (x ∷ y ∷ t ∷ ts) = refl

pub subsets_cuts_lose_nothing : SubsetsCutsLoseNothing
subsets_cuts_lose_nothing a least u w z s calls input least_is names Drop k c free b d g i =
    let p = subsets_pieces a least u w z s in
    let env = at_descriptor calls input z p d in
    let same = lifting.same a least u w z s calls input (apart u w z names) least_is in
    let good = sym (same.good d) ∙ g in
    subst (λ e. IsCut (space_of calls input z p) (in_sort (sets a)) (fact_at calls input z p Drop c d) d e) (drop-same (map (λ n. n.1) p.components) (eval calls env c) d)
    (cut-same (subsets_space a) (space_of calls input z p) (in_sort (sets a)) same (is_apart (eval calls env c)) (fact_at calls input z p Drop c d)
    (λ v e. (λ j. truth_of (eq (rows.inter (sym (found z v env) j) (sym (unmentioned calls z v env c free) j)) no_members)) ∙ e)
    d (subsets_drop (eval calls env c) d) good (drop-cut a b (eval calls env c) i d good))
subsets_cuts_lose_nothing a least u w z s calls input least_is names Take k c free b d g i =
    let p = subsets_pieces a least u w z s in
    let env = at_descriptor calls input z p d in
    let same = lifting.same a least u w z s calls input (apart u w z names) least_is in
    let good = sym (same.good d) ∙ g in
    subst (λ e. IsCut (space_of calls input z p) (in_sort (sets a)) (fact_at calls input z p Take c d) d e) (take-same (map (λ n. n.1) p.components) (eval calls env c) d)
    (cut-same (subsets_space a) (space_of calls input z p) (in_sort (sets a)) same (is_within (eval calls env c)) (fact_at calls input z p Take c d)
    (λ v e. (λ j. truth_of (rows.subset (sym (unmentioned calls z v env c free) j) (sym (found z v env) j))) ∙ e)
    d (subsets_take (eval calls env c) d) good (take-cut a b (eval calls env c) i d good))
subsets_cuts_lose_nothing a least u w z s calls input least_is names Pool k c free b d g i = cc
subsets_cuts_lose_nothing a least u w z s calls input least_is names Low k c free b d g i = cc
subsets_cuts_lose_nothing a least u w z s calls input least_is names High k c free b d g i = cc
