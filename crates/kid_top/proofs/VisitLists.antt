-- What the visited descriptors of a search hold, where so many values are wanted.
use Rattle.std.proofs.Common.{◌≡◌, ℕ, zero, suc, List, [], ◌∷◌, ◌++◌, take, Option, Some, None, refl, sym, ap, ap₂, ◌∙◌}
use Rattle.std.specs.List.{flat_map}
use Rattle.std.specs.Option.{option_to_list}
use Rattle.std.proofs.lemmas.Grind.{flat_map-append}
use Rattle.kid_term.specs.Answer.{first_of}
use Rattle.kid_top.specs.Search.{visit, visited, left_after, upto_leaf, upto_wanted}

-- what the descriptors hold, in their order
abbrev pub leaves : {D V : Type 0} → (D → Option V) → List D → List V
leaves leaf ds = flat_map (λ d. option_to_list (leaf d)) ds

-- what is found at a descriptor and below it is what the visited ones hold
visits_hold : {D V : Type 0} (leaf : D → Option V) (kids : D → List D) (n : ℕ) → ((d : D) → visit leaf kids n d ≡ leaves leaf (visited kids n d))
    → (ds : List D) → flat_map (visit leaf kids n) ds ≡ leaves leaf (flat_map (visited kids n) ds)
visits_hold leaf kids n each [] = refl
visits_hold leaf kids n each (d ∷ ds) =
    ap₂ (λ vs ws. vs ++ ws) (each d) (visits_hold leaf kids n each ds) ∙ sym (flat_map-append (λ e. option_to_list (leaf e)) (visited kids n d) (flat_map (visited kids n) ds))

pub visit_holds : {D V : Type 0} (leaf : D → Option V) (kids : D → List D) (n : ℕ) (d : D) → visit leaf kids n d ≡ leaves leaf (visited kids n d)
visit_holds leaf kids zero d = refl
visit_holds leaf kids (suc n) d = ap (λ vs. option_to_list (leaf d) ++ vs) (visits_hold leaf kids n (λ e. visit_holds leaf kids n e) (kids d))

-- one descriptor before others, by what it holds
leaf_first : {D V : Type 0} (leaf : D → Option V) (o : Option V) (k : ℕ) (ds : List D)
    → take k (leaves leaf ds) ≡ leaves leaf (upto_leaf leaf k ds) → take (suc k) (leaves leaf ds) ≡ leaves leaf (upto_leaf leaf (suc k) ds)
    → take (suc k) (option_to_list o ++ leaves leaf ds) ≡ option_to_list o ++ leaves leaf (upto_leaf leaf (left_after o k) ds)
leaf_first leaf (Some v) k ds fewer same = ap (λ vs. v ∷ vs) fewer
leaf_first leaf None k ds fewer same = same

none_first : {V : Type 0} (vs : List V) → take 0 vs ≡ []
none_first [] = refl
none_first (v ∷ vs) = refl

-- the first k values are held by the descriptors up to the k-th value
leaves_upto : {D V : Type 0} (leaf : D → Option V) (k : ℕ) (ds : List D) → take k (leaves leaf ds) ≡ leaves leaf (upto_leaf leaf k ds)
leaves_upto leaf zero ds = none_first (leaves leaf ds)
leaves_upto leaf (suc k) [] = refl
leaves_upto leaf (suc k) (d ∷ ds) = leaf_first leaf (leaf d) k ds (leaves_upto leaf k ds) (leaves_upto leaf (suc k) ds)

-- the values that are wanted are those that the descriptors hold as far as values are wanted
pub leaves_wanted : {D V : Type 0} (leaf : D → Option V) (first : Option ℕ) (ds : List D) → first_of first (leaves leaf ds) ≡ leaves leaf (upto_wanted leaf first ds)
leaves_wanted leaf None ds = refl
leaves_wanted leaf (Some k) ds = leaves_upto leaf k ds
