-- Terms that have sorts cast to allowed sorts alone.
use Rattle.std.proofs.Common.{◌≡◌, true, List, [], ◌∷◌, Result, Ok, refl}
use Rattle.kid_value.specs.PlainSort.{PlainSort, bools}
use Rattle.kid_value.proofs.SortLemmas.{and_both}
use Rattle.kid_term.specs.Names.{Names, PlainDef}
use Rattle.kid_term.specs.PlainTerm.{PlainTerm, term_row}
use Rattle.kid_term.specs.Sorted.{Fault, Sorted, ◌>>=◌}
use Rattle.kid_term.specs.Sorting.{sort_of}
use Rattle.kid_term.proofs.Inversions.{bind_ok}
use Rattle.kid_sorting.specs.Declaring.{is_truth}
use Rattle.kid_codec.specs.TermSpelling.{casts_are_allowed, all_casts_are_allowed}
pub use Rattle.kid_codec.proofs.SortedCasts.{sorted_casts}
use Rattle.kid_prog.specs.Rules.{sorts_of}

pub all_sorted_casts : (defs : List PlainDef) (names : Names) (ts : List PlainTerm) (ss : List PlainSort) → sorts_of defs names ts ≡ Ok ss → all_casts_are_allowed (term_row ts) ≡ true
all_sorted_casts defs names [] ss p = refl
all_sorted_casts defs names (t ∷ ts) ss p =
    let gather : PlainSort → List PlainSort → Result (List PlainSort) Fault = λ s us. Ok (s ∷ us) in
    let q = bind_ok (sort_of defs names t) (λ s. sorts_of defs names ts >>= gather s) ss p in
    let r = bind_ok (sorts_of defs names ts) (gather q.0) ss q.2 in
    and_both (casts_are_allowed t) (all_casts_are_allowed (term_row ts)) (sorted_casts defs names t q.0 q.1) (all_sorted_casts defs names ts r.0 r.1)

pub truth_sorted : (r : Sorted) → is_truth r ≡ true → r ≡ Ok bools
truth_sorted (Ok bools) h = refl
truth_sorted r h = cc
