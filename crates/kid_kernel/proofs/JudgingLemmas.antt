-- What kid_sorting and kid_scope say of sorts in words of their own.
use Rattle.std.proofs.Common.{◌≡◌, Bool, Result, Ok, Err, refl, subst}
use Rattle.std.specs.Prelude.{IfOk}
use Rattle.kid_value.specs.PlainSort.{PlainSort, never, bools, ints, pairs, sets, seqs, maps, enums}
use Rattle.kid_term.specs.Sorted.{Sorted}
use Rattle.kid_sorting.specs.Declaring as declaring
use Rattle.kid_scope.specs.Rewriting.{lies_within}
use Rattle.kid_scope.specs.Settling.{is_a_truth}

within_said : (s : PlainSort) (r : Sorted) → declaring.is_within s r ≡ lies_within s r
within_said s (Ok a) = refl
within_said s (Err fault) = refl

truth_said : (r : Sorted) → declaring.is_truth r ≡ is_a_truth r
truth_said (Ok never) = refl
truth_said (Ok bools) = refl
truth_said (Ok (ints a b)) = refl
truth_said (Ok (pairs a b)) = refl
truth_said (Ok (sets a)) = refl
truth_said (Ok (seqs a n)) = refl
truth_said (Ok (maps a b)) = refl
truth_said (Ok (enums ns)) = refl
truth_said (Err fault) = refl

pub within_same : {E : Type 0} (found : Result Bool E) (s : PlainSort) (r : Sorted) → IfOk found (λ b. b ≡ declaring.is_within s r) → IfOk found (λ b. b ≡ lies_within s r)
within_same found s r h = subst (λ z. IfOk found (λ b. b ≡ z)) (within_said s r) h

pub truth_same : {E : Type 0} (found : Result Bool E) (r : Sorted) → IfOk found (λ b. b ≡ declaring.is_truth r) → IfOk found (λ b. b ≡ is_a_truth r)
truth_same found r h = subst (λ z. IfOk found (λ b. b ≡ z)) (truth_said r) h
