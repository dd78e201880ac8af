-- Words of a count that no command has.
use Rattle.std.proofs.Common.{◌≡◌, ◌≢◌, ℕ, List, [], ◌∷◌, length, map, None, refl, arith}
use Rattle.kid_top.specs.Command.{command_of}

pub no_command : {A : Type 0} (f : A → List ℕ) (words : List A) → length words ≢ 3 → length words ≢ 4 → length words ≢ 5 → length words ≢ 6 → command_of (map f words) ≡ None
no_command f [] a b c d = refl
no_command f (x ∷ []) a b c d = refl
no_command f (x ∷ y ∷ []) a b c d = refl
no_command f (x ∷ y ∷ z ∷ []) a b c d = absurd (a (omega arith))
no_command f (x ∷ y ∷ z ∷ u ∷ []) a b c d = absurd (b (omega arith))
no_command f (x ∷ y ∷ z ∷ u ∷ v ∷ []) a b c d = absurd (c (omega arith))
no_command f (x ∷ y ∷ z ∷ u ∷ v ∷ w ∷ []) a b c d = absurd (d (omega arith))
no_command f (x ∷ y ∷ z ∷ u ∷ v ∷ w ∷ t ∷ ts) a b c d = refl

pub ruleset commands = (no_command)
