-- What the work of a command comes to where the store tells what it holds.
use Rattle.std.proofs.Common.{◌≡◌, ◌≢◌, inl, inr, ℕ, false, List, [], ◌∷◌, Option, Some, None, Ok, sym, ap, ◌∙◌, subst}
use Rattle.std.specs.Prelude.{option_map, if◌then◌else◌, codes, ⊤}
use Rattle.std.specs.Str.{bytes_eq}
use Rattle.kid_outer.specs.Held.{Held}
use Rattle.kid_codec.proofs.Found.{same_some, if_some, if_else}
use Rattle.kid_codec.proofs.Numbers.{bytes_eq-itself}
use Rattle.kid_top.specs.Command.{Command, derive, run, solve, given_fuel, derive_words, fuel_of, command_of_two, command_of_three, command_of_four, command_of_five, command_of}
use Rattle.kid_top.specs.Done.{Does, DoesHeld, SolvesHeld, DerivesHeld}
use Rattle.kid_top.specs.Finishing.{WorkSaves}
use Rattle.kid_top.specs.Outcome.{Work, work_of, outcome_of, Outcomes}
use Rattle.kid_top.proofs.Derives.{derive_held}
use Rattle.kid_top.proofs.Headline.{solve_texts}

-- ---- solving

command_solves : (command : Option Command) (files : Held) (status : ℕ) (old new : Option (List ℕ)) → Does (outcome_of command files) status old new
    → SolvesHeld command (Some files) status old new
command_solves None files status old new d = tt
command_solves (Some (derive theory script derivation program)) files status old new d = tt
command_solves (Some (run program inputs fuel)) files status old new d = tt
command_solves (Some (solve theory script inputs fuel)) files status old new d = solve_texts files theory script inputs fuel d.work status old new d.comes d.status_is d.printed

none_solves : (command : Option Command) (status : ℕ) (old new : Option (List ℕ)) → SolvesHeld command None status old new
none_solves None status old new = tt
none_solves (Some (derive theory script derivation program)) status old new = tt
none_solves (Some (run program inputs fuel)) status old new = tt
none_solves (Some (solve theory script inputs fuel)) status old new = tt

-- where the work of solving was done, a theory was solved
pub solves_held : (words : List (List ℕ)) (files : Option Held) (status : ℕ) (old new : Option (List ℕ)) → DoesHeld words files status old new
    → SolvesHeld (command_of words) files status old new
solves_held words None status old new d = none_solves (command_of words) status old new
solves_held words (Some files) status old new d = command_solves (command_of words) files status old new d

-- ---- deriving

-- the two names of derive differ
abbrev pub AreApart : Command → Type 0
AreApart (derive theory script derivation program) = derivation ≢ program
AreApart command = ⊤

-- with both texts saved a theory was derived
pub derives_held : {X : Type 0} (command : Command) (files after : Option Held) (view : X → Work) (x : X) → AreApart command
    → Outcomes files view (Ok x) (λ held. work_of command held) → WorkSaves (view x) files after → DerivesHeld (Some command) files after
derives_held (derive theory script derivation program) (Some files) (Some after) view x apart e saved =
    derive_held files after theory script derivation program (view x) apart e saved
derives_held (derive theory script derivation program) (Some files) None view x apart e saved = tt
derives_held (derive theory script derivation program) None after view x apart e saved = tt
derives_held (run program inputs fuel) files after view x apart e saved = tt
derives_held (solve theory script inputs fuel) files after view x apart e saved = tt

none_some : {X : Type 0} (x : X) → None ≡ Some x → ⊥
none_some x e = cc

none_apart : (command : Command) → None ≡ Some command → AreApart command
none_apart command e = absurd (none_some command e)

same_command : (c d : Command) → Some c ≡ Some d → AreApart c → AreApart d
same_command c d e apart = subst AreApart (same_some c d e) apart

unlike : (x y : List ℕ) → bytes_eq x y ≡ false → x ≢ y
unlike x y h e = let k = sym (bytes_eq-itself x) ∙ ap (bytes_eq x) e ∙ h in cc

derive_apart : (theory script derivation program : List ℕ) (command : Command) → derive_words theory script derivation program ≡ Some command → AreApart command
derive_apart theory script derivation program command e =
    elim (if_else (bytes_eq derivation program) None (Some (derive theory script derivation program)) command e) [
      | inl r ↦ none_apart command r.1
      | inr r ↦ same_command (derive theory script derivation program) command r.1 (unlike derivation program r.0)
    ]

run_apart : (program inputs : List ℕ) (fuel : Option ℕ) (command : Command) → option_map (run program inputs) fuel ≡ Some command → AreApart command
run_apart program inputs None command e = none_apart command e
run_apart program inputs (Some fuel) command e = same_command (run program inputs fuel) command e tt

solve_apart : (theory script inputs : List ℕ) (fuel : Option ℕ) (command : Command) → option_map (solve theory script inputs) fuel ≡ Some command → AreApart command
solve_apart theory script inputs None command e = none_apart command e
solve_apart theory script inputs (Some fuel) command e = same_command (solve theory script inputs fuel) command e tt

two_apart : (word a b : List ℕ) (command : Command) → command_of_two word a b ≡ Some command → AreApart command
two_apart word a b command e = let r = if_some (bytes_eq word (codes "run")) (Some (run a b given_fuel)) command e in same_command (run a b given_fuel) command r.1 tt

three_apart : (word a b c : List ℕ) (command : Command) → command_of_three word a b c ≡ Some command → AreApart command
three_apart word a b c command e =
    let r = if_some (bytes_eq word (codes "solve")) (Some (solve a b c given_fuel)) command e in same_command (solve a b c given_fuel) command r.1 tt

four_apart : (word a b c d : List ℕ) (command : Command) → command_of_four word a b c d ≡ Some command → AreApart command
four_apart word a b c d command e =
    let other : Option Command = if bytes_eq word (codes "run") then option_map (run a b) (fuel_of c d) else None in
    elim (if_else (bytes_eq word (codes "derive")) (derive_words a b c d) other command e) [
      | inl r ↦ derive_apart a b c d command r.1
      | inr r ↦ run_apart a b (fuel_of c d) command (if_some (bytes_eq word (codes "run")) (option_map (run a b) (fuel_of c d)) command r.1).1
    ]

five_apart : (word a b c d e : List ℕ) (command : Command) → command_of_five word a b c d e ≡ Some command → AreApart command
five_apart word a b c d e command h = solve_apart a b c (fuel_of d e) command (if_some (bytes_eq word (codes "solve")) (option_map (solve a b c) (fuel_of d e)) command h).1

-- the two names differ where words fit derive
pub command_apart : (words : List (List ℕ)) (command : Command) → command_of words ≡ Some command → AreApart command
command_apart [] command h = none_apart command h
command_apart (word ∷ []) command h = none_apart command h
command_apart (word ∷ a ∷ []) command h = none_apart command h
command_apart (word ∷ a ∷ b ∷ []) command h = two_apart word a b command h
command_apart (word ∷ a ∷ b ∷ c ∷ []) command h = three_apart word a b c command h
command_apart (word ∷ a ∷ b ∷ c ∷ d ∷ []) command h = four_apart word a b c d command h
command_apart (word ∷ a ∷ b ∷ c ∷ d ∷ e ∷ []) command h = five_apart word a b c d e command h
command_apart (word ∷ a ∷ b ∷ c ∷ d ∷ e ∷ f ∷ rest) command h = none_apart command h
