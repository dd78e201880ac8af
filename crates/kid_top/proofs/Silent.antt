-- Where texts are saved, nothing is put on out.
use Rattle.std.proofs.Common.{◌≡◌, ℕ, List, [], ◌∷◌, ◌++◌, Option, Some, None, refl, ap, ◌∙◌, subst, append-nil}
use Rattle.kid_outer.specs.Written.{AppendsPrefix}
use Rattle.kid_top.specs.Command.{Command, derive, run, solve, command_of}
use Rattle.kid_top.specs.Finishing.{FinishFront}
use Rattle.kid_top.specs.Outcome.{Work, runs, saves}
use Rattle.kid_top.specs.Shown.{IsSilent}
use Rattle.kid_top.specs.WorkView.{Suits}

no_front : (front rest : List ℕ) → [] ≡ front ++ rest → front ≡ []
no_front [] rest e = refl
no_front (x ∷ front) rest e = cc

-- a front of nothing is nothing
nothing_put : (old new : Option (List ℕ)) → AppendsPrefix [] old new → new ≡ old
nothing_put None None f = refl
nothing_put (Some old) (Some new) f = ap (λ (w : List ℕ). Some w) (f.3 ∙ ap (λ (w : List ℕ). old ++ w) (no_front f.0 f.1 f.2) ∙ append-nil old)
nothing_put (Some old) None f = absurd f
nothing_put None (Some new) f = absurd f

silent-finished : (command : Command) (w : Work) (old new : Option (List ℕ)) → Suits command w → FinishFront w old new → IsSilent (Some command) → new ≡ old
silent-finished (derive theory script derivation program) (saves d p bytes text) old new suits front silent = nothing_put old new front
silent-finished (derive theory script derivation program) (runs p xs fuel) old new suits front silent = absurd suits
silent-finished (run program inputs fuel) w old new suits front silent = absurd silent
silent-finished (solve theory script inputs fuel) w old new suits front silent = absurd silent

pub silent-by : (words : List (List ℕ)) (command : Command) (w : Work) (old new : Option (List ℕ)) → Some command ≡ command_of words → Suits command w → FinishFront w old new
    → IsSilent (command_of words) → new ≡ old
silent-by words command w old new fits suits front = subst (λ (c : Option Command). IsSilent c → new ≡ old) fits (silent-finished command w old new suits front)
