-- What a call put on err.
use Rattle.std.specs.Prelude.{◌≡◌, ◌≢◌, ℕ, List, ◌++◌, Option, Some, None, option_map, ◌⊎◌, ⊤}
use Rattle.kid_outer.specs.Causes.{Rose}
use Rattle.kid_outer.specs.Held.{Held}
use Rattle.kid_top.specs.declared.stop.Stop.{Stop}
use Rattle.kid_top.specs.declared.stop.Stop.TheVariants as stop
use Rattle.kid_top.specs.Stops.{status_of, stop_text, ComplainsFront}
use Rattle.kid_top.specs.Outcome.{outcome, Refuses}

abbrev pub HasNotRisen : ℕ → ℕ → Type 0
HasNotRisen before now = Rose before now → ⊥

abbrev pub IsRefusedBy : Stop → List (List ℕ) → Option Held → Type 0
IsRefusedBy why words None = ⊤
IsRefusedBy why words (Some files) = Refuses why (outcome words files)

-- the text of the stop that the status is that of, and that the files give
pub record PutsText (words : List (List ℕ)) (files : Option Held) (status : ℕ) (old new : Option (List ℕ)) : Type 0 where
  pub why : Stop
  pub cause : IsRefusedBy why words files
  pub status_is : status ≡ status_of why
  pub said : new ≡ option_map (λ w. w ++ stop_text why) old

-- nothing where the work was done, and the memory text or nothing where memory ran out
abbrev pub Says : List (List ℕ) → Option Held → ℕ → Option (List ℕ) → Option (List ℕ) → Type 0
Says words files status old new =
    (status ≡ 0 → new ≡ old)
    × (status ≡ 4 → new ≡ old)
    × (status ≡ 1 → (new ≡ old) ⊎ (new ≡ option_map (λ w. w ++ stop_text stop.Memory) old))
    × (status ≢ 0 → status ≢ 1 → status ≢ 4 → PutsText words files status old new)

-- the status is that of a stop that the files give, of whose text a front was put, or memory ran out and nothing was put
pub record PutsStop (words : List (List ℕ)) (files : Option Held) (status : ℕ) (old new : Option (List ℕ)) : Type 0 where
  pub why : Stop
  pub cause : IsRefusedBy why words files
  pub complains : ComplainsFront why status old new

-- whatever failed: the work was done and nothing was put, or it stopped
abbrev pub EndsSaying : List (List ℕ) → Option Held → ℕ → Option (List ℕ) → Option (List ℕ) → Type 0
EndsSaying words files status old new = (((status ≡ 0) ⊎ (status ≡ 4)) × (new ≡ old)) ⊎ PutsStop words files status old new
