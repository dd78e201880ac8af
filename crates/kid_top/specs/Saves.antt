-- What saving does to the files that are held.
use Rattle.std.specs.Prelude.{◌≡◌, ◌≢◌, ℕ, List, Option, Some, None, option_map, ◌⊎◌, ⊤}
use Rattle.kid_outer.specs.Causes.{Rose}
use Rattle.kid_outer.specs.Held.{Held, update}
use Rattle.kid_top.specs.Risen.{Counts}
use Rattle.kid_top.specs.declared.stop.Stop.{Stop}
use Rattle.kid_top.specs.declared.stop.Stop.TheVariants as stop

-- what may come once there is work: want of memory or a failure
abbrev pub IsLateStop : Stop → Type 0
IsLateStop stop.Memory = ⊤
IsLateStop stop.Failed = ⊤
IsLateStop why = ⊥

abbrev pub SavesOne : List ℕ → List ℕ → Option Held → Option Held → Type 0
SavesOne name bytes old new = new ≡ option_map (update name bytes) old

-- both names hold their bytes, and each other what it held
abbrev pub SavesBoth : (derivation program bytes text : List ℕ) → Option Held → Option Held → Type 0
SavesBoth derivation program bytes text old new = new ≡ option_map (λ files. update program text (update derivation bytes files)) old

-- No other name changed, and where the program's did, the derivation's holds its bytes.
pub record KeptInOrder (derivation program bytes : List ℕ) (files after : Held) : Type 0 where
  pub others : (name : List ℕ) → name ≢ derivation → name ≢ program → after name ≡ files name
  pub order : (after program ≡ files program) ⊎ (after derivation ≡ Some bytes)

abbrev pub SavesInOrder : (derivation program bytes : List ℕ) → Option Held → Option Held → Type 0
SavesInOrder derivation program bytes (Some files) (Some after) = KeptInOrder derivation program bytes files after
SavesInOrder derivation program bytes None None = ⊤
SavesInOrder derivation program bytes (Some files) None = ⊥
SavesInOrder derivation program bytes None (Some after) = ⊥

-- no call on either name failed
abbrev pub NoneRose : (derivation program : List ℕ) → Counts → Counts → Type 0
NoneRose derivation program before now = (Rose (before derivation) (now derivation) → ⊥) × (Rose (before program) (now program) → ⊥)

-- nothing was saved, or the derivation alone, or both
abbrev pub SavesFront : (derivation program bytes text : List ℕ) → Option Held → Option Held → Type 0
SavesFront derivation program bytes text old new = (new ≡ old) ⊎ (SavesOne derivation bytes old new ⊎ SavesBoth derivation program bytes text old new)
