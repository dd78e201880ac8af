-- What a call may have changed of what is held.
use Rattle.std.specs.Prelude.{◌≡◌, ◌≢◌, ℕ, List, Option, Some, None, Result, Ok, Err, ◌⊎◌, ⊤}
use Rattle.kid_outer.specs.Held.{Held}
use Rattle.kid_top.specs.declared.stop.Stop.{Stop}
use Rattle.kid_top.specs.Stops.{status_of}
use Rattle.kid_top.specs.Command.{Command, derive}
use Rattle.kid_top.specs.Outcome.{Work, saves, work_of}
use Rattle.kid_top.specs.Risen.{Counts}
use Rattle.kid_top.specs.Saves.{NoneRose, SavesFront}

-- what derive may have changed: its two names alone, the derivation's first, and nothing where it was refused
pub record SavesOnly (o : Result Work Stop) (derivation program : List ℕ) (status : ℕ) (files after : Held) : Type 0 where
  pub refused : status ≢ 0 → status ≢ 1 → status ≢ 3 → after ≡ files
  pub others : (name : List ℕ) → name ≢ derivation → name ≢ program → after name ≡ files name
  pub order : (after program ≡ files program) ⊎ ((bytes : List ℕ) × (text : List ℕ) × (o ≡ Ok (saves derivation program bytes text)) × (after derivation ≡ Some bytes))

abbrev pub DeriveKeeps : Command → List ℕ → List ℕ → ℕ → Option Held → Option Held → Type 0
DeriveKeeps command derivation program status (Some files) (Some after) = SavesOnly (work_of command files) derivation program status files after
DeriveKeeps command derivation program status None None = ⊤
DeriveKeeps command derivation program status files after = ⊥

-- no other command changes what is held
abbrev pub KeepsFiles : Option Command → ℕ → Option Held → Option Held → Type 0
KeepsFiles (Some (derive theory script derivation program)) status files after = DeriveKeeps (derive theory script derivation program) derivation program status files after
KeepsFiles command status files after = after ≡ files

abbrev pub result_status : Result ℕ Stop → ℕ
result_status (Ok status) = status
result_status (Err why) = status_of why

abbrev pub KeepsFilesBy : Option Command → Result ℕ Stop → Option Held → Option Held → Type 0
KeepsFilesBy command result files after = KeepsFiles command (result_status result) files after

-- nothing was saved, or the text of the derivation alone, or both texts
abbrev pub SavesOwn : Result Work Stop → (derivation program : List ℕ) → Held → Held → Type 0
SavesOwn o derivation program files after =
    (after ≡ files)
    ⊎ ((bytes : List ℕ) × (text : List ℕ) × (o ≡ Ok (saves derivation program bytes text)) × SavesFront derivation program bytes text (Some files) (Some after))

-- so it is where no call on derive's two names failed
abbrev pub KeepsWhole : Option Command → Counts → Counts → Option Held → Option Held → Type 0
KeepsWhole (Some (derive theory script derivation program)) before now (Some files) (Some after) =
    NoneRose derivation program before now → SavesOwn (work_of (derive theory script derivation program) files) derivation program files after
KeepsWhole command before now files after = ⊤

-- what derive has saved after a failure: nothing, where no call on its two names failed, since all else fails before
abbrev pub LeavesFiles : Option Command → Counts → Counts → Option Held → Option Held → Type 0
LeavesFiles (Some (derive theory script derivation program)) before now files after = NoneRose derivation program before now → after ≡ files
LeavesFiles command before now files after = ⊤
