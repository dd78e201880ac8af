-- What reading a name may answer, against what is held.
use Rattle.std.specs.Prelude.{◌≡◌, ℕ, ◌<◌, ◌≤◌, nat_lt, List, length, Option, Some, None, Result, Ok, Err, IsOk, IsSomeAnd, if◌then◌else◌, ⊤}
use Rattle.std.specs.Global.{Vec}
use Rattle.kid_outer.specs.Held.{Held}
use Rattle.kid_outer.specs.declared.store.LoadAnswer.{LoadAnswer}
use Rattle.kid_outer.specs.declared.store.LoadAnswer.TheVariants.{Failed, Absent, Large, Memory}

-- what reading that name may answer: each answer is true of what is held, where it is no failure, and memory is refused
-- only where there are bytes to give
abbrev pub Loads : Held → List ℕ → ℕ → Result (Vec ℕ) LoadAnswer → Type 0
Loads files name limit (Ok bytes) = files name ≡ Some bytes.items
Loads files name limit (Err Absent) = files name ≡ None
Loads files name limit (Err Large) = IsSomeAnd (files name) (λ bytes. limit < length bytes)
Loads files name limit (Err Failed) = ⊤
Loads files name limit (Err Memory) = IsSomeAnd (files name) (λ bytes. length bytes ≤ limit)

-- these bytes, if they are held and no more than the limit
abbrev pub within_limit : ℕ → Option (List ℕ) → Result (List ℕ) LoadAnswer
within_limit limit None = Err Absent
within_limit limit (Some bytes) = if nat_lt limit (length bytes) then Err Large else Ok bytes

-- what reading that name gives
abbrev pub reading : Held → List ℕ → ℕ → Result (List ℕ) LoadAnswer
reading files name limit = within_limit limit (files name)

-- the answer is what reading gives, or memory is refused for the bytes that it gives
abbrev pub GivesReading : Held → List ℕ → ℕ → Result (Vec ℕ) LoadAnswer → Type 0
GivesReading files name limit (Ok bytes) = reading files name limit ≡ Ok bytes.items
GivesReading files name limit (Err Memory) = IsOk (reading files name limit)
GivesReading files name limit (Err Failed) = ⊥
GivesReading files name limit (Err Absent) = reading files name limit ≡ Err Absent
GivesReading files name limit (Err Large) = reading files name limit ≡ Err Large
