-- What a reader answered, against what there is to read.
use Rattle.std.specs.Prelude.{◌≡◌, Bool, Option, Some, None, option_and_then, Result, Ok, Err, ⊤, if◌then◌else◌}
use Rattle.kid_codec.specs.declared.fault.CodecFault.{CodecFault}
use Rattle.kid_codec.specs.declared.fault.CodecFault.TheVariants.{Form, Sort, Memory}

-- what a tree spells, unless it spells nothing or something that is not allowed
abbrev pub judged : {A : Type 0} → (A → Bool) → Option A → Result A CodecFault
judged is_allowed None = Err Form
judged is_allowed (Some x) = if is_allowed x then Ok x else Err Sort

-- what a tree spells, where it passes the test
abbrev pub fitting : {A : Type 0} → (A → Bool) → Option A → Result A CodecFault
fitting fits None = Err Form
fitting fits (Some x) = if fits x then Ok x else Err Form

abbrev pub Fails : {Y : Type 0} → CodecFault → Result Y CodecFault → Type 0
Fails Form reading = reading ≡ Err Form
Fails Sort reading = reading ≡ Err Sort
Fails Memory reading = ⊤

-- the answer is what reading gives; want of memory says nothing
abbrev pub Gives : {X Y : Type 0} → (X → Y) → Result X CodecFault → Result Y CodecFault → Type 0
Gives view (Ok x) reading = reading ≡ Ok (view x)
Gives view (Err fault) reading = Fails fault reading

abbrev pub Misses : {Y : Type 0} → CodecFault → Option Y → Type 0
Misses Form spelled = spelled ≡ None
Misses Sort spelled = ⊥
Misses Memory spelled = ⊤

-- the answer is what is spelled, and a form fault where nothing is; want of memory says nothing
abbrev pub Finds : {X Y : Type 0} → (X → Y) → Result X CodecFault → Option Y → Type 0
Finds view (Ok x) spelled = spelled ≡ Some (view x)
Finds view (Err fault) spelled = Misses fault spelled

infixl 10 ◌>>=◌
abbrev pub ◌>>=◌ : {A B : Type 0} → Option A → (A → Option B) → Option B
o >>= f = option_and_then f o
