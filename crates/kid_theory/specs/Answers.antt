-- What a function of the reader answered, against what there is.
use Rattle.std.specs.Prelude.{◌≡◌, ℕ, nat_le, Result, Ok, Err, ⊤, if◌then◌else◌}
use Rattle.kid_codec.specs.declared.fault.CodecFault.{CodecFault}
use Rattle.kid_codec.specs.declared.fault.CodecFault.TheVariants as codec
use Rattle.kid_theory.specs.Judged.{Judged}
use Rattle.kid_theory.specs.Reading.{Read}
use Rattle.kid_theory.specs.declared.fault.TheoryCode.{TheoryCode}
use Rattle.kid_theory.specs.declared.fault.TheoryCode.TheVariants as code
use Rattle.kid_theory.specs.declared.fault.TheoryFault.{TheoryFault}

-- what is wrong where a tree is not read
abbrev pub shape_code : CodecFault → TheoryCode
shape_code codec.Form = code.Form
shape_code codec.Sort = code.Sort
shape_code codec.Memory = code.Memory

-- want of memory says nothing
abbrev pub CodeFails : {A : Type 0} → TheoryCode → Judged A → Type 0
CodeFails code.Memory there = ⊤
CodeFails c there = there ≡ Err c

-- the answer is what the form holds, or what is wrong with it
abbrev pub Judges : {X Y : Type 0} → (X → Y) → Result X TheoryCode → Judged Y → Type 0
Judges view (Ok x) there = there ≡ Ok (view x)
Judges view (Err c) there = CodeFails c there

-- want of memory is no form's, and says nothing else
abbrev pub Fails : {A : Type 0} → TheoryFault → TheoryCode → Read A → Type 0
Fails fault code.Memory there = fault.form ≡ 0
Fails fault c there = there ≡ Err fault

-- the answer is what there is, or the fault
abbrev pub Reads : {X Y : Type 0} → (X → Y) → Result X TheoryFault → Read Y → Type 0
Reads view (Ok x) there = there ≡ Ok (view x)
Reads view (Err fault) there = Fails fault fault.code there

-- want of memory is no form's
abbrev pub fault_at : ℕ → TheoryCode → TheoryFault
fault_at k code.Memory = record { form = 0; code = code.Memory }
fault_at k c = record { form = k; code = c }

abbrev pub placed : {A : Type 0} → ℕ → Result A TheoryCode → Result A TheoryFault
placed k (Ok x) = Ok x
placed k (Err c) = Err (fault_at k c)

-- what the form with this number gives, of which there are at most 1024
abbrev pub located : {A : Type 0} → ℕ → Result A TheoryCode → Result A TheoryFault
located k found = if nat_le k 1024 then placed k found else Err (fault_at k code.Limit)
