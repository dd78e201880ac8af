-- What a form's function answered, against what the form holds.
use Rattle.std.specs.Prelude.{◌≡◌, Result, Ok, Err, ⊤}
use Rattle.kid_codec.specs.declared.fault.CodecFault.{CodecFault}
use Rattle.kid_codec.specs.declared.fault.CodecFault.TheVariants as codec
use Rattle.kid_prog.specs.declared.fault.LoadCode.{LoadCode}
use Rattle.kid_prog.specs.declared.fault.LoadCode.TheVariants as code

-- what is wrong where a tree is not read
abbrev pub shape_code : CodecFault → LoadCode
shape_code codec.Form = code.Form
shape_code codec.Sort = code.Sort
shape_code codec.Memory = code.Memory

-- want of memory says nothing
abbrev pub CodeFails : {A : Type 0} → LoadCode → Result A LoadCode → Type 0
CodeFails code.Memory there = ⊤
CodeFails c there = there ≡ Err c

-- the answer is what the form holds, or what is wrong
abbrev pub Judges : {X Y : Type 0} → (X → Y) → Result X LoadCode → Result Y LoadCode → Type 0
Judges view (Ok x) there = there ≡ Ok (view x)
Judges view (Err c) there = CodeFails c there
