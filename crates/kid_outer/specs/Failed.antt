-- Which answers say that a call failed.
use Rattle.std.specs.Prelude.{Bool, true, false, Result, Ok, Err}
use Rattle.kid_outer.specs.declared.store.LoadAnswer.{LoadAnswer}
use Rattle.kid_outer.specs.declared.store.LoadAnswer.TheVariants as load
use Rattle.kid_outer.specs.declared.store.SaveAnswer.{SaveAnswer}
use Rattle.kid_outer.specs.declared.store.SaveAnswer.TheVariants as save
use Rattle.kid_outer.specs.declared.sink.PutAnswer.{PutAnswer}
use Rattle.kid_outer.specs.declared.sink.PutAnswer.TheVariants as put

-- reading failed
abbrev pub load_failed : {T : Type 0} → Result T LoadAnswer → Bool
load_failed (Ok _) = false
load_failed (Err load.Failed) = true
load_failed (Err load.Absent) = false
load_failed (Err load.Large) = false
load_failed (Err load.Memory) = false

-- writing failed
abbrev pub save_failed : {T : Type 0} → Result T SaveAnswer → Bool
save_failed (Ok _) = false
save_failed (Err save.Failed) = true
save_failed (Err save.Memory) = false

-- putting failed
abbrev pub put_failed : {T : Type 0} → Result T PutAnswer → Bool
put_failed (Ok _) = false
put_failed (Err put.Failed) = true
put_failed (Err put.Memory) = false
