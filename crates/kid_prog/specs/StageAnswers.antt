-- Where a form is refused.
use Rattle.std.specs.Prelude.{ℕ, Result, Ok, Err}
use Rattle.kid_prog.specs.declared.fault.LoadCode.{LoadCode}
use Rattle.kid_prog.specs.declared.fault.LoadCode.TheVariants as code
use Rattle.kid_prog.specs.declared.fault.LoadFault.{LoadFault}

-- want of memory is no form's
abbrev pub fault_at : ℕ → LoadCode → LoadFault
fault_at k code.Memory = record { form = 0; code = code.Memory }
fault_at k c = record { form = k; code = c }

abbrev pub numbered : {A : Type 0} → ℕ → Result A LoadCode → Result A LoadFault
numbered k (Ok x) = Ok x
numbered k (Err c) = Err (fault_at k c)
