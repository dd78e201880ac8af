-- A binder under another name.
use Rattle.std.specs.Prelude.{Result, Ok, Err}
use Rattle.kid_term.specs.PlainTerm.{PlainTerm, var}
use Rattle.kid_term.specs.Renaming.{renamed}
use Rattle.kid_term.specs.declared.rename.RenameFault.{RenameFault}
use Rattle.kid_term.specs.declared.rename.RenameFault.TheVariants as fault
use Rattle.kid_binders.specs.Outcome.{Outcome, no_match, capture, made}

abbrev pub of_renamed : Result PlainTerm RenameFault → Outcome
of_renamed (Ok t) = made t
of_renamed (Err fault.Capture) = capture
of_renamed (Err e) = no_match

-- argument y, a name: the binder gets the name y, which may not stand in its body, free or bound
abbrev pub b1 : PlainTerm → PlainTerm → Outcome
b1 (var y) t = of_renamed (renamed y t)
b1 u t = no_match
