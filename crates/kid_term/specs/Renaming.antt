-- A binder with another name, or why it may not have it.
use Rattle.std.specs.Prelude.{◌≡◌, ℕ, Bool, false, ◌||◌, cond, List, Result, Ok, Err}
use Rattle.kid_term.specs.PlainTerm.{PlainTerm, var, number, truth, tag, app, bind, PlainTerms, no_term, term}
use Rattle.kid_term.specs.Names.{same_name}
use Rattle.kid_term.specs.Substitution.{mentions, replaced}
use Rattle.kid_term.specs.declared.rename.RenameFault.{RenameFault}
use Rattle.kid_term.specs.declared.rename.RenameFault.TheVariants as fault

-- whether a binder in the term has the name
abbrev mutual
  pub binds : List ℕ → PlainTerm → Bool
  binds x (var y) = false
  binds x (number n) = false
  binds x (truth b) = false
  binds x (tag n) = false
  binds x (app h ts) = some_bind x ts
  binds x (bind b y s t) = same_name x y || binds x s || binds x t

  pub some_bind : List ℕ → PlainTerms → Bool
  some_bind x no_term = false
  some_bind x (term t ts) = binds x t || some_bind x ts

-- the binder with the other name, which must not stand in its body, neither free nor bound
abbrev pub renamed : List ℕ → PlainTerm → Result PlainTerm RenameFault
renamed to (bind b x s t) = cond (mentions to t || binds to t) (Err fault.Capture) (Ok (bind b to s (replaced x (var to) t)))
renamed to t = Err fault.NoBinder

-- the fault that stands in place of a term, or want of memory where a term is there
abbrev pub IsRefusalOf : Result PlainTerm RenameFault → RenameFault → Type 0
IsRefusalOf (Err e) f = f ≡ e
IsRefusalOf (Ok t) f = f ≡ fault.Memory
