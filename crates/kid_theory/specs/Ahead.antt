-- Calls of a definition by itself, and of those that stand later.
use Rattle.std.specs.Prelude.{ℕ, Bool, false, ◌||◌, List, Option, Some, codes}
use Rattle.kid_sexp.specs.Plain.{Plains, atom, none, more}
use Rattle.kid_term.specs.PlainTerm.{PlainHead, op, call, cast, PlainTerm, var, number, truth, tag, app, bind, PlainTerms, no_term, term}
use Rattle.kid_term.specs.Names.{same_name}
use Rattle.kid_codec.specs.Shape.{form}

-- whether the first of these trees is this word
abbrev pub starts_with : List ℕ → Option Plains → Bool
starts_with f (Some (more (atom w) ts)) = same_name f w
starts_with f r = false

-- whether one of these forms begins as the definition of a name does, whatever else it holds
abbrev pub is_defined_in : Plains → List ℕ → Bool
is_defined_in none f = false
is_defined_in (more t ts) f = starts_with f (form (codes "def") t) || is_defined_in ts f

-- whether a definition of this name, before these forms, may not call f
abbrev pub is_ahead : List ℕ → Plains → List ℕ → Bool
is_ahead own later f = same_name f own || is_defined_in later f

abbrev pub head_ahead : List ℕ → Plains → PlainHead → Bool
head_ahead own later (op o) = false
head_ahead own later (call f) = is_ahead own later f
head_ahead own later (cast s) = false

-- whether a body calls what it may not
abbrev mutual
  pub calls_ahead : List ℕ → Plains → PlainTerm → Bool
  calls_ahead own later (var x) = false
  calls_ahead own later (number n) = false
  calls_ahead own later (truth b) = false
  calls_ahead own later (tag n) = false
  calls_ahead own later (app h ts) = head_ahead own later h || any_calls_ahead own later ts
  calls_ahead own later (bind b x s t) = calls_ahead own later s || calls_ahead own later t

  pub any_calls_ahead : List ℕ → Plains → PlainTerms → Bool
  any_calls_ahead own later no_term = false
  any_calls_ahead own later (term t ts) = calls_ahead own later t || any_calls_ahead own later ts
