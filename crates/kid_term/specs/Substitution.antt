-- Free names, and a term in a name's place.
use Rattle.std.specs.Prelude.{ℕ, Bool, false, not, ◌&&◌, ◌||◌, cond, List}
use Rattle.kid_term.specs.PlainTerm.{PlainTerm, var, number, truth, tag, app, bind, PlainTerms, no_term, term}
use Rattle.kid_term.specs.Names.{same_name}

-- whether the name stands free in the term
abbrev mutual
  pub mentions : List ℕ → PlainTerm → Bool
  mentions x (var y) = same_name x y
  mentions x (number n) = false
  mentions x (truth b) = false
  mentions x (tag n) = false
  mentions x (app h ts) = some_mentions x ts
  mentions x (bind b y s t) = mentions x s || (not (same_name x y) && mentions x t)

  pub some_mentions : List ℕ → PlainTerms → Bool
  some_mentions x no_term = false
  some_mentions x (term t ts) = mentions x t || some_mentions x ts

-- the term with new in each free place of the name
abbrev mutual
  pub replaced : List ℕ → PlainTerm → PlainTerm → PlainTerm
  replaced x new (var y) = cond (same_name x y) new (var y)
  replaced x new (number n) = number n
  replaced x new (truth b) = truth b
  replaced x new (tag n) = tag n
  replaced x new (app h ts) = app h (replaced_in x new ts)
  replaced x new (bind b y s t) = bind b y (replaced x new s) (cond (same_name x y) t (replaced x new t))

  pub replaced_in : List ℕ → PlainTerm → PlainTerms → PlainTerms
  replaced_in x new no_term = no_term
  replaced_in x new (term t ts) = term (replaced x new t) (replaced_in x new ts)

-- whether a free name of new is bound above a free place of the name
abbrev mutual
  pub captures : List ℕ → PlainTerm → PlainTerm → Bool
  captures x new (var y) = false
  captures x new (number n) = false
  captures x new (truth b) = false
  captures x new (tag n) = false
  captures x new (app h ts) = some_capture x new ts
  captures x new (bind b y s t) = captures x new s || (not (same_name x y) && ((mentions y new && mentions x t) || captures x new t))

  pub some_capture : List ℕ → PlainTerm → PlainTerms → Bool
  some_capture x new no_term = false
  some_capture x new (term t ts) = captures x new t || some_capture x new ts
