-- Forms, and lists of so many trees.
use Rattle.std.specs.Prelude.{ℕ, Bool, true, false, List, Option, Some, None, if◌then◌else◌}
use Rattle.std.specs.Str.{bytes_eq}
use Rattle.kid_sexp.specs.Plain.{Plain, Plains, atom, list, none, more}

-- whether the tree is this word
abbrev pub is_atom : List ℕ → Plain → Bool
is_atom word (atom w) = bytes_eq w word
is_atom word (list ts) = false

-- what stands behind the word in a form that begins with it
abbrev pub form : List ℕ → Plain → Option Plains
form word (atom w) = None
form word (list none) = None
form word (list (more t ts)) = if is_atom word t then Some ts else None

-- whether the tree begins with the word
abbrev pub begins : List ℕ → Plain → Bool
begins word t = is_there (form word t)
  where
    is_there : Option Plains → Bool
    is_there None = false
    is_there (Some ts) = true

abbrev pub single : Plains → Option Plain
single none = None
single (more t none) = Some t
single (more t (more u us)) = None

abbrev pub couple : Plains → Option (Plain × Plain)
couple none = None
couple (more t none) = None
couple (more t (more u none)) = Some (t, u)
couple (more t (more u (more v vs))) = None

abbrev pub quadruple : Plains → Option (Plain × Plain × Plain × Plain)
quadruple none = None
quadruple (more t none) = None
quadruple (more t (more u none)) = None
quadruple (more t (more u (more v none))) = None
quadruple (more t (more u (more v (more w none)))) = Some (t, u, v, w)
quadruple (more t (more u (more v (more w (more x xs))))) = None
