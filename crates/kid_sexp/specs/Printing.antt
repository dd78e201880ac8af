-- The one-space text of a forest.
use Rattle.std.specs.Prelude.{ℕ, Bool, true, false, ◌&&◌, List, [], ◌∷◌, ◌++◌, codes}
use Rattle.std.specs.List.{list_all}
use Rattle.kid_sexp.specs.Alphabet.{in_word}
use Rattle.kid_sexp.specs.Plain.{Plain, Plains, atom, list, none, more}

abbrev mutual
  pub tree_text : Plain → List ℕ
  tree_text (atom bytes) = bytes
  tree_text (list inner) = codes "(" ++ members inner ++ codes ")"

  -- the members of a list, with one space between them
  pub members : Plains → List ℕ
  members none = []
  members (more t ts) = tree_text t ++ further ts

  -- each after a space
  pub further : Plains → List ℕ
  further none = []
  further (more t ts) = codes " " ++ tree_text t ++ further ts

-- each tree on its own line
abbrev pub text : Plains → List ℕ
text none = []
text (more t ts) = tree_text t ++ codes "\n" ++ text ts

-- one or more bytes of a word
abbrev pub is_word : List ℕ → Bool
is_word [] = false
is_word (b ∷ bytes) = list_all in_word (b ∷ bytes)

-- each atom is a word
abbrev mutual
  pub is_printable_tree : Plain → Bool
  is_printable_tree (atom bytes) = is_word bytes
  is_printable_tree (list inner) = is_printable inner

  pub is_printable : Plains → Bool
  is_printable none = true
  is_printable (more t ts) = is_printable_tree t && is_printable ts
