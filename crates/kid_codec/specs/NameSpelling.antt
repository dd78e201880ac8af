-- Names and tags as trees.
use Rattle.std.specs.Prelude.{ℕ, Bool, false, ◌&&◌, ◌==◌, List, [], ◌∷◌, Option, Some, None, option_map, if◌then◌else◌}
use Rattle.kid_sexp.specs.Plain.{Plain, Plains, atom, list, none, more}
use Rattle.kid_codec.specs.Name.{is_name}
use Rattle.kid_codec.specs.Reading.{◌>>=◌}

abbrev pub spelled_name : Plain → Option (List ℕ)
spelled_name (list ts) = None
spelled_name (atom w) = if is_name w then Some w else None

abbrev pub spelled_names : Plains → Option (List (List ℕ))
spelled_names none = Some []
spelled_names (more t ts) = spelled_name t >>= λ n. option_map (λ ns. n ∷ ns) (spelled_names ts)

abbrev pub name_spellings : List (List ℕ) → Plains
name_spellings [] = none
name_spellings (n ∷ ns) = more (atom n) (name_spellings ns)

-- a tag is an apostrophe and a name
abbrev pub tag_word : List ℕ → List ℕ
tag_word n = 39 ∷ n

abbrev pub is_tag : List ℕ → Bool
is_tag [] = false
is_tag (c ∷ n) = c == 39 && is_name n

-- what stands behind the apostrophe
abbrev pub tag_name : List ℕ → List ℕ
tag_name [] = []
tag_name (c ∷ n) = n
