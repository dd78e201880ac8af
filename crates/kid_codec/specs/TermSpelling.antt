-- Terms as trees.
use Rattle.std.specs.Prelude.{ℕ, zero, suc, is_some, Bool, true, false, ◌&&◌, ◌==◌, List, [], ◌∷◌, length, Option, Some, None, option_map, if◌then◌else◌, codes, Result}
use Rattle.std.specs.Str.{bytes_eq}
use Rattle.kid_sexp.specs.Plain as tree
use Rattle.kid_sexp.specs.Plain.{Plain, Plains, atom, list, one, join}
use Rattle.kid_value.specs.PlainSort.{PlainSort}
use Rattle.kid_value.specs.SortOrder.{both}
use Rattle.kid_value.specs.SortLimits.{in_limits, is_allowed}
use Rattle.kid_term.specs.PlainTerm.{PlainHead, op, call, cast, PlainTerm, var, number, truth, tag, app, bind, PlainTerms, no_term, term, terms, term_row}
use Rattle.kid_term.specs.Written.{number_in}
use Rattle.kid_term.specs.declared.operator.Op.{Op}
use Rattle.kid_term.specs.declared.operator.Binder.{Binder}
use Rattle.kid_codec.specs.Name.{is_name}
use Rattle.kid_codec.specs.NameSpelling.{spelled_name, tag_word, is_tag, tag_name}
use Rattle.kid_codec.specs.Number.{number_of}
use Rattle.kid_codec.specs.Reading.{judged, ◌>>=◌}
use Rattle.kid_codec.specs.SortSpelling.{number_tree, headed, sort_spelling, is_spelled_sort, spelled_sort}
use Rattle.kid_codec.specs.ValueSpelling.{truth_word}
use Rattle.kid_codec.specs.Word.{operator_word, binder_word, op_of, binder_of}
use Rattle.kid_codec.specs.Takes.{takes, numbers_first}
use Rattle.kid_codec.specs.declared.fault.CodecFault.{CodecFault}

-- the trees of a head, which stand before those of its arguments
abbrev pub head_spelling : PlainHead → Plains
head_spelling (op o) = one (atom (operator_word o))
head_spelling (call f) = one (atom f)
head_spelling (cast s) = tree.more (atom (codes "cast")) (one (sort_spelling s))

-- the tree of a term
abbrev mutual
  pub term_spelling : PlainTerm → Plain
  term_spelling (var x) = atom x
  term_spelling (number n) = number_tree n
  term_spelling (truth b) = atom (truth_word b)
  term_spelling (tag n) = atom (tag_word n)
  term_spelling (app h ts) = list (join (head_spelling h) (term_spellings ts))
  term_spelling (bind b x s t) = headed (binder_word b) (tree.more (atom x) (tree.more (term_spelling s) (one (term_spelling t))))

  pub term_spellings : PlainTerms → Plains
  term_spellings no_term = tree.none
  term_spellings (term t ts) = tree.more (term_spelling t) (term_spellings ts)

-- whether the first few terms are numbers
abbrev pub begin_with_numbers : ℕ → List PlainTerm → Bool
begin_with_numbers zero ts = true
begin_with_numbers (suc n) [] = false
begin_with_numbers (suc n) (t ∷ ts) = is_some (number_in t) && begin_with_numbers n ts

-- whether an operator may stand before the terms
abbrev pub suits : Op → List PlainTerm → Bool
suits o ts = takes o (length ts) && begin_with_numbers (numbers_first o) ts

-- whether a head may stand before the terms
abbrev pub is_spelled_head : PlainHead → List PlainTerm → Bool
is_spelled_head (op o) ts = suits o ts
is_spelled_head (call f) ts = is_name f
is_spelled_head (cast s) ts = length ts == 1 && is_spelled_sort s

-- the terms that have a spelling
abbrev mutual
  pub is_spelled_term : PlainTerm → Bool
  is_spelled_term (var x) = is_name x
  is_spelled_term (number n) = in_limits n
  is_spelled_term (truth b) = true
  is_spelled_term (tag n) = is_name n
  is_spelled_term (app h ts) = is_spelled_head h (terms ts) && are_spelled_terms ts
  is_spelled_term (bind b x s t) = is_name x && is_spelled_term s && is_spelled_term t

  pub are_spelled_terms : PlainTerms → Bool
  are_spelled_terms no_term = true
  are_spelled_terms (term t ts) = is_spelled_term t && are_spelled_terms ts

-- whether each sort that a term casts to is allowed
abbrev pub is_allowed_head : PlainHead → Bool
is_allowed_head (op o) = true
is_allowed_head (call f) = true
is_allowed_head (cast s) = is_allowed s

abbrev mutual
  pub casts_are_allowed : PlainTerm → Bool
  casts_are_allowed (var x) = true
  casts_are_allowed (number n) = true
  casts_are_allowed (truth b) = true
  casts_are_allowed (tag n) = true
  casts_are_allowed (app h ts) = is_allowed_head h && all_casts_are_allowed ts
  casts_are_allowed (bind b x s t) = casts_are_allowed s && casts_are_allowed t

  pub all_casts_are_allowed : PlainTerms → Bool
  all_casts_are_allowed no_term = true
  all_casts_are_allowed (term t ts) = casts_are_allowed t && all_casts_are_allowed ts

-- a name, a truth value, a tag or a number
abbrev pub atom_term : List ℕ → Option PlainTerm
atom_term w =
    if is_name w then Some (var w)
    else (if bytes_eq w (codes "true") then Some (truth true)
    else (if bytes_eq w (codes "false") then Some (truth false)
    else (if is_tag w then Some (tag (tag_name w))
    else option_map number (number_of w))))

-- an operator at terms that it may stand before
abbrev pub applied : Op → List PlainTerm → Option PlainTerm
applied o ts = if suits o ts then Some (app (op o) (term_row ts)) else None

abbrev pub called : List ℕ → List PlainTerm → PlainTerm
called f ts = app (call f) (term_row ts)

abbrev pub casted : PlainSort → PlainTerm → PlainTerm
casted s t = app (cast s) (term t no_term)

-- what a word that is no name makes of the trees after it
abbrev pub operated : Option Op → Option (List PlainTerm) → Option PlainTerm
operated None ts = None
operated (Some o) ts = ts >>= applied o

-- a binder over its name, set and body, or an operator
abbrev pub headed_by : Option Binder → Option Op → Option (List PlainTerm) → Option (Binder → PlainTerm) → Option PlainTerm
headed_by (Some b) o ts body = option_map (λ f. f b) body
headed_by None o ts body = operated o ts

-- what a word makes of the trees after it, which are terms, a sort and a term, or a name, a set and a body
abbrev pub term_of_parts : List ℕ → Option (List PlainTerm) → Option PlainTerm → Option (Binder → PlainTerm) → Option PlainTerm
term_of_parts w ts cast_term body =
    if is_name w then option_map (called w) ts
    else (if bytes_eq w (codes "cast") then cast_term else headed_by (binder_of w) (op_of w) ts body)

abbrev pub body_of : Option (List ℕ) → Option PlainTerm → Option PlainTerm → Option (Binder → PlainTerm)
body_of name set body = name >>= λ x. both (λ s t b. bind b x s t) set body

-- the term that a tree has the shape of, where the sorts in it may be allowed or not
abbrev mutual
  pub spelled_term : Plain → Option PlainTerm
  spelled_term (atom w) = atom_term w
  spelled_term (list ts) = spelled_list ts

  pub spelled_list : Plains → Option PlainTerm
  spelled_list tree.none = None
  spelled_list (tree.more (list us) ts) = None
  spelled_list (tree.more (atom w) ts) = term_of_parts w (spelled_terms ts) (spelled_cast ts) (spelled_body ts)

  pub spelled_terms : Plains → Option (List PlainTerm)
  spelled_terms tree.none = Some []
  spelled_terms (tree.more t ts) = spelled_term t >>= λ u. option_map (λ us. u ∷ us) (spelled_terms ts)

  pub spelled_cast : Plains → Option PlainTerm
  spelled_cast tree.none = None
  spelled_cast (tree.more s tree.none) = None
  spelled_cast (tree.more s (tree.more t tree.none)) = both casted (spelled_sort s) (spelled_term t)
  spelled_cast (tree.more s (tree.more t (tree.more u ts))) = None

  -- the name, the set and the body of a binder
  pub spelled_body : Plains → Option (Binder → PlainTerm)
  spelled_body tree.none = None
  spelled_body (tree.more x tree.none) = None
  spelled_body (tree.more x (tree.more s tree.none)) = None
  spelled_body (tree.more x (tree.more s (tree.more t tree.none))) = body_of (spelled_name x) (spelled_term s) (spelled_term t)
  spelled_body (tree.more x (tree.more s (tree.more t (tree.more u ts)))) = None

-- the term that a tree spells, or the fault
abbrev pub term_reading : Plain → Result PlainTerm CodecFault
term_reading t = judged casts_are_allowed (spelled_term t)
