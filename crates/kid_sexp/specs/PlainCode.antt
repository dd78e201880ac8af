-- How the logic stores a forest: as its tokens.
use Rattle.std.specs.Prelude.{◌≡◌, List, [], ◌∷◌, refl}
use Rattle.std.specs.Coded.{Coded, code_by}
use Rattle.std.proofs.Common.{ap, ◌∙◌}
use Rattle.kid_sexp.specs.Token.{Token, opens, closes, word}
use Rattle.kid_sexp.specs.TokenCode.{tokens_code}
use Rattle.kid_sexp.specs.Plain.{Plain, atom, list, Plains, none, more, join}
use Rattle.kid_sexp.specs.PlainTokens.{flat_tree, flat_before, flat}

-- The tokens give the forest back: read from their end, a closing bracket begins a list and an opening one ends it.
abbrev onto : Plain → List Plains → List Plains
onto t [] = []
onto t (top ∷ stack) = more t top ∷ stack

abbrev enclosed : List Plains → List Plains
enclosed [] = []
enclosed (inner ∷ stack) = onto (list inner) stack

abbrev forests : List Token → List Plains
forests [] = none ∷ []
forests (word bytes ∷ tokens) = onto (atom bytes) (forests tokens)
forests (opens ∷ tokens) = enclosed (forests tokens)
forests (closes ∷ tokens) = none ∷ forests tokens

abbrev topmost : List Plains → Plains
topmost [] = none
topmost (top ∷ stack) = top

abbrev joined : Plains → List Plains → List Plains
joined ts [] = []
joined ts (top ∷ stack) = join ts top ∷ stack

pub join-none : (ts : Plains) → join ts none ≡ ts
join-none none = refl
join-none (more t ts) = ap (more t) (join-none ts)

joined-more : (t : Plain) (ts : Plains) (stack : List Plains) → onto t (joined ts stack) ≡ joined (more t ts) stack
joined-more t ts [] = refl
joined-more t ts (top ∷ stack) = refl

joined-none : (stack : List Plains) → stack ≡ joined none stack
joined-none [] = refl
joined-none (top ∷ stack) = refl

enclosed-joined : (ts : Plains) (stack : List Plains) → enclosed (joined ts (none ∷ stack)) ≡ onto (list ts) stack
enclosed-joined ts stack = ap (λ u. onto (list u) stack) (join-none ts)

mutual
  forests-flat_tree : (t : Plain) (after : List Token) → forests (flat_tree t after) ≡ onto t (forests after)
  forests-flat_tree (atom bytes) after = refl
  forests-flat_tree (list inner) after =
      ap enclosed (forests-flat_before inner (closes ∷ after)) ∙ enclosed-joined inner (forests after)

  forests-flat_before : (ts : Plains) (after : List Token) → forests (flat_before ts after) ≡ joined ts (forests after)
  forests-flat_before none after = joined-none (forests after)
  forests-flat_before (more t ts) after =
      forests-flat_tree t (flat_before ts after) ∙ ap (onto t) (forests-flat_before ts after) ∙ joined-more t ts (forests after)

pub topmost-forests_flat : (ts : Plains) → topmost (forests (flat ts)) ≡ ts
topmost-forests_flat ts = ap topmost (forests-flat_before ts []) ∙ join-none ts

-- a forest is stored as its tokens
abbrev pub plains_code : Coded Plains
plains_code = code_by (List Token) tokens_code flat (λ tokens. topmost (forests tokens)) topmost-forests_flat
