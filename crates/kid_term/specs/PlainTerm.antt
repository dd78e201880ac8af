-- Terms as plain trees.
use Rattle.std.specs.Prelude.{ℕ, ◌+◌, ℤ, Bool, List, [], ◌∷◌, max}
use Rattle.kid_value.specs.PlainSort.{PlainSort}
use Rattle.kid_term.specs.declared.operator.Op.{Op}
use Rattle.kid_term.specs.declared.operator.Binder.{Binder}

-- a name is its bytes
abbrev pub Name : Type 0
Name = List ℕ

pub data PlainHead : Type 0 where
  op : Op → PlainHead
  call : List ℕ → PlainHead
  cast : PlainSort → PlainHead

mutual
  pub data PlainTerm : Type 0 where
    var : List ℕ → PlainTerm
    number : ℤ → PlainTerm
    truth : Bool → PlainTerm
    tag : List ℕ → PlainTerm
    app : PlainHead → PlainTerms → PlainTerm
    bind : Binder → List ℕ → PlainTerm → PlainTerm → PlainTerm

  pub data PlainTerms : Type 0 where
    no_term : PlainTerms
    term : PlainTerm → PlainTerms → PlainTerms

abbrev pub terms : PlainTerms → List PlainTerm
terms no_term = []
terms (term t ts) = t ∷ terms ts

abbrev pub term_row : List PlainTerm → PlainTerms
term_row [] = no_term
term_row (t ∷ ts) = term t (term_row ts)

-- a term without children has depth 1, another one more than its deepest child
abbrev mutual
  pub depth : PlainTerm → ℕ
  depth (var x) = 1
  depth (number n) = 1
  depth (truth b) = 1
  depth (tag n) = 1
  depth (app h ts) = depths ts + 1
  depth (bind b x s t) = max (depth s) (depth t) + 1

  pub depths : PlainTerms → ℕ
  depths no_term = 0
  depths (term t ts) = max (depth t) (depths ts)

-- how many names, literals, applications and binders a term has
abbrev mutual
  pub node_count : PlainTerm → ℕ
  node_count (var x) = 1
  node_count (number n) = 1
  node_count (truth b) = 1
  node_count (tag n) = 1
  node_count (app h ts) = node_counts ts + 1
  node_count (bind b x s t) = node_count s + node_count t + 1

  pub node_counts : PlainTerms → ℕ
  node_counts no_term = 0
  node_counts (term t ts) = node_count t + node_counts ts
