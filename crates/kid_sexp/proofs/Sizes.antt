-- A text has at least as many bytes as its forest has trees.
use Rattle.std.proofs.Common.{◌≡◌, ℕ, ◌+◌, ◌≤◌, List, [], ◌∷◌, length, sym, ap, ◌∙◌, arith}
use Rattle.std.proofs.lemmas.List.{length-append, length-map}
use Rattle.kid_sexp.specs.Token.{Token, closes, Mark, token}
use Rattle.kid_sexp.specs.Tokens.{Tokens, done, separator, remark, opening, closing, run}
use Rattle.kid_sexp.specs.Plain.{Plain, Plains, atom, list, none, more, forest_len}
use Rattle.kid_sexp.specs.PlainTokens.{flat_tree, flat_before, flat}
use Rattle.kid_sexp.specs.Spells.{Spells}
use Rattle.kid_sexp.specs.declared.tree.Tree.{Tree}
use Rattle.kid_sexp.specs.Tree.{plains}
use Rattle.kid_sexp.proofs.Forests.{plains_length}

marks_fit : {at : ℕ} {bytes : List ℕ} {marks : List Mark} → Tokens at bytes marks → length marks ≤ length bytes
marks_fit done = omega arith
marks_fit (separator blank rest) = let l = marks_fit rest in omega arith
marks_fit (remark skipped others inside end rest) = let l = marks_fit rest in let n = length-append skipped others in omega arith
marks_fit (opening rest) = let l = marks_fit rest in omega arith
marks_fit (closing rest) = let l = marks_fit rest in omega arith
marks_fit (run others after inside end rest) = let l = marks_fit rest in let n = length-append others after in omega arith

mutual
  tree_long : (t : Plain) (after : List Token) → 1 + length after ≤ length (flat_tree t after)
  tree_long (atom bytes) after = omega arith
  tree_long (list inner) after = let l = forest_long inner (closes ∷ after) in omega arith

  forest_long : (ts : Plains) (after : List Token) → forest_len ts + length after ≤ length (flat_before ts after)
  forest_long none after = omega arith
  forest_long (more t ts) after = let l = tree_long t (flat_before ts after) in let m = forest_long ts after in omega arith

forest_fits : (bytes : List ℕ) (forest : Plains) → Spells bytes forest → forest_len forest ≤ length bytes
forest_fits bytes forest s =
    let l = marks_fit s.tokens in
    let m = forest_long forest [] in
    let e : length s.marks ≡ length (flat forest) = sym (length-map s.marks token) ∙ ap length s.same in
    omega arith

-- the trees of a file of so many bytes are no more
pub trees_fit : (bytes : List ℕ) (forest : Plains) (trees : List Tree) (n : ℕ) → Spells bytes forest → plains trees ≡ forest → length bytes ≤ n → length trees ≤ n
trees_fit bytes forest trees n s are le =
    let l = forest_fits bytes forest s in
    let e : forest_len forest ≡ length trees = ap forest_len (sym are) ∙ plains_length trees in
    omega arith
