-- Applications are equal where their heads and arguments are, and each term has a node.
use Rattle.std.proofs.Common.{◌≡◌, ◌<◌, Bool, List, [], ◌∷◌, refl, sym, ap, ◌∙◌, arith}
use Rattle.std.specs.Prelude.{IsTrue, ◌↔◌}
use Rattle.kid_term.specs.PlainTerm.{PlainHead, PlainTerm, var, number, truth, tag, app, bind, PlainTerms, terms, term_row, node_count}

pub some_node : (t : PlainTerm) → 0 < node_count t
some_node (var x) = omega arith
some_node (number n) = omega arith
some_node (truth b) = omega arith
some_node (tag n) = omega arith
some_node (app h ts) = omega arith
some_node (bind b x s t) = omega arith

terms_row : (ts : List PlainTerm) → terms (term_row ts) ≡ ts
terms_row [] = refl
terms_row (t ∷ ts) = ap (λ us. t ∷ us) (terms_row ts)

app_parts : (g h : PlainHead) (ts us : PlainTerms) → app g ts ≡ app h us → ts ≡ us
app_parts g h ts us e = cc

-- p is g at ts and q is h at us, where xs and ys are these same lists
pub app_same : (p q : PlainTerm) (g h : PlainHead) (ts us xs ys : List PlainTerm) (b : Bool) → p ≡ app g (term_row ts) → q ≡ app h (term_row us) → g ≡ h → xs ≡ ts → ys ≡ us
    → (IsTrue b ↔ (xs ≡ ys)) → IsTrue b ↔ (p ≡ q)
app_same p q g h ts us xs ys b e f heads d c k = (
  λ t. let same : ts ≡ us = sym d ∙ k.0 t ∙ c in e ∙ (λ i. app (heads i) (term_row (same i))) ∙ sym f,
  λ r. let rows : term_row ts ≡ term_row us = app_parts g h (term_row ts) (term_row us) (sym e ∙ r ∙ f) in
      k.1 (d ∙ sym (terms_row ts) ∙ ap terms rows ∙ terms_row us ∙ sym c),
)
