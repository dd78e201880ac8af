-- A comparison of lists, item by item, is the lexicographic order.
use Rattle.std.proofs.Common.{◌≡◌, List, [], ◌∷◌, ◌++◌, Ordering, refl, sym, ap, ◌∙◌, inl, inr}
use Rattle.std.specs.declared.cmp.Ordering.TheVariants.{Less, Equal, Greater}
use Rattle.std.specs.Cmp.Lexicographic.{slice_cmp}
use Rattle.std.specs.Ordering.{ordering_then}
use Rattle.kid_value.specs.PlainValue.{PlainValue, row}
use Rattle.kid_value.specs.ValueOrder.{value_cmp, seq_cmp}
use Rattle.kid_value.specs.SequenceOrder.{IsLexicallyBefore}

-- sequences are compared item by item
pub seq_cmp-items : (xs ys : List PlainValue) → seq_cmp (row xs) (row ys) ≡ slice_cmp value_cmp xs ys
seq_cmp-items [] [] = refl
seq_cmp-items [] (y ∷ ys) = refl
seq_cmp-items (x ∷ xs) [] = refl
seq_cmp-items (x ∷ xs) (y ∷ ys) = ap (ordering_then (value_cmp x y)) (seq_cmp-items xs ys)

module _ {X : Type 0} (R : X → X → Ordering) (ties : (x y : X) → R x y ≡ Equal → x ≡ y) (itself : (x : X) → R x x ≡ Equal) where
  longer : (x y : X) (xs ys : List X) → x ≡ y → IsLexicallyBefore (λ v w. R v w ≡ Less) xs ys → IsLexicallyBefore (λ v w. R v w ≡ Less) (x ∷ xs) (y ∷ ys)
  longer x y xs ys e (inl p) = inl (record { next = p.next; rest = p.rest; longer = λ i. sym e i ∷ p.longer i })
  longer x y xs ys e (inr l) = inr (record {
    front = x ∷ l.front;
    lesser = l.lesser;
    greater = l.greater;
    first_rest = l.first_rest;
    second_rest = l.second_rest;
    first = ap (λ z. x ∷ z) l.first;
    second = λ i. sym e i ∷ l.second i;
    before = l.before;
  })

  pub IsLexicallyBefore-less : (xs ys : List X) → slice_cmp R xs ys ≡ Less → IsLexicallyBefore (λ v w. R v w ≡ Less) xs ys
  IsLexicallyBefore-less [] [] p = cc
  IsLexicallyBefore-less [] (y ∷ ys) p = inl (record { next = y; rest = ys; longer = refl })
  IsLexicallyBefore-less (x ∷ xs) [] p = cc
  IsLexicallyBefore-less (x ∷ xs) (y ∷ ys) p = by_cases (R x y) refl p (IsLexicallyBefore-less xs ys)
    where
      by_cases : (o : Ordering) → R x y ≡ o → ordering_then o (slice_cmp R xs ys) ≡ Less → (slice_cmp R xs ys ≡ Less → IsLexicallyBefore (λ v w. R v w ≡ Less) xs ys) → IsLexicallyBefore (λ v w. R v w ≡ Less) (x ∷ xs) (y ∷ ys)
      by_cases Less e q ih = inr (record { front = []; lesser = x; greater = y; first_rest = xs; second_rest = ys; first = refl; second = refl; before = e })
      by_cases Equal e q ih = longer x y xs ys (ties x y e) (ih q)
      by_cases Greater e q ih = cc

  prefix-less : (xs : List X) (y : X) (ys : List X) → slice_cmp R xs (xs ++ y ∷ ys) ≡ Less
  prefix-less [] y ys = refl
  prefix-less (x ∷ xs) y ys = ap (λ o. ordering_then o (slice_cmp R xs (xs ++ y ∷ ys))) (itself x) ∙ prefix-less xs y ys

  item-less : (front : List X) (x y : X) (xs ys : List X) → R x y ≡ Less → slice_cmp R (front ++ x ∷ xs) (front ++ y ∷ ys) ≡ Less
  item-less [] x y xs ys b = ap (λ o. ordering_then o (slice_cmp R xs ys)) b
  item-less (z ∷ zs) x y xs ys b = ap (λ o. ordering_then o (slice_cmp R (zs ++ x ∷ xs) (zs ++ y ∷ ys))) (itself z) ∙ item-less zs x y xs ys b

  pub less-IsLexicallyBefore : (xs ys : List X) → IsLexicallyBefore (λ v w. R v w ≡ Less) xs ys → slice_cmp R xs ys ≡ Less
  less-IsLexicallyBefore xs ys (inl p) = ap (slice_cmp R xs) p.longer ∙ prefix-less xs p.next p.rest
  less-IsLexicallyBefore xs ys (inr l) = (λ i. slice_cmp R (l.first i) (l.second i)) ∙ item-less l.front l.lesser l.greater l.first_rest l.second_rest l.before
