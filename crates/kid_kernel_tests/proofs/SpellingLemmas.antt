-- Trees of one term more.
use Rattle.std.proofs.Common.{◌≡◌, List, [], ◌∷◌, ◌++◌, refl, sym, ap, ◌∙◌}
use Rattle.std.specs.Prelude.{map}
use Rattle.std.proofs.lemmas.List.{map-append}
use Rattle.kid_sexp.specs.Plain.{Plain, Plains, list, more, join, one}
use Rattle.kid_term.specs.PlainTerm.{PlainTerm}
use Rattle.kid_term.specs.TermView.{plain_term}
use Rattle.kid_term.specs.declared.Term.{Term}
use Rattle.kid_codec.specs.TermSpelling.{term_spelling}
use Rattle.kid_kernel_tests.specs.Spelled.{spellings, with_last}

spelled_last : (ts : List PlainTerm) (t : PlainTerm) → join (spellings ts) (one (term_spelling t)) ≡ spellings (ts ++ t ∷ [])
spelled_last [] t = refl
spelled_last (u ∷ us) t = ap (λ (more_trees : Plains). more (term_spelling u) more_trees) (spelled_last us t)

pub more_spelled : (facts old : List Term) (last : Term) (start want : Plain) → facts ≡ old ++ last ∷ [] → start ≡ list (spellings (map plain_term old)) → want ≡ term_spelling (plain_term last) → with_last start want ≡ list (spellings (map plain_term facts))
more_spelled facts old last start want e p q =
    ap (λ (s : Plain). with_last s want) p ∙ ap (λ (w : Plain). with_last (list (spellings (map plain_term old))) w) q
    ∙ ap (λ (ts : Plains). list ts) (spelled_last (map plain_term old) (plain_term last))
    ∙ ap (λ (ts : List PlainTerm). list (spellings ts)) (sym (map-append plain_term old (last ∷ [])))
    ∙ ap (λ (fs : List Term). list (spellings (map plain_term fs))) (sym e)
