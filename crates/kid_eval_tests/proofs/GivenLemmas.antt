-- Sorted terms over names with values of their sorts may be evaluated.
use Rattle.std.proofs.Common.{◌≡◌, true, false, List, [], ◌∷◌, ◌++◌, Ok, Err, map, refl, sym, ap, ◌∙◌, subst}
use Rattle.kid_value.specs.PlainValue.{PlainValue}
use Rattle.kid_value.specs.Canonical.{is_canonical}
use Rattle.kid_value.specs.PlainSort.{has_sort}
use Rattle.kid_value.specs.SortLimits.{is_allowed}
use Rattle.kid_value.specs.InSort.{in_sort}
use Rattle.kid_value.proofs.SortLemmas.{and_parts}
use Rattle.kid_value.proofs.CanonicalTests.{IsCanonical-test}
use Rattle.kid_term.specs.PlainTerm.{PlainTerm}
use Rattle.kid_term.specs.Names.{Names, PlainDef}
use Rattle.kid_term.specs.DefView.{plain_def}
use Rattle.kid_term.specs.declared.definition.Def.{Def}
use Rattle.kid_term.specs.Eval.{bound}
use Rattle.kid_term.specs.Fitting.{Fits, AreAllowed, AreSound}
use Rattle.kid_term.specs.Small.{StaysSmall}
use Rattle.kid_term.specs.Sorted.{Sorted}
use Rattle.kid_term.specs.Sorting.{sort_of}
use Rattle.kid_term.proofs.SortedValue.{Fits-more, AreAllowed-more, sorted-kept}
use Rattle.kid_sorting.specs.Declaring.{is_sorted_definition}
use Rattle.kid_sorting.proofs.SoundDefinitions.{sound-more}
use Rattle.kid_eval_tests.specs.Given.{is_given, are_given, is_sorted}

given_fit : (ns : Names) (vs : List PlainValue) → are_given ns vs ≡ true → AreAllowed ns × Fits ns (bound ns vs)
given_fit [] [] h = (λ x s p. cc, λ x s p. cc)
given_fit [] (v ∷ vs) h = cc
given_fit (n ∷ ns) [] h = cc
given_fit (n ∷ ns) (v ∷ vs) h =
    let p = and_parts (is_given n v) (are_given ns vs) h in
    let q = and_parts (is_allowed n.1) (in_sort n.1 v) p.0 in
    let r = and_parts (has_sort n.1 v) (is_canonical v) q.1 in
    let k = given_fit ns vs p.1 in
    (AreAllowed-more n.0 n.1 ns q.0 k.0, Fits-more n.0 n.1 v ns (bound ns vs) (record { has = r.0; canonical = IsCanonical-test v r.1 }) k.1)

pub sorted_small : (defs : List PlainDef) (ns : Names) (vs : List PlainValue) (t : PlainTerm) → are_given ns vs ≡ true → AreSound defs
    → is_sorted (sort_of defs ns t) ≡ true → StaysSmall defs (bound ns vs) t
sorted_small defs ns vs t given sound sorted = by (sort_of defs ns t) refl sorted
  where
    by : (r : Sorted) → sort_of defs ns t ≡ r → is_sorted r ≡ true → StaysSmall defs (bound ns vs) t
    by (Ok s) e p = let k = given_fit ns vs given in (sorted-kept defs ns (bound ns vs) t s sound k.0 k.1 e).small
    by (Err fault) e p = cc

map_last : (ds : List Def) (d : Def) → map plain_def (ds ++ d ∷ []) ≡ map plain_def ds ++ plain_def d ∷ []
map_last [] d = refl
map_last (e ∷ ds) d = ap (λ z. plain_def e ∷ z) (map_last ds d)

pub sound_none : (ds : List Def) → ds ≡ [] → AreSound (map plain_def ds)
sound_none ds e = subst (λ z. AreSound (map plain_def z)) (sym e) tt

pub sound_last : (ds earlier : List Def) (d : Def) → ds ≡ earlier ++ d ∷ [] → AreSound (map plain_def earlier)
    → is_sorted_definition (map plain_def earlier) (plain_def d) ≡ true → AreSound (map plain_def ds)
sound_last ds earlier d e h sorted =
    subst AreSound (sym (ap (map plain_def) e ∙ map_last earlier d)) (sound-more (map plain_def earlier) (plain_def d) h sorted)
