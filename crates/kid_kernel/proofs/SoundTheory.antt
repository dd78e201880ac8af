-- What each theory keeps makes it sound, where its proved laws hold.
use Rattle.std.proofs.Common.{◌≡◌, ℕ, Bool, true, false, not, List, [], ◌∷◌, ◌++◌, map, refl, sym, ap, ◌∙◌, subst}
use Rattle.std.specs.Prelude.{◌||◌}
use Rattle.kid_value.specs.NameSet.{is_among}
use Rattle.kid_value.proofs.SortLemmas.{and_parts, and_both}
use Rattle.kid_term.specs.PlainTheory.{PlainTheory}
use Rattle.kid_term.specs.Names.{PlainDef, same_name}
use Rattle.kid_term.proofs.EvalLemmas.{same_name-comm, or_none}
use Rattle.kid_scope.specs.Cases.{IsSoundTheory, LawsClosed}
use Rattle.kid_scope.specs.Definitions.{is_defined, AreNewOver, AreDistinct}
use Rattle.kid_kernel.specs.Differ.{words_of, differ}
use Rattle.kid_kernel.specs.Held.{LawsHold}
use Rattle.kid_kernel.specs.IsTheory.{laws_of, IsTheory}
use Rattle.kid_kernel.proofs.ClosedLaws.{laws_closed}
use Rattle.kid_kernel.proofs.Differing.{among_parts}

not_true : (b : Bool) → not b ≡ true → b ≡ false
not_true true p = cc
not_true false p = refl

-- the first of names that differ
differ-front : (xs ys : List (List ℕ)) → differ (xs ++ ys) ≡ true → differ xs ≡ true
differ-front [] ys p = refl
differ-front (x ∷ xs) ys p =
    let r = and_parts (not (is_among x (xs ++ ys))) (differ (xs ++ ys)) p in
    let new = (among_parts x xs ys (not_true (is_among x (xs ++ ys)) r.0)).0 in
    and_both (not (is_among x xs)) (differ xs) (ap not new) (differ-front xs ys r.1)

abbrev named : List PlainDef → List (List ℕ)
named ds = map (λ d. d.name) ds

-- none of the definitions has the name of one that is known
abbrev AllNew : List PlainDef → List PlainDef → Type 0
AllNew known [] = Unit {0}
AllNew known (d ∷ ds) = (is_defined d.name known ≡ false) × AllNew known ds

neither : (b c : Bool) → b ≡ false → c ≡ false → (b || c) ≡ false
neither b c p q = ap (λ z. z || c) p ∙ q

new_more : (known : List PlainDef) (d : PlainDef) (ds : List PlainDef) → is_among d.name (named ds) ≡ false → AllNew known ds → AllNew (d ∷ known) ds
new_more known d [] p a = tt
new_more known d (e ∷ ds) p a =
    let r = or_none (same_name d.name e.name) (is_among d.name (named ds)) p in
    (neither (same_name e.name d.name) (is_defined e.name known) (same_name-comm e.name d.name ∙ r.0) a.0, new_more known d ds r.1 a.1)

new_over : (known ds : List PlainDef) → AllNew known ds → differ (named ds) ≡ true → AreNewOver known ds
new_over known [] a p = tt
new_over known (d ∷ ds) a p =
    let r = and_parts (not (is_among d.name (named ds))) (differ (named ds)) p in
    (a.0, new_over (d ∷ known) ds (new_more known d ds (not_true (is_among d.name (named ds)) r.0) a.1) r.1)

all_new : (ds : List PlainDef) → AllNew [] ds
all_new [] = tt
all_new (d ∷ ds) = (refl, all_new ds)

distinct : (t : PlainTheory) → IsTheory t → AreDistinct t.signature.definitions
distinct t is =
    let ds = named t.signature.definitions in
    let inputs = words_of t.spec.inputs in
    let laws = map (λ l. l.name) (laws_of t) in
    new_over [] t.signature.definitions (all_new t.signature.definitions)
    (differ-front ds inputs (differ-front (ds ++ inputs) laws (differ-front ((ds ++ inputs) ++ laws) (t.spec.output ∷ []) is.names_differ)))

pub sound_theory : (t : PlainTheory) → IsTheory t → LawsHold t → IsSoundTheory t
sound_theory t is laws = record {
  definitions = is.sound;
  distinct = distinct t is;
  laws = laws;
  closed = subst (λ z. LawsClosed z (laws_of t)) (sym is.same_inputs) (laws_closed t.signature.definitions t.spec.inputs (laws_of t) is.laws_sorted);
}
