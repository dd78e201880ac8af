-- What facts keep at the start.
use Rattle.std.proofs.Common.{◌≡◌, ℕ, ◌+◌, ◌≤◌, map, drop, get_or, List, [], ◌∷◌, Option, Some, None, Result, Ok, Err, length, refl, sym, ap, ◌∙◌, subst, arith}
use Rattle.std.specs.Prelude.{◌<◌, ◌^◌, take}
use Rattle.std.specs.Result.{IsErrAnd}
use Rattle.std.proofs.lemmas.List.{drop_more}
use Rattle.std.proofs.Math.Seq.{take-length}
use Rattle.kid_value.specs.PlainSort.{never, bools, ints, pairs, sets, seqs, maps, enums}
use Rattle.kid_term.specs.PlainTerm.{PlainTerm}
use Rattle.kid_term.specs.PlainTheory.{PlainTheory}
use Rattle.kid_term.specs.Names.{Names, PlainDef}
use Rattle.kid_term.specs.Sorted.{Sorted}
use Rattle.kid_term.specs.Sorting.{sort_of}
use Rattle.kid_term.specs.TermView.{plain_term}
use Rattle.kid_term.specs.declared.Term.{Term}
use Rattle.kid_term.specs.declared.why.Why.{Why}
use Rattle.kid_term.specs.declared.why.Why.TheVariants.{Memory}
use Rattle.kid_scope.specs.Holds.{has_a_sort}
use Rattle.kid_scope.specs.InstanceView.{Fails}
use Rattle.kid_scope.specs.Rewriting.{unless, unsorted}
use Rattle.kid_kernel.specs.IsTheory.{IsTheory}
use Rattle.kid_kernel.specs.Held.{AreNames, AllSorted, HeldOver}
use Rattle.kid_kernel.specs.Judging.{Refuses, Judges}
use Rattle.kid_kernel.specs.Key.{key}
use Rattle.kid_kernel.specs.Moves.{untrue, or_next, first_untrue}
use Rattle.kid_kernel.proofs.KeyLemmas.{over_its_key}

pub truth_there : (r : Sorted) → untrue r ≡ None → r ≡ Ok bools
truth_there (Ok bools) p = refl
truth_there (Ok never) p = cc
truth_there (Ok (ints a b)) p = cc
truth_there (Ok (pairs a b)) p = cc
truth_there (Ok (sets a)) p = cc
truth_there (Ok (seqs a n)) p = cc
truth_there (Ok (maps a b)) p = cc
truth_there (Ok (enums ns)) p = cc
truth_there (Err f) p = cc

neither : (o n : Option Why) → or_next o n ≡ None → (o ≡ None) × (n ≡ None)
neither None n p = (refl, p)
neither (Some w) n p = cc

pub truths_sorted : (defs : List PlainDef) (names : Names) (ts : List PlainTerm) → first_untrue defs names ts ≡ None → AllSorted defs names ts
truths_sorted defs names [] p = tt
truths_sorted defs names (t ∷ ts) p =
    let r = neither (untrue (sort_of defs names t)) (first_untrue defs names ts) p in
    (ap has_a_sort (truth_there (sort_of defs names t) r.0), truths_sorted defs names ts r.1)

begin_held : (t : PlainTheory) (names : Names) (start : List PlainTerm) → IsTheory t → AreNames t names → first_untrue t.signature.definitions names start ≡ None
    → HeldOver (key t) names (take (length start) start) start
begin_held t names start is named p =
    subst (λ z. HeldOver (key t) names z start) (sym (take-length start))
    (over_its_key t names start start (record {
      theory = is;
      named = named;
      sorted = truths_sorted t.signature.definitions names start p;
      follow = λ laws env case s. s;
    }))

-- what is kept where the start is taken as it is
pub begin_kept : (k : List ℕ) (t : PlainTheory) (names : Names) (n : ℕ) (start : List PlainTerm) → k ≡ key t → n ≡ length start → n ≤ 4294967295 → IsTheory t → AreNames t names
    → first_untrue t.signature.definitions names start ≡ None → HeldOver k names (take n start) start × (n ≤ length start) × (length start < 2 ^ 32)
begin_kept k t names n start e l few is named p =
    let h : HeldOver k names (take (length start) start) start = subst (λ z. HeldOver z names (take (length start) start) start) (sym e) (begin_held t names start is named p) in
    (subst (λ z. HeldOver k names (take z start) start) (sym l) h, omega (arith, l), omega (arith, l, few))

-- ---- refusals

-- what is refused of a sort is refused of a truth value's
pub as_untrue : (w : Why) (r : Sorted) → Refuses w (unsorted r) → Refuses w (untrue r)
as_untrue Memory r q = tt
as_untrue w (Ok s) q = cc
as_untrue w (Err f) q = q

pub refused : {A : Type 0} (w : Why) (o : Option Why) (x : A) → Refuses w o → Fails w (unless o x)
refused Memory o x q = tt
refused w o x q = rw q refl

refused_first : (w : Why) (o next whole : Option Why) → Refuses w o → whole ≡ or_next o next → Refuses w whole
refused_first Memory o next whole q e = tt
refused_first w o next whole q e = e ∙ ap (λ z. or_next z next) q

-- what is refused of the first of the terms that are left is refused of all
pub refused_here : {A : Type 0} (defs : List PlainDef) (names : Names) (terms : List Term) (i : ℕ) (term : Term) (r : Result A Why) (w : Why) (whole : Option Why) → i < length terms
    → term ≡ get_or terms i term → whole ≡ first_untrue defs names (map plain_term (drop i terms)) → Refuses w (untrue (sort_of defs names (plain_term term))) → IsErrAnd r (λ e. e ≡ w) → Judges r whole
refused_here defs names terms i term (Ok x) w whole within is told q h = absurd h
refused_here defs names terms i term (Err e) w whole within is told q h =
    let front : drop i terms ≡ term ∷ drop (i + 1) terms = drop_more terms i term within ∙ ap (λ (t : Term). t ∷ drop (i + 1) terms) (sym is) in
    let rest = first_untrue defs names (map plain_term (drop (i + 1) terms)) in
    subst (λ z. Refuses z whole) (sym h)
    (refused_first w (untrue (sort_of defs names (plain_term term))) rest whole q (told ∙ ap (λ (ts : List Term). first_untrue defs names (map plain_term ts)) front))
