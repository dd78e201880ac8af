-- Each law that is proved holds at all good inputs, by the laws before it.
use Rattle.std.proofs.Common.{◌≡◌, ℕ, Bool, true, false, List, [], ◌∷◌, ◌++◌, refl, sym, ap, ◌∙◌, subst}
use Rattle.std.specs.Prelude.{◌&&◌, ◌||◌, not}
use Rattle.std.specs.List.{list_all}
use Rattle.std.proofs.lemmas.List.{map-append}
use Rattle.kid_value.specs.NameSet.{is_among}
use Rattle.kid_value.specs.PlainSort.{PlainSort}
use Rattle.kid_value.proofs.SortLemmas.{and_parts, and_both}
use Rattle.kid_term.specs.Eval.{Env, Calls, calls_of}
use Rattle.kid_term.specs.Fitting.{AreAllowed}
use Rattle.kid_term.specs.Good.{AllHold, Good}
use Rattle.kid_term.specs.Names.{same_name, Names, is_named}
use Rattle.kid_term.specs.PlainLaw.{PlainLaw}
use Rattle.kid_term.specs.PlainTheory.{PlainTheory}
use Rattle.kid_value.specs.SortLimits.{is_allowed}
use Rattle.kid_term.proofs.EvalLemmas.{or_none, same_name-comm}
use Rattle.kid_sorting.specs.Declaring.{are_allowed}
use Rattle.kid_sorting.proofs.SoundDefinitions.{names-allowed}
use Rattle.kid_kernel.specs.Differ.{words_of, differ, are_apart}
use Rattle.kid_kernel.specs.Held.{AreNames, LawsHold}
use Rattle.kid_kernel.specs.IsTheory.{laws_of}
use Rattle.kid_kernel.specs.SortedLaw.{is_condition, is_sorted_conclusion, is_sorted_law}
use Rattle.kid_kernel.proofs.Differing.{among_parts, among_neither}
use Rattle.kid_theory.specs.Before.{with_claim, is_shown}
use Rattle.kid_theory.specs.Claims.{PlainClaim, assumed, proved, law_of}
use Rattle.kid_theory.specs.Forms.{is_named_law}
use Rattle.kid_theory.specs.Known.{names_of, IsKnown}
use Rattle.kid_theory.specs.Proof.{proof_names}
use Rattle.kid_theory.specs.Taken.{Taken, is_free, are_free}
use Rattle.kid_theory.proofs.KnownLemmas.{names, free_apart, differ_first}
use Rattle.kid_theory.proofs.ProofTrue.{sort_first, sort_later, proved_holds}

-- ---- the names of a proof

differ_last : (xs ys : Taken) → differ (xs ++ ys) ≡ true → differ ys ≡ true
differ_last [] ys d = d
differ_last (x ∷ xs) ys d = differ_last xs ys (and_parts (not (is_among x (xs ++ ys))) (differ (xs ++ ys)) d).1

not_true : (b : Bool) → not b ≡ true → b ≡ false
not_true true p = cc
not_true false p = refl

-- what is apart from names is apart from the later ones, and the first is not among it
apart_first : (ws : Taken) (y : List ℕ) (ys : Taken) → are_apart ws (y ∷ ys) ≡ true → (is_among y ws ≡ false) × (are_apart ws ys ≡ true)
apart_first [] y ys p = (refl, refl)
apart_first (w ∷ ws) y ys p =
    let a = and_parts (not (is_among w (y ∷ ys))) (are_apart ws (y ∷ ys)) p in
    let b = or_none (same_name w y) (is_among w ys) (not_true (is_among w (y ∷ ys)) a.0) in
    let r = apart_first ws y ys a.1 in
    (ap (λ c. c || is_among y ws) (same_name-comm y w ∙ b.0) ∙ r.0, and_both (not (is_among w ys)) (are_apart ws ys) (ap not b.1) r.1)

-- of names that differ, those that are apart from them differ behind them
differ_joined : (xs ys : Taken) → differ xs ≡ true → differ ys ≡ true → are_apart ys xs ≡ true → differ (xs ++ ys) ≡ true
differ_joined [] ys d e apart = e
differ_joined (x ∷ xs) ys d e apart =
    let r = and_parts (not (is_among x xs)) (differ xs) d in
    let q = apart_first ys x xs apart in
    and_both (not (is_among x (xs ++ ys))) (differ (xs ++ ys)) (ap not (among_neither x xs ys (not_true (is_among x xs) r.0) q.0)) (differ_joined xs ys r.1 e q.1)

allowed_both : (ns ms : Names) → AreAllowed ns → AreAllowed ms → AreAllowed (ns ++ ms)
allowed_both ns ms a b x s p = by (is_named x ns) refl
  where
    by : (c : Bool) → is_named x ns ≡ c → is_allowed s ≡ true
    by true e = a x s (sym (sort_first ns ms x e) ∙ p)
    by false e = b x s (sym (sort_later ns ms x e) ∙ p)

pub proof_named : (t : PlainTheory) (taken variables : Taken) (l : PlainLaw) → IsKnown t taken variables → is_named_law taken variables l ≡ true → is_sorted_law t.signature.definitions t.signature.inputs l ≡ true
    → AreNames t (proof_names t l)
proof_named t taken variables l known named sorted =
    let is = known.theory in
    let inputs = t.signature.inputs in
    let defs = t.signature.definitions in
    let words = words_of t.spec.inputs in
    let q = and_parts (is_free (taken ++ variables) l.name) (are_free (taken ++ l.name ∷ []) l.variables) named in
    let among : (x : List ℕ) → is_among x (((names_of t.signature.definitions ++ words) ++ names (laws_of t)) ++ t.spec.output ∷ []) ≡ false → is_among x words ≡ false
    = λ x p. (among_parts x (names_of t.signature.definitions) words (among_parts x (names_of t.signature.definitions ++ words) (names (laws_of t)) (among_parts x ((names_of t.signature.definitions ++ words) ++ names (laws_of t)) (t.spec.output ∷ []) p).0).0).1 in
    let free = free_apart (taken ++ l.name ∷ []) words l.variables (λ x n p. among x (known.new x n (among_parts x taken (l.name ∷ []) p).0)) q.1 in
    let one = differ_first ((names_of t.signature.definitions ++ words) ++ names (laws_of t)) (t.spec.output ∷ []) is.names_differ in
    let own = differ_last (names_of t.signature.definitions) words (differ_first (names_of t.signature.definitions ++ words) (names (laws_of t)) one) in
    let conditions = list_all (is_condition defs (inputs ++ l.variables)) l.conditions in
    let all = and_parts (are_allowed l.variables && conditions) (is_sorted_conclusion defs (inputs ++ l.variables) l.conclusion) sorted in
    let sorts = and_parts (are_allowed l.variables) conditions all.0 in
    record {
      differ = ap differ (map-append (λ (n : List ℕ × PlainSort). n.0) inputs l.variables) ∙ ap (λ ns. differ (words_of ns ++ words_of l.variables)) is.same_inputs ∙ differ_joined words (words_of l.variables) own free.1 free.0;
      more = l.variables;
      inputs_first = refl;
      allowed = allowed_both inputs l.variables (subst AreAllowed (sym is.same_inputs) is.inputs_allowed) (names-allowed l.variables sorts.0);
    }

-- ---- one more claim

all_joined : (calls : Calls) (x : Env) (ls ms : List PlainLaw) → AllHold calls x ls → AllHold calls x ms → AllHold calls x (ls ++ ms)
all_joined calls x [] ms h k = k
all_joined calls x (l ∷ ls) ms h k = (h.0, all_joined calls x ls ms h.1 k)

all_first : (calls : Calls) (x : Env) (ls ms : List PlainLaw) → AllHold calls x (ls ++ ms) → AllHold calls x ls
all_first calls x [] ms h = tt
all_first calls x (l ∷ ls) ms h = (h.0, all_first calls x ls ms h.1)

pub claim_holds : (t : PlainTheory) (taken variables : Taken) (c : PlainClaim) → IsKnown t taken variables → is_named_law taken variables (law_of c) ≡ true
    → is_sorted_law t.signature.definitions t.signature.inputs (law_of c) ≡ true → is_shown t c ≡ true → LawsHold t → LawsHold (with_claim t c)
claim_holds t taken variables (assumed l) known named sorted shown laws x good =
    laws x (record { fits = good.fits; condition = good.condition; axioms = all_first (calls_of t.signature.definitions) x t.axioms (l ∷ []) good.axioms })
claim_holds t taken variables (proved l moves) known named sorted shown laws x good =
    let before : Good t x = record { fits = good.fits; condition = good.condition; axioms = good.axioms } in
    let one = proved_holds t l moves known.theory (proof_named t taken variables l known named sorted) laws shown x before in
    all_joined (calls_of t.signature.definitions) x t.laws (l ∷ []) (laws x before) (one, tt)
