-- One more claim keeps what the forms so far keep, and so does the output with the relation.
use Rattle.std.proofs.Common.{◌≡◌, ℕ, Bool, true, false, not, List, [], ◌∷◌, ◌++◌, Ok, refl, sym, ap, ◌∙◌, subst, append_assoc, append-nil}
use Rattle.std.specs.Prelude.{◌||◌, map, Option}
use Rattle.std.specs.List.{list_all}
use Rattle.std.proofs.lemmas.List.{map-append}
use Rattle.kid_value.specs.NameSet.{is_among}
use Rattle.kid_value.specs.PlainSort.{PlainSort, bools}
use Rattle.kid_value.specs.SortLimits.{is_allowed}
use Rattle.kid_value.proofs.SortLemmas.{and_parts, and_both}
use Rattle.kid_term.specs.Names.{same_name, Names, PlainDef}
use Rattle.kid_term.specs.PlainLaw.{PlainLaw}
use Rattle.kid_term.specs.PlainSpec.{is_wanted}
use Rattle.kid_term.specs.PlainTerm.{PlainTerm}
use Rattle.kid_term.specs.PlainTheory.{PlainTheory}
use Rattle.kid_term.specs.Sorting.{sort_of}
use Rattle.kid_term.proofs.EvalLemmas.{or_none, same_name-comm}
use Rattle.kid_codec.specs.Name.{is_name}
use Rattle.kid_kernel.specs.Differ.{words_of, differ, are_apart}
use Rattle.kid_kernel.specs.IsTheory.{laws_of, has_own_variables, IsTheory}
use Rattle.kid_kernel.specs.SortedLaw.{is_sorted_law}
use Rattle.kid_kernel.specs.Wordless.{is_wordless, is_wordless_law}
use Rattle.kid_kernel.proofs.Differing.{among_parts, among_neither, apart_more, apart_parts, differ_more}
use Rattle.kid_theory.specs.Before.{with_claim}
use Rattle.kid_theory.specs.Claims.{PlainClaim, assumed, proved, law_of}
use Rattle.kid_theory.specs.Forms.{is_named_law}
use Rattle.kid_theory.specs.Known.{lacks, IsKnown}
use Rattle.kid_theory.specs.Taken.{Taken, is_free, are_free}
use Rattle.kid_theory.proofs.ProofTrue.{named_words}

not_true : (b : Bool) → not b ≡ true → b ≡ false
not_true true p = cc
not_true false p = refl

-- ---- a name between others

among_between : (x y : List ℕ) (xs ys : Taken) → is_among x (xs ++ ys) ≡ false → same_name x y ≡ false → is_among x (xs ++ y ∷ ys) ≡ false
among_between x y xs ys p other =
    let r = among_parts x xs ys p in
    among_neither x xs (y ∷ ys) r.0 (ap (λ b. b || is_among x ys) other ∙ r.1)

differ_between : (xs ys : Taken) (y : List ℕ) → differ (xs ++ ys) ≡ true → is_among y (xs ++ ys) ≡ false → differ (xs ++ y ∷ ys) ≡ true
differ_between [] ys y d new = and_both (not (is_among y ys)) (differ ys) (ap not new) d
differ_between (x ∷ xs) ys y d new =
    let a = and_parts (not (is_among x (xs ++ ys))) (differ (xs ++ ys)) d in
    let b = or_none (same_name y x) (is_among y (xs ++ ys)) new in
    let other = among_between x y xs ys (not_true (is_among x (xs ++ ys)) a.0) (same_name-comm x y ∙ b.0) in
    and_both (not (is_among x (xs ++ y ∷ ys))) (differ (xs ++ y ∷ ys)) (ap not other) (differ_between xs ys y a.1 b.1)

apart_between : (ws xs ys : Taken) (y : List ℕ) → are_apart ws (xs ++ ys) ≡ true → is_among y ws ≡ false → are_apart ws (xs ++ y ∷ ys) ≡ true
apart_between [] xs ys y p q = refl
apart_between (w ∷ ws) xs ys y p q =
    let a = and_parts (not (is_among w (xs ++ ys))) (are_apart ws (xs ++ ys)) p in
    let b = or_none (same_name y w) (is_among y ws) q in
    let other = among_between w y xs ys (not_true (is_among w (xs ++ ys)) a.0) (same_name-comm w y ∙ b.0) in
    and_both (not (is_among w (xs ++ y ∷ ys))) (are_apart ws (xs ++ y ∷ ys)) (ap not other) (apart_between ws xs ys y a.1 b.1)

-- ---- a law between others

all_between : {X : Type 0} (p : X → Bool) (xs ys : List X) (y : X) → list_all p (xs ++ ys) ≡ true → p y ≡ true → list_all p (xs ++ y ∷ ys) ≡ true
all_between p [] ys y h k = and_both (p y) (list_all p ys) k h
all_between p (x ∷ xs) ys y h k =
    let r = and_parts (p x) (list_all p (xs ++ ys)) h in
    and_both (p x) (list_all p (xs ++ y ∷ ys)) r.0 (all_between p xs ys y r.1 k)

abbrev pub names : List PlainLaw → Taken
names laws = map (λ l. l.name) laws

-- the names of a theory by those before its laws and the one after them
abbrev around : Taken → List PlainLaw → List ℕ → Taken
around base laws output = (base ++ names laws) ++ output ∷ []

-- a name that differs from another and from those around is not among those around with the other
around_between : (base : Taken) (xs ys : List PlainLaw) (l : PlainLaw) (output : List ℕ) → around base (xs ++ ys) output ≡ (base ++ names xs) ++ (names ys ++ output ∷ [])
around_between base xs ys l output =
    ap (λ ns. (base ++ ns) ++ output ∷ []) (map-append (λ (k : PlainLaw). k.name) xs ys)
    ∙ ap (λ ns. ns ++ output ∷ []) (sym (append_assoc base (names xs) (names ys)))
    ∙ append_assoc (base ++ names xs) (names ys) (output ∷ [])

around_with : (base : Taken) (xs ys : List PlainLaw) (l : PlainLaw) (output : List ℕ) → around base (xs ++ l ∷ ys) output ≡ (base ++ names xs) ++ (l.name ∷ (names ys ++ output ∷ []))
around_with base xs ys l output = around_between base xs (l ∷ ys) l output

new_around : (base : Taken) (xs ys : List PlainLaw) (l : PlainLaw) (output x : List ℕ) → is_among x (around base (xs ++ ys) output) ≡ false → same_name x l.name ≡ false
    → is_among x (around base (xs ++ l ∷ ys) output) ≡ false
new_around base xs ys l output x p other =
    ap (is_among x) (around_with base xs ys l output)
    ∙ among_between x l.name (base ++ names xs) (names ys ++ output ∷ []) (ap (is_among x) (sym (around_between base xs ys l output)) ∙ p) other

differ_around : (base : Taken) (xs ys : List PlainLaw) (l : PlainLaw) (output : List ℕ) → differ (around base (xs ++ ys) output) ≡ true → is_among l.name (around base (xs ++ ys) output) ≡ false
    → differ (around base (xs ++ l ∷ ys) output) ≡ true
differ_around base xs ys l output d new =
    ap differ (around_with base xs ys l output)
    ∙ differ_between (base ++ names xs) (names ys ++ output ∷ []) l.name (ap differ (sym (around_between base xs ys l output)) ∙ d) (ap (is_among l.name) (sym (around_between base xs ys l output)) ∙ new)

apart_around : (base : Taken) (xs ys : List PlainLaw) (l : PlainLaw) (output : List ℕ) (ws : Taken) → are_apart ws (around base (xs ++ ys) output) ≡ true → is_among l.name ws ≡ false
    → are_apart ws (around base (xs ++ l ∷ ys) output) ≡ true
apart_around base xs ys l output ws p q =
    ap (are_apart ws) (around_with base xs ys l output)
    ∙ apart_between ws (base ++ names xs) (names ys ++ output ∷ []) l.name (ap (are_apart ws) (sym (around_between base xs ys l output)) ∙ p) q

-- laws keep variables of their own where the names are with one more, which is none of their variables
own_still : (ns ms : Taken) (y : List ℕ) (laws : List PlainLaw) → ((ws : Taken) → are_apart ws ns ≡ true → is_among y ws ≡ false → are_apart ws ms ≡ true)
    → list_all (has_own_variables ns) laws ≡ true → list_all (lacks y) laws ≡ true → list_all (has_own_variables ms) laws ≡ true
own_still ns ms y [] step own free = refl
own_still ns ms y (l ∷ laws) step own free =
    let a = and_parts (has_own_variables ns l) (list_all (has_own_variables ns) laws) own in
    let b = and_parts (differ (words_of l.variables)) (are_apart (words_of l.variables) ns) a.0 in
    let c = and_parts (lacks y l) (list_all (lacks y) laws) free in
    let apart = step (words_of l.variables) b.1 (not_true (is_among y (words_of l.variables)) c.0) in
    and_both (has_own_variables ms l) (list_all (has_own_variables ms) laws) (and_both (differ (words_of l.variables)) (are_apart (words_of l.variables) ms) b.0 apart) (own_still ns ms y laws step a.1 c.1)

-- ---- free names

pub free_new : (taken : Taken) (x : List ℕ) → is_free taken x ≡ true → (is_name x ≡ true) × (is_among x taken ≡ false)
free_new taken x p = let r = and_parts (is_name x) (not (is_among x taken)) p in (r.0, not_true (is_among x taken) r.1)

other_name : (taken : Taken) (x y : List ℕ) → is_among x (taken ++ y ∷ []) ≡ false → (is_among x taken ≡ false) × (same_name x y ≡ false)
other_name taken x y p = let r = among_parts x taken (y ∷ []) p in (r.0, (or_none (same_name x y) false r.1).0)

-- variables that are free differ, and are apart from what a free name is never among
pub free_apart : (taken ns : Taken) (vs : Names) → ((x : List ℕ) → is_name x ≡ true → is_among x taken ≡ false → is_among x ns ≡ false) → are_free taken vs ≡ true
    → (are_apart (words_of vs) ns ≡ true) × (differ (words_of vs) ≡ true) × (are_apart (words_of vs) taken ≡ true)
free_apart taken ns [] new p = (refl, refl, refl)
free_apart taken ns (v ∷ vs) new p =
    let a = and_parts (is_free taken v.0) (are_free (taken ++ v.0 ∷ []) vs) p in
    let f = free_new taken v.0 a.0 in
    let b = free_apart (taken ++ v.0 ∷ []) ns vs (λ x named p'. new x named (other_name taken x v.0 p').0) a.1 in
    let c = apart_parts (words_of vs) taken v.0 b.2 in (
      and_both (not (is_among v.0 ns)) (are_apart (words_of vs) ns) (ap not (new v.0 f.0 f.1)) b.0,
      and_both (not (is_among v.0 (words_of vs))) (differ (words_of vs)) (ap not c.1) b.1,
      and_both (not (is_among v.0 taken)) (are_apart (words_of vs) taken) (ap not f.1) c.0,
    )

-- ---- one more law

-- what a theory keeps of its laws
record LawsKept (base : Taken) (output : List ℕ) (defs : List PlainDef) (inputs : Names) (laws : List PlainLaw) : Type 0 where
  distinct : differ (around base laws output) ≡ true
  sorted : list_all (is_sorted_law defs inputs) laws ≡ true
  wordless : list_all is_wordless_law laws ≡ true
  own : list_all (has_own_variables (around base laws output)) laws ≡ true

-- what is not taken is new to them
record AreNew (base : Taken) (output : List ℕ) (laws : List PlainLaw) (taken variables : Taken) : Type 0 where
  new : (x : List ℕ) → is_name x ≡ true → is_among x taken ≡ false → is_among x (around base laws output) ≡ false
  free : (x : List ℕ) → is_among x variables ≡ false → list_all (lacks x) laws ≡ true

module _ (base : Taken) (output : List ℕ) (taken variables : Taken) (xs ys : List PlainLaw) (l : PlainLaw) (are : AreNew base output (xs ++ ys) taken variables) (named : is_named_law taken variables l ≡ true) where
  own_name : (is_name l.name ≡ true) × (is_among l.name taken ≡ false) × (is_among l.name variables ≡ false)
  own_name =
      let q = and_parts (is_free (taken ++ variables) l.name) (are_free (taken ++ l.name ∷ []) l.variables) named in
      let f = free_new (taken ++ variables) l.name q.0 in
      let r = among_parts l.name taken variables f.1 in
      (f.0, r.0, r.1)

  law_new : AreNew base output (xs ++ l ∷ ys) (taken ++ l.name ∷ []) (variables ++ words_of l.variables)
  law_new = record {
    new = λ x is p. let r = other_name taken x l.name p in new_around base xs ys l output x (are.new x is r.0) r.1;
    free = λ x p. let r = among_parts x variables (words_of l.variables) p in all_between (lacks x) xs ys l (are.free x r.0) (ap not r.1);
  }

  law_kept : (defs : List PlainDef) (inputs : Names) → LawsKept base output defs inputs (xs ++ ys) → is_sorted_law defs inputs l ≡ true → is_wordless_law l ≡ true → LawsKept base output defs inputs (xs ++ l ∷ ys)
  law_kept defs inputs kept sorted wordless =
      let q = and_parts (is_free (taken ++ variables) l.name) (are_free (taken ++ l.name ∷ []) l.variables) named in
      let n = own_name in
      let of_law = free_apart (taken ++ l.name ∷ []) (around base (xs ++ l ∷ ys) output) l.variables law_new.new q.1 in
      record {
        distinct = differ_around base xs ys l output kept.distinct (are.new l.name n.0 n.1);
        sorted = all_between (is_sorted_law defs inputs) xs ys l kept.sorted sorted;
        wordless = all_between is_wordless_law xs ys l kept.wordless wordless;
        own = all_between (has_own_variables (around base (xs ++ l ∷ ys) output)) xs ys l
            (own_still (around base (xs ++ ys) output) (around base (xs ++ l ∷ ys) output) l.name (xs ++ ys) (λ ws p r. apart_around base xs ys l output ws p r) kept.own (are.free l.name n.2))
            (and_both (differ (words_of l.variables)) (are_apart (words_of l.variables) (around base (xs ++ l ∷ ys) output)) of_law.1 of_law.0);
      }

abbrev before_laws : PlainTheory → Taken
before_laws t = map (λ d. d.name) t.signature.definitions ++ words_of t.spec.inputs

laws_kept : (t : PlainTheory) → IsTheory t → LawsKept (before_laws t) t.spec.output t.signature.definitions t.spec.inputs (laws_of t)
laws_kept t is = record { distinct = is.names_differ; sorted = is.laws_sorted; wordless = is.laws_wordless; own = is.variables_differ }

-- a theory with other laws, of which the same is kept
with_laws : (t : PlainTheory) (laws axioms : List PlainLaw) → IsTheory t → LawsKept (before_laws t) t.spec.output t.signature.definitions t.spec.inputs (laws ++ axioms) → IsTheory (record t { laws = laws; axioms = axioms })
with_laws t laws axioms is kept = record {
  sound = is.sound;
  shallow = is.shallow;
  definitions_wordless = is.definitions_wordless;
  parameters_differ = is.parameters_differ;
  names_differ = kept.distinct;
  same_inputs = is.same_inputs;
  few_inputs = is.few_inputs;
  inputs_allowed = is.inputs_allowed;
  condition = is.condition;
  condition_wordless = is.condition_wordless;
  laws_sorted = kept.sorted;
  laws_wordless = kept.wordless;
  variables_differ = kept.own;
  sort_allowed = is.sort_allowed;
  output_new = is.output_new;
  relation = is.relation;
  relation_wordless = is.relation_wordless;
  wanted = is.wanted;
}

-- laws in front and behind, in a theory
law_between : (t : PlainTheory) (taken variables : Taken) (xs ys laws axioms : List PlainLaw) (l : PlainLaw) → laws_of t ≡ xs ++ ys → laws ++ axioms ≡ xs ++ l ∷ ys → IsKnown t taken variables
    → is_named_law taken variables l ≡ true → is_sorted_law t.signature.definitions t.spec.inputs l ≡ true → is_wordless_law l ≡ true
    → IsKnown (record t { laws = laws; axioms = axioms }) (taken ++ l.name ∷ []) (variables ++ words_of l.variables)
law_between t taken variables xs ys laws axioms l before after known named sorted wordless =
    let base = before_laws t in
    let output = t.spec.output in
    let defs = t.signature.definitions in
    let inputs = t.spec.inputs in
    let are : AreNew base output (xs ++ ys) taken variables = subst (λ ls. AreNew base output ls taken variables) before (record { new = known.new; free = known.free }) in
    let kept = subst (LawsKept base output defs inputs) before (laws_kept t known.theory) in
    let news = subst (λ ls. AreNew base output ls (taken ++ l.name ∷ []) (variables ++ words_of l.variables)) (sym after) (law_new base output taken variables xs ys l are named) in
    record {
      theory = with_laws t laws axioms known.theory (subst (LawsKept base output defs inputs) (sym after) (law_kept base output taken variables xs ys l are named defs inputs kept sorted wordless));
      new = news.new;
      free = news.free;
    }

pub claim_known : (t : PlainTheory) (taken variables : Taken) (c : PlainClaim) → IsKnown t taken variables → is_named_law taken variables (law_of c) ≡ true
    → is_sorted_law t.signature.definitions t.signature.inputs (law_of c) ≡ true → is_wordless_law (law_of c) ≡ true
    → IsKnown (with_claim t c) (taken ++ (law_of c).name ∷ []) (variables ++ words_of (law_of c).variables)
claim_known t taken variables (assumed l) known named sorted wordless =
    law_between t taken variables (laws_of t) [] t.laws (t.axioms ++ l ∷ []) l (sym (append-nil (laws_of t))) (sym (append_assoc t.laws t.axioms (l ∷ []))) known named
    (ap (λ ns. is_sorted_law t.signature.definitions ns l) (sym known.theory.same_inputs) ∙ sorted) wordless
claim_known t taken variables (proved l moves) known named sorted wordless =
    law_between t taken variables t.laws t.axioms (t.laws ++ l ∷ []) t.axioms l refl (append_assoc t.laws (l ∷ []) t.axioms) known named
    (ap (λ ns. is_sorted_law t.signature.definitions ns l) (sym known.theory.same_inputs) ∙ sorted) wordless

-- ---- the output and the relation

pub differ_first : (xs ys : Taken) → differ (xs ++ ys) ≡ true → differ xs ≡ true
differ_first [] ys d = refl
differ_first (x ∷ xs) ys d =
    let r = and_parts (not (is_among x (xs ++ ys))) (differ (xs ++ ys)) d in
    let new = (among_parts x xs ys (not_true (is_among x (xs ++ ys)) r.0)).0 in
    and_both (not (is_among x xs)) (differ xs) (ap not new) (differ_first xs ys r.1)

-- the theory with this output, relation and number of answers
abbrev pub with_output : PlainTheory → List ℕ × PlainSort → PlainTerm → Option ℕ → PlainTheory
with_output t output relation first = record t { spec = record t.spec { output = output.0; sort = output.1; relation = relation; first = first } }

pub output_theory : (t : PlainTheory) (taken variables : Taken) (output : List ℕ × PlainSort) (relation : PlainTerm) (first : Option ℕ) → IsKnown t taken variables → is_free (taken ++ variables) output.0 ≡ true
    → is_allowed output.1 ≡ true → sort_of t.signature.definitions (t.spec.inputs ++ output ∷ []) relation ≡ Ok bools → is_wordless relation ≡ true → is_wanted first ≡ true → IsTheory (with_output t output relation first)
output_theory t taken variables output relation first known free allowed sorted wordless wanted =
    let is = known.theory in
    let base = before_laws t in
    let laws = laws_of t in
    let all = base ++ names laws in
    let f = free_new (taken ++ variables) output.0 free in
    let among = among_parts output.0 taken variables f.1 in
    let new = among_parts output.0 all (t.spec.output ∷ []) (known.new output.0 f.0 among.0) in
    let unnamed = among_parts output.0 base (names laws) new.0 in
    record {
      sound = is.sound;
      shallow = is.shallow;
      definitions_wordless = is.definitions_wordless;
      parameters_differ = is.parameters_differ;
      names_differ = differ_more all output.0 (differ_first all (t.spec.output ∷ []) is.names_differ) new.0;
      same_inputs = is.same_inputs;
      few_inputs = is.few_inputs;
      inputs_allowed = is.inputs_allowed;
      condition = is.condition;
      condition_wordless = is.condition_wordless;
      laws_sorted = is.laws_sorted;
      laws_wordless = is.laws_wordless;
      variables_differ = own_still (all ++ t.spec.output ∷ []) (all ++ output.0 ∷ []) output.0 laws (λ ws p q. apart_more ws all output.0 (apart_parts ws all t.spec.output p).0 q) is.variables_differ
          (known.free output.0 among.1);
      sort_allowed = allowed;
      output_new = named_words output.0 t.spec.inputs ∙ (among_parts output.0 (map (λ d. d.name) t.signature.definitions) (words_of t.spec.inputs) unnamed.0).1;
      relation = sorted;
      relation_wordless = wordless;
      wanted = wanted;
    }
