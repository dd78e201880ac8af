-- Which definition a call opens, by the place of the last one of its name.
use Rattle.std.proofs.Common.{◌≡◌, ◌≢◌, ℕ, zero, suc, ◌+◌, ◌<◌, ◌≤◌, Bool, true, false, List, [], ◌∷◌, map, length, take, get_or, refl, sym, ap, ◌∙◌, cond, subst, arith}
use Rattle.std.specs.Prelude.{nat_eq, Option, Some, None}
use Rattle.std.proofs.lemmas.Bool.Decides.{nat_tests}
use Rattle.std.proofs.Math.Seq.{take-length}
use Rattle.kid_value.specs.PlainValue.{PlainValue, bool}
use Rattle.kid_term.specs.DefView.{plain_def}
use Rattle.kid_term.specs.Names.{same_name, PlainDef}
use Rattle.kid_term.specs.Latest.{later, latest_place}
use Rattle.kid_term.specs.Eval.{eval, Calls, call_at, calls_over, calls_of, bound, def_value}
use Rattle.kid_term.specs.Small.{Checks, check_at, checks_over, checks_of, def_small, stays_small}
use Rattle.kid_term.specs.Cost.{Costs, cost, cost_at, costs_over}
use Rattle.kid_term.specs.declared.definition.Def.{Def}
use Rattle.kid_eval.specs.Opening.{Opens, IsUndefined}

abbrev place : ℕ → Option ℕ
place i = Some i

abbrev nowhere : Option ℕ
nowhere = None

nowhere_parts : (o : Option ℕ) (b : Bool) → later o b ≡ nowhere → (o ≡ nowhere) × (b ≡ false)
nowhere_parts (Some i) b p = cc
nowhere_parts None true p = cc
nowhere_parts None false p = (refl, refl)

place_cases : (o : Option ℕ) (b : Bool) (i : ℕ) (P : Type 0) → later o b ≡ place i → ((k : ℕ) → o ≡ place k → suc k ≡ i → P) → (o ≡ nowhere → b ≡ true → 0 ≡ i → P) → P
place_cases (Some k) b i P p f g = f k refl (let e : suc k ≡ i = cc in e)
place_cases None true i P p f g = g refl refl (let e : 0 ≡ i = cc in e)
place_cases None false i P p f g = cc

module _ (f : List ℕ) where
  -- definitions of other names change nothing, and are passed by a search
  record Passes (calls : Calls) (checks : Checks) (costs : Costs) (ds : List PlainDef) : Type 0 where
    value : (vs : List PlainValue) → call_at f (calls_over calls ds) vs ≡ call_at f calls vs
    small : (vs : List PlainValue) → check_at f (checks_over calls checks ds) vs ≡ check_at f checks vs
    cheaper : cost_at f costs ≤ cost_at f (costs_over costs ds)

  passes : (calls : Calls) (checks : Checks) (costs : Costs) (ds : List PlainDef) → latest_place f ds ≡ None → Passes calls checks costs ds
  passes calls checks costs [] p = record { value = λ vs. refl; small = λ vs. refl; cheaper = omega arith }
  passes calls checks costs (d ∷ ds) p =
      let q = nowhere_parts (latest_place f ds) (same_name f d.name) p in
      let own = cost costs d.body + length d.parameters in
      let r = passes ((d.name, def_value calls d) ∷ calls) ((d.name, def_small calls checks d) ∷ checks) ((d.name, own) ∷ costs) ds q.0 in
      let e : cost_at f ((d.name, own) ∷ costs) ≡ cost_at f costs + 1 = ap (λ c. cond c own (cost_at f costs) + 1) q.1 in
      let le = r.cheaper in
      record {
        value = λ vs. r.value vs ∙ ap (λ c. cond c (def_value calls d vs) (call_at f calls vs)) q.1;
        small = λ vs. r.small vs ∙ ap (λ c. cond c (def_small calls checks d vs) (check_at f checks vs)) q.1;
        cheaper = omega arith;
      }

  -- the definition at the place is opened, over those that stand before it
  record OpensOver (calls : Calls) (checks : Checks) (costs : Costs) (ds : List PlainDef) (d : PlainDef) (i : ℕ) : Type 0 where
    value : (vs : List PlainValue) → call_at f (calls_over calls ds) vs ≡ def_value (calls_over calls (take i ds)) d vs
    small : (vs : List PlainValue) → check_at f (checks_over calls checks ds) vs ≡ def_small (calls_over calls (take i ds)) (checks_over calls checks (take i ds)) d vs
    cheaper : cost (costs_over costs (take i ds)) d.body < cost_at f (costs_over costs ds)

  opens_first : (calls : Calls) (checks : Checks) (costs : Costs) (x : PlainDef) (ds : List PlainDef) (d : PlainDef) → latest_place f ds ≡ None → same_name f x.name ≡ true → d ≡ x
      → OpensOver calls checks costs (x ∷ ds) d 0
  opens_first calls checks costs x ds d none here is =
      let own = cost costs x.body + length x.parameters in
      let r = passes ((x.name, def_value calls x) ∷ calls) ((x.name, def_small calls checks x) ∷ checks) ((x.name, own) ∷ costs) ds none in
      let e : cost_at f ((x.name, own) ∷ costs) ≡ own + 1 = ap (λ c. cond c own (cost_at f costs) + 1) here in
      let same : cost costs d.body ≡ cost costs x.body = ap (λ (z : PlainDef). cost costs z.body) is in
      let le = r.cheaper in
      record {
        value = λ vs. r.value vs ∙ ap (λ c. cond c (def_value calls x vs) (call_at f calls vs)) here ∙ ap (λ z. def_value calls z vs) (sym is);
        small = λ vs. r.small vs ∙ ap (λ c. cond c (def_small calls checks x vs) (check_at f checks vs)) here ∙ ap (λ z. def_small calls checks z vs) (sym is);
        cheaper = omega arith;
      }

  opens_over : (calls : Calls) (checks : Checks) (costs : Costs) (ds : List PlainDef) (i : ℕ) (d : PlainDef) → latest_place f ds ≡ Some i → d ≡ get_or ds i d → OpensOver calls checks costs ds d i
  opens_over calls checks costs [] i d p is = cc
  opens_over calls checks costs (x ∷ ds) i d p is =
      place_cases (latest_place f ds) (same_name f x.name) i (OpensOver calls checks costs (x ∷ ds) d i) p
      (λ k e s.
      let h = opens_over ((x.name, def_value calls x) ∷ calls) ((x.name, def_small calls checks x) ∷ checks) ((x.name, cost costs x.body + length x.parameters) ∷ costs) ds k d e
      (is ∙ ap (λ n. get_or (x ∷ ds) n d) (sym s)) in
      let later : OpensOver calls checks costs (x ∷ ds) d (suc k) = record { value = h.value; small = h.small; cheaper = h.cheaper } in
      subst (OpensOver calls checks costs (x ∷ ds) d) s later)
      (λ e here s. subst (OpensOver calls checks costs (x ∷ ds) d) s (opens_first calls checks costs x ds d e here (is ∙ ap (λ n. get_or (x ∷ ds) n d) (sym s))))

  -- the place is one of the list, and one of those that are known
  place-known : (n : ℕ) (ds : List Def) (i : ℕ) → latest_place f (take n (map plain_def ds)) ≡ Some i → (i < length ds) × (i < n)
  place-known zero ds i p = cc
  place-known (suc n) [] i p = cc
  place-known (suc n) (d ∷ ds) i p =
      place_cases (latest_place f (take n (map plain_def ds))) (same_name f d.name) i ((i < suc (length ds)) × (i < suc n)) p
      (λ k e s. let h = place-known n ds k e in let a = h.0 in let b = h.1 in (omega arith, omega arith))
      (λ e here s. (omega arith, omega arith))

item-taken : (n i : ℕ) (ds : List Def) (d : Def) → i < n → d ≡ get_or ds i d → plain_def d ≡ get_or (take n (map plain_def ds)) i (plain_def d)
item-taken zero i ds d lt is = absurd (omega arith)
item-taken (suc n) i [] d lt is = refl
item-taken (suc n) zero (x ∷ ds) d lt is = ap plain_def is
item-taken (suc n) (suc i) (x ∷ ds) d lt is = item-taken n i ds d (omega arith) is

take-taken : (i n : ℕ) (ds : List PlainDef) → i < n → take i (take n ds) ≡ take i ds
take-taken zero n ds lt = refl
take-taken (suc i) zero ds lt = absurd (omega arith)
take-taken (suc i) (suc n) [] lt = refl
take-taken (suc i) (suc n) (d ∷ ds) lt = ap (λ z. d ∷ z) (take-taken i n ds (omega arith))

-- all definitions are known
pub all_known : (ds : List PlainDef) → take (length ds) ds ≡ ds
all_known ds = take-length ds

pub undefined : (f : List ℕ) (n : ℕ) (all : List PlainDef) → latest_place f (take n all) ≡ None → IsUndefined f (take n all)
undefined f n all p vs = (passes f [] [] [] (take n all) p).value vs

module _ (f : List ℕ) (n : ℕ) (items : List Def) (all : List PlainDef) (are : map plain_def items ≡ all) where
  found : (i : ℕ) → latest_place f (take n all) ≡ Some i → (i < length items) × (i < n)
  found i p = place-known f n items i (ap (λ ds. latest_place f (take n ds)) are ∙ p)

  pub place_within : (i : ℕ) → latest_place f (take n all) ≡ Some i → i < length items
  place_within i p = (found i p).0

  pub opens_at : (i : ℕ) (d : Def) → latest_place f (take n all) ≡ Some i → d ≡ get_or items i d → Opens f (take n all) (plain_def d) (take i all)
  opens_at i d p is =
      let lt = (found i p).1 in
      let at : plain_def d ≡ get_or (take n all) i (plain_def d) = item-taken n i items d lt is ∙ ap (λ ds. get_or (take n ds) i (plain_def d)) are in
      let h = opens_over f [] [] [] (take n all) i (plain_def d) p at in
      let opened : Opens f (take n all) (plain_def d) (take i (take n all)) = record { value = h.value; small = h.small; cheaper = h.cheaper } in
      subst (Opens f (take n all) (plain_def d)) (take-taken i n all lt) opened

module _ (f : List ℕ) (all earlier : List PlainDef) (d : PlainDef) (o : Opens f all d earlier) (vs : List PlainValue) where
  module _ (same : length vs ≡ length d.parameters) where
    counted : nat_eq (length vs) (length d.parameters) ≡ true
    counted = grind (arith, nat_tests)

    pub opened_value : call_at f (calls_of all) vs ≡ eval (calls_of earlier) (bound d.parameters vs) d.body
    opened_value = o.value vs ∙ rw counted refl

    pub opened_small : check_at f (checks_of all) vs ≡ true → stays_small (calls_of earlier) (checks_of earlier) (bound d.parameters vs) d.body ≡ true
    opened_small h = let e : check_at f (checks_of all) vs ≡ stays_small (calls_of earlier) (checks_of earlier) (bound d.parameters vs) d.body = o.small vs ∙ rw counted refl in sym e ∙ h

  pub opened_wrong : (length vs ≢ length d.parameters) → call_at f (calls_of all) vs ≡ bool false
  opened_wrong ne = let e : nat_eq (length vs) (length d.parameters) ≡ false = grind (arith, nat_tests) in o.value vs ∙ rw e refl
