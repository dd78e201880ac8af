-- The search of a lawful plan finds just the answers.
use Rattle.std.proofs.Common.{◌≡◌, ◌≤◌, Bool, true, List, [], ◌∷◌, refl, sym, ap, ◌∙◌, subst, arith}
use Rattle.std.specs.Prelude.{◌&&◌}
use Rattle.std.specs.List.{list_all}
use Rattle.kid_value.specs.InSort.{in_sort}
use Rattle.kid_value.specs.PlainValue.{PlainValue}
use Rattle.kid_value.proofs.SortLemmas.{and_parts}
use Rattle.kid_term.specs.Answer.{relates}
use Rattle.kid_term.specs.Eval.{Env, Calls}
use Rattle.kid_term.specs.PlainSpec.{PlainSpec}
use Rattle.kid_term.specs.PlainTerm.{PlainTerm}
use Rattle.kid_search.specs.Space.{Descriptor, Space}
use Rattle.kid_search.specs.SearchLaws.{is_feasible, IsPlanned}
use Rattle.kid_search.specs.Pieces.{start_of, true_in}
use Rattle.kid_search.specs.PlainPlan.{PlainCut, PlainPlan}
use Rattle.kid_search.specs.PlanSearch.{plan_space, plan_pruning, cut_all, cut_once}
use Rattle.kid_search.specs.Owed.{EachOf, env_at, FilterIsNecessary, CutLosesNothing}
use Rattle.kid_search.specs.PlanLaws.{IsLawfulPlan, MatchedIsLawful, PlansFindAll, PlansFindFirst, DesignsAnswer}
use Rattle.kid_search.proofs.Planned.{searches_find_all, searches_find_first}

module _ (calls : Calls) (x : Env) (spec : PlainSpec) (plan : PlainPlan) where
  abbrev space : Space
  space = plan_space calls x spec plan

  abbrev feasible : PlainValue → Bool
  feasible = is_feasible calls spec x

  -- the second descriptor is good, of no higher rank, and stands for the same feasible values
  record Keeps (d e : Descriptor) : Type 0 where
    good : space.is_good e ≡ true
    rank : space.rank e ≤ space.rank d
    within : (v : PlainValue) → feasible v ≡ true → space.satisfies e v ≡ true → space.satisfies d v ≡ true
    keeps : (v : PlainValue) → feasible v ≡ true → space.satisfies d v ≡ true → space.satisfies e v ≡ true

  sorted : (v : PlainValue) → feasible v ≡ true → in_sort spec.sort v ≡ true
  sorted v f = (and_parts (in_sort spec.sort v) (relates calls spec x v) f).0

  -- all cuts keep what each of them keeps
  cuts_keep : (cs : List PlainCut) → EachOf (CutLosesNothing calls x spec plan) cs → (d : Descriptor) → space.is_good d ≡ true → Keeps d (cut_all calls x spec plan cs d)
  cuts_keep [] o d g = record { good = g; rank = omega arith; within = λ v f h. h; keeps = λ v f h. h }
  cuts_keep (c ∷ cs) o d g =
      let here = o.0 in
      let cut = here.cuts d g in
      let rest = cuts_keep cs o.1 (cut_once calls x spec plan c d) cut.good in
      record {
        good = rest.good;
        rank = omega (arith, cut.rank, rest.rank);
        within = λ v f h. cut.within v (sorted v f) (rest.within v f h);
        keeps = λ v f h. rest.keeps v f (cut.keeps v (sorted v f) (here.shown d v g f h) h);
      }

  all_pass : (fs : List PlainTerm) → EachOf (FilterIsNecessary calls x spec plan) fs → (d : Descriptor) (v : PlainValue) → space.is_good d ≡ true → feasible v ≡ true → space.satisfies d v ≡ true
      → list_all (true_in calls (env_at calls x spec plan d)) fs ≡ true
  all_pass [] o d v g f h = refl
  all_pass (t ∷ ts) o d v g f h = ap (λ b. b && list_all (true_in calls (env_at calls x spec plan d)) ts) (o.0 d v g f h) ∙ all_pass ts o.1 d v g f h

  pub planned : IsLawfulPlan calls x spec plan → IsPlanned calls spec x (plan_space calls x spec plan) (plan_pruning calls x spec plan) (start_of calls x spec.output plan.pieces)
  planned p =
      let pieces = p.pieces in
      let starts = pieces.starts in
      record {
        lawful = pieces.lawful;
        necessary = record {
          cut_good = λ d g. let k = cuts_keep plan.cuts p.cuts d g in k.good;
          cut_rank = λ d g. let k = cuts_keep plan.cuts p.cuts d g in k.rank;
          cut_within = λ d v g f h. let k = cuts_keep plan.cuts p.cuts d g in k.within v f h;
          cut_keeps = λ d v g f h. let k = cuts_keep plan.cuts p.cuts d g in k.keeps v f h;
          filter_keeps = λ d v g f h. all_pass plan.filters p.filters d v g f h;
        };
        good = starts.good;
        complete = p.complete;
      }

pub plans_find_all : PlansFindAll
plans_find_all calls x spec plan p =
    searches_find_all calls spec x (plan_space calls x spec plan) (plan_pruning calls x spec plan) (start_of calls x spec.output plan.pieces) (planned calls x spec plan p)

pub plans_find_first : PlansFindFirst
plans_find_first calls x spec plan p =
    searches_find_first calls spec x (plan_space calls x spec plan) (plan_pruning calls x spec plan) (start_of calls x spec.output plan.pieces) (planned calls x spec plan p)

pub designs_answer : DesignsAnswer
designs_answer t plan d x good = plans_find_all _ x t.spec plan (d x good)

pub matched_is_lawful : MatchedIsLawful
matched_is_lawful calls x spec plan pieces goal no_cuts no_filters =
    let starts = pieces.starts in
    record {
      pieces = pieces;
      complete = λ v f. starts.holds_all v (and_parts (in_sort spec.sort v) (relates calls spec x v) f).0 (goal v f);
      cuts = subst (λ cs. EachOf (CutLosesNothing calls x spec plan) cs) (sym no_cuts) tt;
      filters = subst (λ fs. EachOf (FilterIsNecessary calls x spec plan) fs) (sym no_filters) tt;
    }
