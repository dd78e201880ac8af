-- Each example by computation.
use Rattle.std.proofs.Common.{refl}
use Rattle.kid_scope.specs.RuleExamples.{RuleExamples}
use Rattle.kid_scope.specs.Examples.{ScopeExamples, RewritingExamples}

pub examples : ScopeExamples
examples = record {
  first_of_and = refl;
  second_of_and = refl;
  test_of_if = refl;
  second_of_if = refl;
  third_of_if = refl;
  nested = refl;
  set_of_binder = refl;
  body_of_binder = refl;
  member_in_body = refl;
  facts_stay = refl;
  fact_holds = refl;
  other_does_not = refl;
  closed_holds = refl;
  at_most_by_equal_bounds = refl;
  less_by_equal_bounds = refl;
  less_by_bounds = refl;
  not_at_most_by_bounds = refl;
  not_at_most_by_equal_bounds = refl;
  both_hold = refl;
  one_does_not = refl;
  unknown_name = refl;
}

pub rewriting_examples : RewritingExamples
rewriting_examples = record {
  made = refl;
  path_first = refl;
  rule_next = refl;
  assumed_there = refl;
  not_assumed_before = refl;
  first_condition = refl;
  condition_before_sort = refl;
  new_term_without_sort = refl;
  new_term_too_deep = refl;
  outside_its_sort = refl;
  within_its_sort = refl;
  limit_before_sort_of_a_part = refl;
}

pub rule_examples : RuleExamples
rule_examples = record {
  unfolded = refl;
  captured = refl;
  not_captured = refl;
  no_call = refl;
  two_arguments = refl;
  no_way_back = refl;
  needless_argument = refl;
  folded = refl;
  other_body = refl;
  no_definition = refl;
  folded_back = refl;
  no_definition_back = refl;
  would_be_bound = refl;
  computed = refl;
  free_name = refl;
  held = refl;
  failing = refl;
  no_truth = refl;
  fact = refl;
  fact_back = refl;
  forth = refl;
  back = refl;
  other_side = refl;
  no_fact = refl;
  beyond = refl;
  interval = refl;
  bound = refl;
  other_items = refl;
  within = refl;
  not_within = refl;
}
