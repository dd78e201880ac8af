use Rattle.std.proofs.Common.{◌≡◌, ◌++◌, ◌+◌, ◌*◌, true, map, drop}
use Rattle.std.specs.List.{list_all}
use Rattle.kid_value.specs.ValueView.{plain}
use Rattle.kid_value.specs.Rows.Parts.{truth_of}
use Rattle.kid_term.specs.TermView.{plain_term}
use Rattle.kid_term.specs.PlainTerm.{term_row}
use Rattle.kid_term.specs.Cost.{cost, cost_all, cost_at, costs_of}
use Rattle.kid_eval.specs.KnownView.{known_of}
use Rattle.kid_eval.specs.ScopeView.{plain_seen}
use Rattle.kid_eval.specs.Binding.{is_found}
use Rattle.kid_eval.specs.Inside.{values_in, value_with, all_small_in, small_with}
use Rattle.kid_eval.proofs.evaluate.+eval.Given as goal

abbrev pub decreases-value_of : goal.decreases-value_of
decreases-value_of l = 4 * cost (costs_of (known_of l.known.now)) (plain_term l.term.now)

abbrev pub decreases-see : goal.decreases-see
decreases-see l = 4 * cost (costs_of (known_of l.known.now)) (plain_term l.term.now) + 1

abbrev pub decreases-see_all : goal.decreases-see_all
decreases-see_all l = 4 * cost_all (costs_of (known_of l.known.now)) (term_row (map plain_term l.terms.now)) + 1

abbrev pub decreases-call : goal.decreases-call
decreases-call l = 4 * cost_at l.f.now (costs_of (known_of l.known.now)) + 1

abbrev pub decreases-bind : goal.decreases-bind
decreases-bind l = 4 * cost (costs_of (known_of l.known.now)) (plain_term l.body.now) + 3

abbrev pub decreases-finds : goal.decreases-finds
decreases-finds l = 4 * cost (costs_of (known_of l.known.now)) (plain_term l.body.now) + 1

abbrev pub decreases-values_over : goal.decreases-values_over
decreases-values_over l = 4 * cost (costs_of (known_of l.known.now)) (plain_term l.body.now) + 1

abbrev pub invariant-see_all-loop-t : goal.invariant-see_all-loop-t
invariant-see_all-loop-t l =
    record {
      small : all_small_in (known_of l.known) l.scope (drop l.t-index l.terms) ≡ true;
      seen : map plain_seen l.values.items ++ values_in (known_of l.known) l.scope (drop l.t-index l.terms) ≡ values_in (known_of l.known) l.scope l.terms;
    }

abbrev pub invariant-finds-loop-v : goal.invariant-finds-loop-v
invariant-finds-loop-v l =
    record {
      small : list_all (small_with (known_of l.known) l.scope l.x l.body) (map plain (drop l.v-index l.members)) ≡ true;
      left : is_found l.truth (map (λ v. truth_of (value_with (known_of l.known) l.scope l.x l.body v)) (map plain l.members))
          ≡ is_found l.truth (map (λ v. truth_of (value_with (known_of l.known) l.scope l.x l.body v)) (map plain (drop l.v-index l.members)));
    }

abbrev pub invariant-values_over-loop-v : goal.invariant-values_over-loop-v
invariant-values_over-loop-v l =
    record {
      small : list_all (small_with (known_of l.known) l.scope l.x l.body) (map plain (drop l.v-index l.members)) ≡ true;
      made : map plain l.values.items ++ map (value_with (known_of l.known) l.scope l.x l.body) (map plain (drop l.v-index l.members))
          ≡ map (value_with (known_of l.known) l.scope l.x l.body) (map plain l.members);
    }

abbrev pub decreases-operate : goal.decreases-operate
decreases-operate l = 4 * cost_all (costs_of (known_of l.known.now)) (term_row (map plain_term l.terms.now)) + 2

abbrev pub decreases-unary : goal.decreases-unary
decreases-unary l = 4 * cost (costs_of (known_of l.known.now)) (plain_term l.a.now) + 2

abbrev pub decreases-binary : goal.decreases-binary
decreases-binary l = 4 * (cost (costs_of (known_of l.known.now)) (plain_term l.a.now) + cost (costs_of (known_of l.known.now)) (plain_term l.b.now)) + 2

abbrev pub decreases-both : goal.decreases-both
decreases-both l = 4 * (cost (costs_of (known_of l.known.now)) (plain_term l.a.now) + cost (costs_of (known_of l.known.now)) (plain_term l.b.now)) + 2

abbrev pub decreases-choose : goal.decreases-choose
decreases-choose l =
    4
    * (
    cost (costs_of (known_of l.known.now)) (plain_term l.test.now)
    + cost (costs_of (known_of l.known.now)) (plain_term l.a.now)
    + cost (costs_of (known_of l.known.now)) (plain_term l.b.now)
    )
    + 2

abbrev pub decreases-convert : goal.decreases-convert
decreases-convert l = 4 * cost_all (costs_of (known_of l.known.now)) (term_row (map plain_term l.terms.now)) + 2
