use Rattle.std.proofs.Common.{map, ap, ◌∙◌, arith}
use Rattle.kid_term.specs.TermView.{plain_term, plain_head}
use Rattle.kid_term.specs.PlainTerm.{term_row, node_counts}
use Rattle.kid_term.proofs.EqualityLemmas.{some_node, app_same}
use Rattle.kid_term.proofs.equality.+equal.Goals as goal

pub all_same-all_same-requires : goal.all_same-all_same-requires
all_same-all_same-requires t c = (omega (arith, some_node (plain_term c.in-Some-Some.t.now), ap (λ l. node_counts (term_row (map plain_term l))) c.in-Some-Some.ensures.cases.0), tt)

pub same-returns-then-same_head : goal.same-returns-then-same_head
same-returns-then-same_head t c =
    app_same (plain_term c.args.a.now) (plain_term c.args.b.now) (plain_head c.in-App-App.g) (plain_head c.in-App-App.h) c.in-App-App.ts c.in-App-App.us
    (map plain_term c.deref.result.now) (map plain_term c.deref-then-same_head.result.now) c.all_same.result (ap plain_term c.in-App-App.is-0) (ap plain_term c.in-App-App.is-1)
    (c.same_head.ensures.0 c.if-same_head.true) (ap (map plain_term) c.deref.ensures.value ∙ c.ts.view_is) (ap (map plain_term) c.deref-then-same_head.ensures.value ∙ c.us.view_is) c.all_same.ensures
