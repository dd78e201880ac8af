use Rattle.std.proofs.Common.{sym, ◌∙◌, arith}
use Rattle.kid_term.specs.TermView.{plain_term}
use Rattle.kid_kernel.specs.ScopeView.{plain_scope}
use Rattle.kid_kernel.proofs.BoundLemmas.{parts_sorted, parts_count}
use Rattle.kid_kernel.proofs.ComparingLemmas.{parts_found}
use Rattle.kid_kernel.proofs.holding.+held.Goals as goal

pub is_held-both_held-requires : goal.is_held-both_held-requires
is_held-both_held-requires t c =
    let a = plain_term c.in-Some.first.now in
    let b = plain_term c.in-Some.second.now in
    let s = parts_sorted c.args.scope.now.definitions.now c.args.scope.now.names (plain_term c.args.condition.now) a b c.in-Some.ensures c.requires.sorted in
    let n = parts_count (plain_term c.args.condition.now) a b c.in-Some.ensures in
    (omega (arith, c.decreases, n), (c.requires.sound, (s.0, s.1)))

pub is_held-returns-in-Some : goal.is_held-returns-in-Some
is_held-returns-in-Some t c =
    parts_found c.args.scope.now.definitions.now (plain_scope c.args.scope.now) c.both_held.result (plain_term c.args.condition.now) (plain_term c.in-Some.first.now) (plain_term c.in-Some.second.now)
    c.in-Some.ensures (sym c.in_ok-holds_whole.ensures ∙ c.if-branch.false) c.both_held.ensures
