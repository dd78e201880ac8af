use Rattle.std.proofs.Common.{◌≡◌, ◌∷◌, map, sym, ap, ◌∙◌, subst, arith}
use Rattle.std.specs.Prelude.{IfOk, not, filter}
use Rattle.kid_value.specs.PlainValue.{bool}
use Rattle.kid_value.specs.ValueView.{plain}
use Rattle.kid_value.specs.SortView.{plain_sort}
use Rattle.kid_value.specs.Rows.Parts.{truth_of, members_of}
use Rattle.kid_value.specs.Rows.Kinds.{set_from}
use Rattle.kid_term.specs.PlainTerm.{term_row}
use Rattle.kid_term.specs.TermView.{plain_term}
use Rattle.kid_term.specs.Cost.{cost, cost_all, costs_of}
use Rattle.kid_term.specs.Eval.{op_value, eval, binder_value, calls_of}
use Rattle.kid_term.specs.Small.{is_small, checks_of}
use Rattle.kid_eval.specs.Binding.{kept}
use Rattle.kid_eval.specs.Inside.{value_with}
use Rattle.kid_eval.specs.KnownView.{known_of}
use Rattle.kid_eval.specs.ScopeView.{plain_seen, env_of}
use Rattle.kid_eval.proofs.BindingLemmas.{all_found, some_found, kept_passing}
use Rattle.kid_eval.proofs.SmallLemmas.{small_at, small_bind, small_op, small_one, small_two, small_three, cast_many, cost-lt-all}
use Rattle.kid_eval.proofs.evaluate.+eval.Goals as goal

pub bind-returns-in_ok-fails-in-All : goal.bind-returns-in_ok-fails-in-All
bind-returns-in_ok-fails-in-All t c =
    let e = rw c.members-members.ensures.members at c.in_ok-fails-in-All.ensures in
    rw c.in-All.is
    (ap bool (ap not e ∙ all_found (λ v. truth_of (value_with (known_of c.args.known.now) c.args.scope.now c.args.x.now c.args.body.now v)) (members_of (plain c.args.set.now))))

pub bind-returns-in_ok-holds-in-Some : goal.bind-returns-in_ok-holds-in-Some
bind-returns-in_ok-holds-in-Some t c =
    let e = rw c.members-members.ensures.members at c.in_ok-holds-in-Some.ensures in
    rw c.in-Some.is
    (ap bool (e ∙ some_found (λ v. truth_of (value_with (known_of c.args.known.now) c.args.scope.now c.args.x.now c.args.body.now v)) (members_of (plain c.args.set.now))))

pub bind-returns-in_ok-truths-in-SetOf : goal.bind-returns-in_ok-truths-in-SetOf
bind-returns-in_ok-truths-in-SetOf t c =
    let f = value_with (known_of c.args.known.now) c.args.scope.now c.args.x.now c.args.body.now in
    let ms = members_of (plain c.args.set.now) in
    let me : map plain c.members-members.result.now ≡ ms = c.members-members.ensures.members in
    let te : map plain c.deref.result.now ≡ map f ms = ap (map plain) c.deref.ensures.value ∙ c.in_ok-truths-in-SetOf.ensures ∙ ap (map f) me in
    let k : kept (map plain c.members-members.result.now) (map plain c.deref.result.now) ≡ filter (λ v. truth_of (f v)) ms
    = ap (λ z. kept z (map plain c.deref.result.now)) me ∙ ap (kept ms) te ∙ kept_passing f ms in
    rw c.in-SetOf.is (subst (λ z. IfOk c.kept.result (λ v. plain v ≡ set_from z)) k c.kept.ensures)

pub see_all-see-requires : goal.see_all-see-requires
see_all-see-requires t c = (
  omega (arith, cost-lt-all (costs_of (known_of c.args.known.now)) c.args.terms.now c.loop-t.t-index c.t-item.result (omega arith) c.t-item.is),
  small_at (calls_of (known_of c.args.known.now)) (checks_of (known_of c.args.known.now)) (env_of c.args.scope.now) c.args.terms.now c.loop-t.t-index c.t-item.result (omega arith)
      c.t-item.is c.loop-t.invariant.small,
)

pub value_of-see-requires : goal.value_of-see-requires
value_of-see-requires t c =
    let s = small_bind (calls_of (known_of c.args.known.now)) (checks_of (known_of c.args.known.now)) (env_of c.args.scope.now) c.in-Bind.binder c.in-Bind.x c.in-Bind.set
    c.in-Bind.body (rw c.in-Bind.is at c.requires) in (
      omega
          (arith, ap (λ z. cost (costs_of (known_of c.args.known.now)) (plain_term z)) c.in-Bind.is, ap (cost (costs_of (known_of c.args.known.now))) c.get.ensures),
      rw c.get.ensures s.set,
    )

pub value_of-returns-in_ok-set-in-Bind : goal.value_of-returns-in_ok-set-in-Bind
value_of-returns-in_ok-set-in-Bind t c =
    let calls = calls_of (known_of c.args.known.now) in
    let env = env_of c.args.scope.now in
    let e : plain c.seen_value-in-Bind.result.now ≡ eval calls env c.in-Bind.set = c.seen_value-in-Bind.ensures ∙ c.in_ok-set-in-Bind.ensures ∙ ap (eval calls env) c.get.ensures in
    let f : plain_term c.get-in-Bind.result.now ≡ c.in-Bind.body = c.get-in-Bind.ensures in
    let k : binder_value c.in-Bind.binder (members_of (plain c.seen_value-in-Bind.result.now)) (λ v. eval calls ((c.in-Bind.x, v) ∷ env) (plain_term c.get-in-Bind.result.now))
    ≡ binder_value c.in-Bind.binder (members_of (eval calls env c.in-Bind.set)) (λ v. eval calls ((c.in-Bind.x, v) ∷ env) c.in-Bind.body)
    = λ i. binder_value c.in-Bind.binder (members_of (e i)) (λ v. eval calls ((c.in-Bind.x, v) ∷ env) (f i)) in
    rw c.in-Bind.is (subst (λ z. IfOk c.bind.result (λ v. plain v ≡ z)) k c.bind.ensures)

pub operate-binary-requires : goal.operate-binary-requires
operate-binary-requires t c =
    let defs = known_of c.args.known.now in
    let e = c.in-Some.ensures in
    let s = small_two (calls_of defs) (checks_of defs) (env_of c.args.scope.now) c.args.op c.args.terms.now c.in-Some.a.now c.in-Some.b.now e c.requires in
    (omega (arith, ap (λ z. cost_all (costs_of defs) (term_row (map plain_term z))) e), (s.first, (s.second, (s.sums, s.small))))

pub operate-unary-requires : goal.operate-unary-requires
operate-unary-requires t c =
    let defs = known_of c.args.known.now in
    let e = c.in-Some-single.ensures in
    let s = small_one (calls_of defs) (checks_of defs) (env_of c.args.scope.now) c.args.op c.args.terms.now c.in-Some-single.a.now e c.requires in
    (omega (arith, ap (λ z. cost_all (costs_of defs) (term_row (map plain_term z))) e), (s.part, (s.sums, s.small)))

pub operate-choose-requires : goal.operate-choose-requires
operate-choose-requires t c =
    let defs = known_of c.args.known.now in
    let at = c.in-Logic-If-Some in
    let s = small_three (calls_of defs) (checks_of defs) (env_of c.args.scope.now) c.args.op c.args.terms.now at.test.now at.a.now at.b.now at.ensures c.requires in
    (omega (arith, ap (λ z. cost_all (costs_of defs) (term_row (map plain_term z))) at.ensures), (s.test, (s.first, s.second)))

pub operate-row-requires-clause-small : goal.operate-row-requires-clause-small
operate-row-requires-clause-small t c =
    let defs = known_of c.args.known.now in
    ap (λ z. is_small (op_value c.args.op z)) (ap (map plain_seen) c.deref.ensures.value ∙ c.in_ok-values.ensures)
    ∙ small_op (calls_of defs) (checks_of defs) (env_of c.args.scope.now) c.args.op (term_row (map plain_term c.args.terms.now)) c.requires

pub convert-returns-in_default : goal.convert-returns-in_default
convert-returns-in_default t c =
    sym (cast_many (calls_of (known_of c.args.known.now)) (env_of c.args.scope.now) (plain_sort c.args.sort.now) c.args.terms.now c.in_default.ensures)

pub operate-both-requires : goal.operate-both-requires
operate-both-requires t c =
    let defs = known_of c.args.known.now in
    let at = c.in-Logic-And-Some in
    let s = small_two (calls_of defs) (checks_of defs) (env_of c.args.scope.now) c.args.op c.args.terms.now at.a.now at.b.now at.ensures c.requires in
    (omega (arith, ap (λ z. cost_all (costs_of defs) (term_row (map plain_term z))) at.ensures), (s.first, s.second))
