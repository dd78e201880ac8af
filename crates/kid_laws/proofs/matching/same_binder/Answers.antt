use Rattle.std.proofs.Common.{◌∙◌, ap, sym}
use Rattle.std.specs.Prelude.{◌&&◌}
use Rattle.kid_laws.proofs.WalkLemmas.{binder-decides}
use Rattle.kid_laws.proofs.matching.same_binder.Goals as goal

pub returns-then-kinds : goal.returns-then-kinds
returns-then-kinds c =
    ap (λ p. p && c.same-names.result) (sym c.if-kinds.true)
    ∙ binder-decides c.same_kind-kinds.result c.same-names.result c.args.b c.args.c c.args.x.now c.args.y.now c.same_kind-kinds.ensures c.same-names.ensures

pub returns-else-kinds : goal.returns-else-kinds
returns-else-kinds c =
    c.if-kinds.false
    ∙ ap (λ p. p && c.same-names.result) (sym c.if-kinds.false)
    ∙ binder-decides c.same_kind-kinds.result c.same-names.result c.args.b c.args.c c.args.x.now c.args.y.now c.same_kind-kinds.ensures c.same-names.ensures
