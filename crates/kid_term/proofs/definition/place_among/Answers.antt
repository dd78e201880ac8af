use Rattle.std.proofs.Common.{◌-◌, Some, map, take, ap, sym, ◌∙◌, cond, arith}
use Rattle.std.specs.Str.{bytes_eq}
use Rattle.kid_term.specs.declared.definition.Def.{Def}
use Rattle.kid_term.specs.DefView.{plain_def}
use Rattle.kid_term.specs.Latest.{latest_place}
use Rattle.kid_term.proofs.LatestLemmas.{walked}
use Rattle.kid_term.proofs.definition.place_among.Goals as goal

pub returns-then-eq : goal.returns-then-eq
returns-then-eq c =
    sym (walked c.args.name.now c.args.definitions.now c.loop-at.at c.index-definitions-at.result c.eq.result (omega arith) c.loop-at.invariant.0 c.index-definitions-at.is
    (c.eq.ensures ∙ ap (λ (z : Def). bytes_eq c.args.name.now z.name) (sym c.index-definitions-at.is))
    ∙ ap (λ b. cond b (Some (c.loop-at.at - 1)) (latest_place c.args.name.now (take (c.loop-at.at - 1) (map plain_def c.args.definitions.now)))) c.if-eq.true)
    ∙ c.loop-at.invariant.1

pub loop-at-preserved : goal.loop-at-preserved
loop-at-preserved c = (
  omega arith,
  sym (walked c.args.name.now c.args.definitions.now c.loop-at.at c.index-definitions-at.result c.eq.result (omega arith) c.loop-at.invariant.0 c.index-definitions-at.is
      (c.eq.ensures ∙ ap (λ (z : Def). bytes_eq c.args.name.now z.name) (sym c.index-definitions-at.is))
      ∙ ap (λ b. cond b (Some (c.loop-at.at - 1)) (latest_place c.args.name.now (take (c.loop-at.at - 1) (map plain_def c.args.definitions.now)))) c.if-eq.false)
      ∙ c.loop-at.invariant.1,
)
