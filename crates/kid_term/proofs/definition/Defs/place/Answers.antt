use Rattle.std.proofs.Common.{map, take, ap, sym, ◌∙◌, arith}
use Rattle.kid_term.specs.DefView.{plain_def}
use Rattle.kid_term.specs.Latest.{latest_place}
use Rattle.kid_term.proofs.LatestLemmas.{place-take, none-take}
use Rattle.kid_term.proofs.definition.Defs.place.Goals as goal

pub returns-then-place-count : goal.returns-then-place-count
returns-then-place-count c =
    sym (place-take c.args.name.now c.args.count (map plain_def c.self.inside.items.items) c.in-Some.place.now (sym (c.in-Some.ensures.value ∙ c.self.invariant c.args.name.now)) (omega arith))
    ∙ ap (λ ds. latest_place c.args.name.now (take c.args.count ds)) c.self.view_is

pub returns-in-None : goal.returns-in-None
returns-in-None c =
    sym (none-take c.args.name.now c.args.count (map plain_def c.self.inside.items.items) (sym (c.in-None.ensures.value ∙ c.self.invariant c.args.name.now)))
    ∙ ap (λ ds. latest_place c.args.name.now (take c.args.count ds)) c.self.view_is
