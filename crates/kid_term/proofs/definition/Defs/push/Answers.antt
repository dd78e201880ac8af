use Rattle.std.specs.Cmp.Lexicographic.{pointwise}
use Rattle.std.specs.Prelude.{nat_eq}
use Rattle.indexmap.specs.IndexMap.{get}
use Rattle.kid_term.proofs.LatestLemmas.{places_kept}
use Rattle.kid_term.proofs.definition.Defs.push.Goals as goal

pub invariant_of-self : goal.invariant_of-self
invariant_of-self c =
    places_kept c.add.result c.self.inside.items.items c.add.new.items.items c.args.def (get (pointwise nat_eq) c.self.inside.latest) (get (pointwise nat_eq) c.add.new.latest)
    c.self.invariant c.add.ensures.ok c.add.ensures.err c.add.ensures.found c.add.ensures.kept
