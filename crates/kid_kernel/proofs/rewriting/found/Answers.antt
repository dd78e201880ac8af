use Rattle.std.proofs.Common.{◌≡◌, map, ap, ◌∙◌}
use Rattle.kid_term.specs.Names.{latest_first}
use Rattle.kid_term.specs.Sorting.{sort_of}
use Rattle.kid_term.specs.TermView.{plain_term}
use Rattle.kid_scope.specs.Holds.{has_a_sort}
use Rattle.kid_scope.specs.Scope.{scope_at}
use Rattle.kid_kernel.specs.Placed.{top_scope}
use Rattle.kid_kernel.specs.ScopeView.{plain_scope}
use Rattle.kid_kernel.proofs.PlacedLemmas.{placed_below}
use Rattle.kid_kernel.proofs.rewriting.found.Goals as goal

pub made-requires : goal.made-requires
made-requires g c =
    let top = top_scope c.args.names.now (map plain_term c.args.facts.now) in
    let inner : plain_scope c.in-Ok.scope ≡ scope_at (latest_first c.args.theory.now.signature.definitions) (plain_term c.args.term.now) c.args.path.now top =
    c.in-Ok.ensures.scope ∙ ap (λ d. scope_at (latest_first d) (plain_term c.args.term.now) c.args.path.now top) c.defs.ensures in
    record {
      known = c.in-Ok.ensures.definitions ∙ c.defs.ensures;
      sound = c.requires.sound;
      sorted =
          ap (λ sc. has_a_sort (sort_of c.args.theory.now.signature.definitions sc.names (plain_term c.in-Some.old.now))) inner
          ∙ placed_below c.args.theory.now.signature.definitions c.args.names.now (map plain_term c.args.facts.now) (plain_term c.args.term.now) c.args.path.now (plain_term c.in-Some.old.now) c.requires.sorted c.in-Some.ensures;
    }
