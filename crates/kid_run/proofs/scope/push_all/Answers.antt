use Rattle.std.proofs.Common.{rules, ◌≡◌, [], ◌∷◌, ◌++◌, ap, ◌∙◌, map}
use Rattle.kid_value.specs.NameView.{plain_name}
use Rattle.kid_value.specs.ValueView.{plain}
use Rattle.kid_term.specs.Eval.{bound}
use Rattle.kid_run.proofs.ScopeLemmas.{bound-pushed, counts-before}
use Rattle.kid_run.proofs.scope.push_all.Goals as goal

pub loop-value-preserved : goal.loop-value-preserved
loop-value-preserved c =
    let names = c.loop-value.rest.now in
    let earlier = c.in-Some-split_last.earlier.now in
    let name = c.in-Some-split_last.name.now in
    let values = c.loop-value.values.items in
    let before = c.pop.new.self.items in
    let e : names ≡ earlier ++ name ∷ [] = search rules in
    let f : values ≡ before ++ c.in-Some.value ∷ [] = search rules in
    let l = counts-before names earlier name values before c.in-Some.value e f c.loop-value.invariant.count in
    record {
      count = l;
      made =
          ap (λ z. bound (map plain_name earlier) (map plain before) ++ z) c.in_ok-push.ensures.ok
          ∙ bound-pushed names earlier name values before c.in-Some.value c.loop-value.env e f l
          ∙ c.loop-value.invariant.made;
    }
