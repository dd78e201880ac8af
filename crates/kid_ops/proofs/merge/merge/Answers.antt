use Rattle.std.proofs.Common.{◌≡◌, ◌∷◌, [], ◌++◌, sym, ap, ◌∙◌, append_assoc}
use Rattle.std.proofs.lemmas.List.{append-nil}
use Rattle.kid_value.specs.ValueView.{plain}
use Rattle.kid_ops.proofs.merge.merge.Goals as goal

pub loop-least-smaller : goal.loop-least-smaller
loop-least-smaller c = c.in-Some.ensures.left.2

pub loop-least-preserved : goal.loop-least-preserved
loop-least-preserved c =
    let e : c.push.new.self ≡ c.loop-least.values ++ plain c.in-Some.least.now ∷ [] = c.in_ok-push.ensures.ok ∙ ap (λ z. c.loop-least.values ++ z ∷ []) c.in_ok-copy.ensures in
    record {
      first = c.in-Some.ensures.left.0;
      second = c.in-Some.ensures.left.1;
      merged = rw e (append_assoc c.loop-least.values (plain c.in-Some.least.now ∷ []) _ ∙ ap (λ z. c.loop-least.values ++ z) (sym c.in-Some.ensures.union) ∙ c.loop-least.invariant.merged);
    }

pub returns : goal.returns
returns c = sym (append-nil c.loop-least.values) ∙ ap (λ z. c.loop-least.values ++ z) (sym c.in_default.ensures.union) ∙ c.loop-least.invariant.merged
