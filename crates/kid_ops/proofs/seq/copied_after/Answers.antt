use Rattle.std.proofs.Common.{◌≡◌, IfOk, subst, sym, ap, ◌∙◌, map, drop}
use Rattle.std.proofs.lemmas.List.{drop-map}
use Rattle.kid_value.specs.ValueView.{plain}
use Rattle.kid_ops.proofs.seq.copied_after.Goals as goal

pub returns : goal.returns
returns c =
    subst (λ z. IfOk c.copied.result (λ v. v ≡ z))
    (ap (map plain) c.after.ensures ∙ sym (drop-map plain c.args.count c.items.result.now) ∙ ap (drop c.args.count) c.items.ensures.items)
    c.copied.ensures
