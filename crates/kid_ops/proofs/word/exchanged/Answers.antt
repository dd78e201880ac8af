use Rattle.std.proofs.Common.{◌+◌, ◌∷◌, [], ◌++◌, map, drop, ap, ◌∙◌}
use Rattle.std.proofs.lemmas.List.{take_rest}
use Rattle.kid_value.specs.ValueView.{plain}
use Rattle.kid_ops.proofs.RowItems.{set-parts}
use Rattle.kid_ops.proofs.word.exchanged.Goals as goal

pub returns : goal.returns
returns c =
    c.in_ok-copy_onto.ensures
    ∙ ap (λ z. c.push.new.self ++ map plain z) (take_rest c.args.items.now (c.args.place + 1))
    ∙ ap (λ z. z ++ map plain (drop (c.args.place + 1) c.args.items.now)) (c.in_ok-push.ensures.ok ∙ ap (λ z. z ++ plain c.args.item ∷ []) c.in_ok-values.ensures)
    ∙ set-parts c.args.items.now c.args.place c.args.item c.requires
