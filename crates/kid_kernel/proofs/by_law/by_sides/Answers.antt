use Rattle.std.proofs.Common.{map, length, sym, ap, ◌∙◌}
use Rattle.std.proofs.lemmas.List.{length-map}
use Rattle.kid_value.specs.NameView.{plain_name}
use Rattle.kid_term.specs.TermView.{plain_term}
use Rattle.kid_kernel.proofs.StatedLemmas.{as_many}
use Rattle.kid_kernel.proofs.by_law.by_sides.Goals as goal

pub filled-requires : goal.filled-requires
filled-requires c =
    sym (length-map c.items-in-Ok-Some.result.now plain_term) ∙ ap length c.items-in-Ok-Some.ensures
    ∙ as_many (map plain_name c.items.result.now) (plain_term c.args.from.now) (map plain_term c.items-2.result.now) (plain_term c.args.term.now) c.in-Ok-Some.terms (sym c.in-Ok-Some.ensures ∙ c.in-Ok-Some.field-0-is)
    ∙ ap length c.items.ensures
