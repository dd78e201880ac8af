use Rattle.std.proofs.Common.{map, ap, ◌∙◌}
use Rattle.std.proofs.lemmas.List.{take_all}
use Rattle.kid_value.specs.ValueView.{plain}
use Rattle.kid_term.specs.PlainTerm.{term_row}
use Rattle.kid_term.specs.Quote.{quote}
use Rattle.kid_term.specs.TermView.{plain_term}
use Rattle.kid_term.proofs.QuoteLemmas.{quotes-row, put-step, put-end, entries_deep}
use Rattle.kid_term.proofs.quotation.+quoted.Goals as goal

pub all_quoted-returns : goal.all_quoted-returns
all_quoted-returns t c =
    let e = take_all c.loop-value.value-index c.args.values.now c.loop-value-test.false in
    ap term_row (c.loop-value.invariant.made ∙ ap (map (λ v. quote (plain v))) e) ∙ quotes-row c.args.values.now

pub all_put-loop-entry-preserved : goal.all_put-loop-entry-preserved
all_put-loop-entry-preserved t c = record {
  told = put-step (plain_term c.loop-entry.map) (plain_term c.in_ok-map.map) (plain_term c.in_ok-key.key) (plain_term c.in_ok-value.value) _ c.args.entries.now c.loop-entry.entry-index c.entry-item.result
      c.loop-entry-test.true c.entry-item.is c.in_ok-key.ensures c.in_ok-value.ensures c.in_ok-map.ensures c.loop-entry.invariant.told;
  deep = entries_deep c.args.entries.now c.loop-entry.entry-index c.entry-item.result _ c.loop-entry-test.true c.entry-item.is c.loop-entry.invariant.deep;
}

pub all_put-returns : goal.all_put-returns
all_put-returns t c = put-end _ _ c.args.entries.now c.loop-entry.entry-index c.loop-entry-test.false c.loop-entry.invariant.told
