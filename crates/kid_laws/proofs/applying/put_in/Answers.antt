use Rattle.kid_laws.proofs.SpellLemmas.{put_row}
use Rattle.kid_laws.proofs.applying.put_in.Goals as goal

pub returns : goal.returns
returns c = put_row c.args.pairs.now c.args.row.now c.args.side.now _ _ c.in_ok-conditions.ensures c.in_ok-term.ensures
