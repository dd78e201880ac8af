use Rattle.std.proofs.Common.{ap, arith, length}
use Rattle.std.proofs.lemmas.List.{length-map}
use Rattle.kid_value.specs.ValueView.{plain, plain_entry}
use Rattle.kid_codec.proofs.Puts.{with_entry-none, with_entry-some}
use Rattle.kid_codec.proofs.value.add_entry.Goals as goal

pub returns-then-len-known : goal.returns-then-len-known
returns-then-len-known c =
    with_entry-none c.args.entries.now c.put.new.self (plain c.args.entry.0) (plain c.args.entry.1) c.items-known.ensures.ascends c.in_ok-put.ensures.ok
    (omega (arith, ap length c.items-known.ensures.items, length-map c.items-known.result.now plain_entry, c.len.ensures, c.if-len-known.true))

pub returns : goal.returns
returns c =
    with_entry-some c.args.entries.now c.put.new.self (plain c.args.entry.0) (plain c.args.entry.1) c.items-known.ensures.ascends c.in_ok-put.ensures.ok
    (omega (arith, ap length c.items-known.ensures.items, length-map c.items-known.result.now plain_entry, c.len.ensures, c.if-len-known.false))
