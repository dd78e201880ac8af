use Rattle.std.proofs.Common.{◌<◌, ◌≤◌, length, vec_items}
use Rattle.std.specs.Io.KnownBytes.{Consumes}
use Rattle.kid_outer.proofs.bounded.read_within.Given as goal

-- all that was taken so far was kept, and is no more than the limit
abbrev pub invariant-loop : goal.invariant-loop
invariant-loop g l = record {
  short : length (vec_items l.bytes) ≤ l.limit;
  room : 0 < length (vec_items l.room);
  taken : Consumes (g.R.Read.remaining l.initial.reader) (g.R.Read.remaining l.reader) (vec_items l.bytes);
}
