use Rattle.std.proofs.Common.{arith}
use Rattle.kid_sexp.proofs.Sizes.{trees_fit}
use Rattle.kid_theory.proofs.reader.read_file.Goals as goal

pub file_from-requires : goal.file_from-requires
file_from-requires c =
    let l = trees_fit c.args.bytes.now c.in-Ok.forest c.as_slice.result.now 4194304 c.in-Ok.ensures.found c.as_slice.ensures (omega arith) in
    omega arith
