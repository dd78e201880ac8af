use Rattle.std.proofs.Common.{arith}
use Rattle.kid_sexp.proofs.Sizes.{trees_fit}
use Rattle.kid_prog.proofs.loader.read_program.Goals as goal

pub program_from-requires : goal.program_from-requires
program_from-requires c =
    let l = trees_fit c.args.bytes.now c.in-Ok.forest c.as_slice.result.now 4194304 c.in-Ok.ensures.found c.as_slice.ensures (omega arith) in
    omega arith
