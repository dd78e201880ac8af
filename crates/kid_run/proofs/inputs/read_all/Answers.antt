use Rattle.std.proofs.Common.{arith}
use Rattle.kid_sexp.proofs.Sizes.{trees_fit}
use Rattle.kid_run.proofs.inputs.read_all.Goals as goal

pub inputs_from-requires : goal.inputs_from-requires
inputs_from-requires c =
    let l = trees_fit c.args.bytes.now c.in-Ok.forest c.as_slice.result.now 4194304 c.in-Ok.ensures.found c.as_slice.ensures (omega arith) in
    omega arith
