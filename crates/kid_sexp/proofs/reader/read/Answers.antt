use Rattle.kid_sexp.proofs.Spelled.{read-found, reading-spelled, spelled-reading}
use Rattle.kid_sexp.proofs.Faults.{reading-faulty, read-only, read-bad_byte, read-deep, read-deep_only, read-unbalanced, read-unbalanced_only}
use Rattle.kid_sexp.proofs.Printed.{read-printable}
use Rattle.kid_sexp.proofs.reader.read.Goals as goal

pub returns-clause-found : goal.returns-clause-found
returns-clause-found c = read-found c.args.bytes.now c.read_exactly.result c.read_exactly.ensures.gives

pub returns-clause-only : goal.returns-clause-only
returns-clause-only c = read-only c.args.bytes.now c.read_exactly.result c.read_exactly.ensures.gives

pub returns-clause-bad_byte : goal.returns-clause-bad_byte
returns-clause-bad_byte c = λ at.
    (read-bad_byte c.args.bytes.now c.read_exactly.result c.read_exactly.ensures.gives at, c.read_exactly.ensures.bad_byte at)

pub returns-clause-deep : goal.returns-clause-deep
returns-clause-deep c = read-deep c.args.bytes.now c.read_exactly.result c.read_exactly.ensures.gives

pub returns-clause-deep_only : goal.returns-clause-deep_only
returns-clause-deep_only c = read-deep_only c.args.bytes.now c.read_exactly.result c.read_exactly.ensures.gives

pub returns-clause-unbalanced : goal.returns-clause-unbalanced
returns-clause-unbalanced c = read-unbalanced c.args.bytes.now c.read_exactly.result c.read_exactly.ensures.gives

pub returns-clause-unbalanced_only : goal.returns-clause-unbalanced_only
returns-clause-unbalanced_only c = read-unbalanced_only c.args.bytes.now c.read_exactly.result c.read_exactly.ensures.gives

pub returns-clause-spelled : goal.returns-clause-spelled
returns-clause-spelled c = λ forest. (reading-spelled c.args.bytes.now forest, spelled-reading c.args.bytes.now forest)

pub returns-clause-printable : goal.returns-clause-printable
returns-clause-printable c = read-printable c.args.bytes.now c.read_exactly.result c.read_exactly.ensures.gives

pub returns-clause-faulty : goal.returns-clause-faulty
returns-clause-faulty c = reading-faulty c.args.bytes.now
