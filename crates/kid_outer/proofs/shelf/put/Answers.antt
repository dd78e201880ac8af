use Rattle.std.proofs.Common.{◌≡◌, true, Some, None, ap, ◌∙◌, arith}
use Rattle.std.proofs.lemmas.List.Quantifiers.{position-Some}
use Rattle.std.specs.List.{position}
use Rattle.std.specs.Str.{bytes_eq}
use Rattle.kid_outer.specs.declared.shelf.File.{File}
use Rattle.kid_outer.proofs.Shelves.{shelved-set, shelved-push, passed_all}
use Rattle.kid_outer.proofs.shelf.put.Goals as goal

pub returns-in-Some-clause-ok : goal.returns-in-Some-clause-ok
returns-in-Some-clause-ok c =
    let is_name = λ (file : File). bytes_eq file.name c.args.name.now in
    let found : position is_name c.args.files.now.items ≡ Some c.in-Some.at = cc in
    let first = position-Some is_name c.args.files.now.items c.in-Some.at c.index_mut.result.now found in
    let same : bytes_eq c.index_mut.result.now.name c.args.name.now ≡ true = ap is_name c.index_mut.ensures.value ∙ first.1 in
    rw c.in_ok-bytes.ensures (shelved-set c.args.name.now c.args.bytes.now c.args.files.now.items c.in-Some.at c.index_mut.result.now
    first.0 c.index_mut.ensures.value same first.2)

pub returns-clause-ok : goal.returns-clause-ok
returns-clause-ok c =
    let is_name = λ (file : File). bytes_eq file.name c.args.name.now in
    let absent : position is_name c.args.files.now.items ≡ None = grind arith in
    rw (c.in_ok-push.ensures.items, c.in_ok-name.ensures, c.in_ok-bytes.ensures)
    (shelved-push c.args.name.now c.args.bytes.now c.args.files.now.items (passed_all c.args.name.now c.args.files.now.items absent))
