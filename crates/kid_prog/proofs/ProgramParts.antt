-- What it is for a program to have a spelling, part by part.
use Rattle.std.proofs.Common.{◌≡◌, true}
use Rattle.std.specs.List.{list_all}
use Rattle.kid_value.proofs.SortLemmas.{and_parts, and_both}
use Rattle.kid_term.specs.PlainSpec.{is_wanted}
use Rattle.kid_codec.specs.TermSpelling.{is_spelled_term}
use Rattle.kid_prog.specs.PlainProgram.{PlainProgram}
use Rattle.kid_prog.specs.Spelling.{is_spelled_name, is_spelled_definition, are_spelled_stmts, is_spelled_program}

pub record IsSpelled (p : PlainProgram) : Type 0 where
  pub definitions : list_all is_spelled_definition p.definitions ≡ true
  pub inputs : list_all is_spelled_name p.inputs ≡ true
  pub condition : is_spelled_term p.condition ≡ true
  pub output : is_spelled_name (p.output, p.sort) ≡ true
  pub wanted : is_wanted p.first ≡ true
  pub main : are_spelled_stmts p.main ≡ true
  pub parameters : list_all is_spelled_name p.parameters ≡ true
  pub search : are_spelled_stmts p.search ≡ true

pub spelled_parts : (p : PlainProgram) → is_spelled_program p ≡ true → IsSpelled p
spelled_parts p h =
    let a = and_parts _ (are_spelled_stmts p.search) h in
    let b = and_parts _ (list_all is_spelled_name p.parameters) a.0 in
    let c = and_parts _ (are_spelled_stmts p.main) b.0 in
    let d = and_parts _ (is_wanted p.first) c.0 in
    let e = and_parts _ (is_spelled_name (p.output, p.sort)) d.0 in
    let f = and_parts _ (is_spelled_term p.condition) e.0 in
    let g = and_parts (list_all is_spelled_definition p.definitions) (list_all is_spelled_name p.inputs) f.0 in
    record { definitions = g.0; inputs = g.1; condition = f.1; output = e.1; wanted = d.1; main = c.1; parameters = b.1; search = a.1 }

pub spelled_whole : (p : PlainProgram) → IsSpelled p → is_spelled_program p ≡ true
spelled_whole p s =
    and_both _ (are_spelled_stmts p.search)
    (and_both _ (list_all is_spelled_name p.parameters)
    (and_both _ (are_spelled_stmts p.main)
    (and_both _ (is_wanted p.first)
    (and_both _ (is_spelled_name (p.output, p.sort))
    (and_both _ (is_spelled_term p.condition)
    (and_both (list_all is_spelled_definition p.definitions) (list_all is_spelled_name p.inputs) s.definitions s.inputs) s.condition) s.output) s.wanted) s.main) s.parameters) s.search
