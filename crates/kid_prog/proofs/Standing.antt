-- What may stand in a file of a format.
use Rattle.std.proofs.Common.{◌≡◌, Bool, true, false, refl}
use Rattle.std.specs.Prelude.{◌||◌}
use Rattle.std.specs.List.{list_any}
use Rattle.kid_codec.specs.NamedValues.{sort_has_tags, term_has_tags}
use Rattle.kid_prog.specs.Formats.{may_stand, format_for}
use Rattle.kid_prog.specs.PlainProgram.{PlainProgram}
use Rattle.kid_prog.specs.Tags.{names_have_tags, definition_has_tags, stmts_have_tags, search_has_tags, program_has_tags}
use Rattle.kid_prog.specs.declared.format.Format.{Format}
use Rattle.kid_prog.specs.declared.format.Format.TheVariants.{One, Two}

pub stand_parts : (f : Format) (b c : Bool) → may_stand f (b || c) ≡ true → (may_stand f b ≡ true) × (may_stand f c ≡ true)
stand_parts One false c h = (refl, h)
stand_parts One true c h = cc
stand_parts Two b c h = (refl, refl)

pub stand_both : (f : Format) (b c : Bool) → may_stand f b ≡ true → may_stand f c ≡ true → may_stand f (b || c) ≡ true
stand_both One false c h k = k
stand_both One true c h k = cc
stand_both Two b c h k = refl

pub stands_there : (b : Bool) → may_stand (format_for b) b ≡ true
stands_there true = refl
stands_there false = refl

-- what it is for a program to stand there, part by part
pub record Stands (f : Format) (p : PlainProgram) : Type 0 where
  pub definitions : may_stand f (list_any definition_has_tags p.definitions) ≡ true
  pub inputs : may_stand f (names_have_tags p.inputs) ≡ true
  pub condition : may_stand f (term_has_tags p.condition) ≡ true
  pub sort : may_stand f (sort_has_tags p.sort) ≡ true
  pub main : may_stand f (stmts_have_tags p.main) ≡ true
  pub search : may_stand f (search_has_tags (p.parameters, p.search)) ≡ true

pub stands_parts : (f : Format) (p : PlainProgram) → may_stand f (program_has_tags p) ≡ true → Stands f p
stands_parts f p h =
    let a = stand_parts f _ (search_has_tags (p.parameters, p.search)) h in
    let b = stand_parts f _ (stmts_have_tags p.main) a.0 in
    let c = stand_parts f _ (sort_has_tags p.sort) b.0 in
    let d = stand_parts f _ (term_has_tags p.condition) c.0 in
    let e = stand_parts f (list_any definition_has_tags p.definitions) (names_have_tags p.inputs) d.0 in
    record { definitions = e.0; inputs = e.1; condition = d.1; sort = c.1; main = b.1; search = a.1 }

pub stands_whole : (f : Format) (p : PlainProgram) → Stands f p → may_stand f (program_has_tags p) ≡ true
stands_whole f p s =
    stand_both f _ (search_has_tags (p.parameters, p.search))
    (stand_both f _ (stmts_have_tags p.main)
    (stand_both f _ (sort_has_tags p.sort)
    (stand_both f _ (term_has_tags p.condition)
    (stand_both f (list_any definition_has_tags p.definitions) (names_have_tags p.inputs) s.definitions s.inputs) s.condition) s.sort) s.main) s.search
