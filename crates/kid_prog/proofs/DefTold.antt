-- A tree that has the shape of a definition is the tree of that definition.
use Rattle.std.proofs.Common.{◌≡◌, ℕ, true, List, Some, Ok, Err, refl, sym, ap, ◌∙◌, subst}
use Rattle.std.specs.Prelude.{◌&&◌, codes}
use Rattle.std.specs.List.{list_all}
use Rattle.kid_sexp.specs.Plain.{Plain, Plains, atom, list, more, one}
use Rattle.kid_value.specs.PlainSort.{PlainSort}
use Rattle.kid_value.specs.SortOrder.{both}
use Rattle.kid_value.specs.SortLimits.{is_allowed}
use Rattle.kid_value.proofs.SortLemmas.{and_parts, and_both}
use Rattle.kid_term.specs.Names.{Names, PlainDef}
use Rattle.kid_term.specs.PlainTerm.{PlainTerm}
use Rattle.kid_term.specs.Sorted.{Sorted}
use Rattle.kid_term.specs.Sorting.{sort_of}
use Rattle.kid_sorting.specs.Declaring.{are_allowed, is_within, is_sorted_definition}
use Rattle.kid_codec.specs.Name.{is_name}
use Rattle.kid_codec.specs.Reading.{◌>>=◌}
use Rattle.kid_codec.specs.Shape.{form, quadruple}
use Rattle.kid_codec.specs.SortSpelling.{headed, sort_spelling, is_spelled_sort, spelled_sort}
use Rattle.kid_codec.specs.NameSpelling.{spelled_name}
use Rattle.kid_codec.specs.TermSpelling.{term_spelling, is_spelled_term, spelled_term}
use Rattle.kid_codec.proofs.Found.{both_some, bind_some}
use Rattle.kid_codec.proofs.SortTold.{sort_whole}
use Rattle.kid_codec.proofs.ShapeTold.{form_told, quadruple_told}
use Rattle.kid_codec.proofs.TermTold.{name_told, term_told}
use Rattle.kid_prog.specs.Formats.{may_stand}
use Rattle.kid_prog.specs.Tags.{definition_has_tags}
use Rattle.kid_prog.specs.declared.format.Format.{Format}
use Rattle.kid_prog.specs.Forms.{names_list, definition, def_parts, is_formed_definition, def_form}
use Rattle.kid_prog.specs.Spelling.{names_spelling, definition_spelling, is_spelled_name, is_spelled_definition}
use Rattle.kid_prog.proofs.Casts.{sorted_casts}
use Rattle.kid_prog.proofs.FormTold.{names_list_told}
use Rattle.kid_prog.proofs.Stages.{judged_ok}

-- what stands behind the word of a definition
abbrev parts_spelling : PlainDef → Plains
parts_spelling d = more (atom d.name) (more (list (names_spelling d.parameters)) (more (sort_spelling d.sort) (one (term_spelling d.body))))

record PartsTold (ts : Plains) (d : PlainDef) : Type 0 where
  trees : ts ≡ parts_spelling d
  spelled : is_spelled_definition d ≡ true

sorted_body : (s : PlainSort) (r : Sorted) → is_within s r ≡ true → (a : PlainSort) × (r ≡ Ok a)
sorted_body s (Ok a) h = (a, refl)
sorted_body s (Err fault) h = cc

-- a definition over these, with a name, a list of parameters, a sort and a term that the trees spell
made_told : (defs : List PlainDef) (x l s t : Plain) (f : List ℕ) (ps : Names) (a : PlainSort) (u : PlainTerm)
    → spelled_name x ≡ Some f → names_list l ≡ Some ps → spelled_sort s ≡ Some a → spelled_term t ≡ Some u
    → is_sorted_definition defs (definition f ps a u) ≡ true → PartsTold (more x (more l (more s (one t)))) (definition f ps a u)
made_told defs x l s t f ps a u named listed sorted spelled h =
    let r = and_parts (are_allowed ps && is_allowed a) (is_within a (sort_of defs ps u)) h in
    let q = and_parts (are_allowed ps) (is_allowed a) r.0 in
    let of_body = sorted_body a (sort_of defs ps u) r.1 in
    let i = name_told x f named in
    let j = names_list_told l ps listed q.0 in
    let k = sort_whole s a sorted q.1 in
    let m = term_told t u spelled (sorted_casts defs ps u of_body.0 of_body.1) in
    let b = i.0 in
    let c = j.0 in
    let d = k.0 in
    let e = m.tree in
    record {
      trees = λ z. more (b z) (more (c z) (more (d z) (one (e z))));
      spelled = and_both (is_name f && list_all is_spelled_name ps && is_spelled_sort a) (is_spelled_term u)
          (and_both (is_name f && list_all is_spelled_name ps) (is_spelled_sort a) (and_both (is_name f) (list_all is_spelled_name ps) i.1 j.1) k.1) m.spelled;
    }

parts_told : (defs : List PlainDef) (ts : Plains) (d : PlainDef) → def_parts ts ≡ Some d → is_sorted_definition defs d ≡ true → PartsTold ts d
parts_told defs ts d p h =
    let q = bind_some (quadruple ts) (λ (z : Plain × Plain × Plain × Plain). spelled_name z.0 >>= λ f. names_list z.1 >>= λ ps. both (definition f ps) (spelled_sort z.2) (spelled_term z.3)) d p in
    let x = q.0.0 in
    let l = q.0.1 in
    let s = q.0.2 in
    let t = q.0.3 in
    let f = bind_some (spelled_name x) (λ (f : List ℕ). names_list l >>= λ ps. both (definition f ps) (spelled_sort s) (spelled_term t)) d q.2 in
    let ps = bind_some (names_list l) (λ (ps : Names). both (definition f.0 ps) (spelled_sort s) (spelled_term t)) d f.2 in
    let m = both_some (definition f.0 ps.0) (spelled_sort s) (spelled_term t) d ps.2 in
    let told = made_told defs x l s t f.0 ps.0 m.0 m.1 f.1 ps.1 m.2 m.3 (subst (λ (e : PlainDef). is_sorted_definition defs e ≡ true) (sym m.4) h) in
    subst (PartsTold ts) m.4 (record { trees = quadruple_told ts q.0 q.1 ∙ told.trees; spelled = told.spelled })

pub record DefTold (f : Format) (defs : List PlainDef) (t : Plain) (d : PlainDef) : Type 0 where
  pub stands : may_stand f (definition_has_tags d) ≡ true
  pub tree : t ≡ definition_spelling d
  pub spelled : is_spelled_definition d ≡ true
  pub sorted : is_sorted_definition defs d ≡ true

pub def_told : (f : Format) (defs : List PlainDef) (t : Plain) (d : PlainDef) → def_form f defs t ≡ Ok d → DefTold f defs t d
def_told f defs t d p =
    let r = judged_ok (λ (e : PlainDef). may_stand f (definition_has_tags e) && is_formed_definition defs e) (is_sorted_definition defs) (form (codes "def") t >>= def_parts) d p in
    let n = bind_some (form (codes "def") t) def_parts d r.0 in
    let k = parts_told defs n.0 d n.2 r.2 in
    let stands = (and_parts (may_stand f (definition_has_tags d)) (is_formed_definition defs d) r.1).0 in
    record { stands = stands; tree = form_told (codes "def") t n.0 n.1 ∙ ap (headed (codes "def")) k.trees; spelled = k.spelled; sorted = r.2 }
