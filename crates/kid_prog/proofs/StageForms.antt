-- What a form of a program is where a stage takes it.
use Rattle.std.proofs.Common.{◌≡◌, ℕ, ℤ, Result, Bool, true, false, List, ◌++◌, Option, Some, None, Ok, Err, refl, sym, ap, ◌∙◌, arith}
use Rattle.std.specs.Prelude.{pos, negsuc, ◌&&◌, ◌||◌, nat_lt, nat_le, length, if◌then◌else◌, codes}
use Rattle.std.specs.List.{list_all}
use Rattle.std.specs.Ordering.{int_eq}
use Rattle.std.proofs.lemmas.Bool.Decides.{Decides-int_eq}
use Rattle.kid_sexp.specs.Plain.{Plain, Plains, atom, list, none, more, one}
use Rattle.kid_value.specs.PlainSort.{PlainSort, bools}
use Rattle.kid_value.specs.SortLimits.{is_allowed}
use Rattle.kid_value.proofs.SortLemmas.{and_parts, and_both}
use Rattle.kid_term.specs.Names.{Names}
use Rattle.kid_term.specs.PlainSpec.{is_count}
use Rattle.kid_term.specs.PlainTerm.{PlainTerm}
use Rattle.kid_term.specs.Sorting.{sort_of}
use Rattle.kid_sorting.specs.Declaring.{are_allowed, is_truth}
use Rattle.kid_term.specs.PlainSignature.{PlainSignature}
use Rattle.kid_codec.specs.Reading.{◌>>=◌}
use Rattle.kid_codec.specs.Shape.{form, single}
use Rattle.kid_codec.specs.SortSpelling.{number_tree, headed, spelled_number}
use Rattle.kid_codec.specs.TermSpelling.{term_spelling, is_spelled_term, spelled_term}
use Rattle.kid_codec.proofs.Found.{both_some, bind_some, number_from}
use Rattle.kid_codec.proofs.ShapeTold.{form_told, single_told}
use Rattle.kid_codec.proofs.TermTold.{term_told}
use Rattle.kid_codec.specs.NamedValues.{term_has_tags}
use Rattle.kid_prog.specs.Formats.{format_number, may_stand}
use Rattle.kid_prog.specs.Tags.{name_has_tags, names_have_tags, stmts_have_tags, search_has_tags}
use Rattle.kid_prog.specs.PlainStmt.{PlainStmts}
use Rattle.kid_prog.specs.Rules.{obey}
use Rattle.kid_prog.specs.Spelling.{named_spelling, names_spelling, format_spelling, first_spelling, stmt_spellings, is_spelled_name, are_spelled_stmts}
use Rattle.kid_prog.specs.StmtShape.{spelled_stmts}
use Rattle.kid_prog.specs.Forms.{names_list, version_of, version_form, named_form, is_undeclared, are_undeclared, input_form, require_form, output_form, counted, first_form, first_names, if_proper, known_parameters, setting, main_sorted, main_form, search_parts, search_sorted, search_form}
use Rattle.kid_prog.specs.declared.fault.LoadCode.{LoadCode}
use Rattle.kid_prog.specs.declared.fault.LoadCode.TheVariants as code
use Rattle.kid_prog.specs.declared.format.Format.{Format}
use Rattle.kid_prog.specs.declared.format.Format.TheVariants.{One, Two}
use Rattle.kid_prog.proofs.Casts.{sorted_casts, truth_sorted}
use Rattle.kid_prog.proofs.FormTold.{named_told, names_list_told}
use Rattle.kid_prog.proofs.Obeyed.{obey_casts}
use Rattle.kid_prog.proofs.Stages.{judged_ok}
use Rattle.kid_prog.proofs.Standing.{stand_parts}
use Rattle.kid_prog.proofs.StmtTold.{stmts_told}

equal_ints : (m n : ℤ) → int_eq m n ≡ true → m ≡ n
equal_ints m n p = grind (arith, Decides-int_eq)

-- a format that is handed on
abbrev in_format : Format → Result Format LoadCode
in_format f = Ok f

version_found : (o : Option ℤ) (f : Format) → version_of o ≡ in_format f → o ≡ Some (pos (format_number f))
version_found None f p = cc
version_found (Some n) f p = by (int_eq n (pos 1)) (int_eq n (pos 2)) refl refl p
  where
    by : (b c : Bool) → int_eq n (pos 1) ≡ b → int_eq n (pos 2) ≡ c → (if b then in_format One else (if c then in_format Two else Err code.Version)) ≡ in_format f
        → Some n ≡ Some (pos (format_number f))
    by true c d e p = let same : One ≡ f = cc in ap Some (equal_ints n (pos 1) d) ∙ ap (λ (g : Format). Some (pos (format_number g))) same
    by false true d e p = let same : Two ≡ f = cc in ap Some (equal_ints n (pos 2) e) ∙ ap (λ (g : Format). Some (pos (format_number g))) same
    by false false d e p = cc

number_told : (t : Plain) (n : ℤ) → spelled_number t ≡ Some n → t ≡ number_tree n
number_told (atom w) n p = ap atom (number_from w n p).0
number_told (list ts) n p = cc

pub version_told : (t : Plain) (f : Format) → version_form t ≡ Ok f → t ≡ format_spelling f
version_told t f p =
    let number = pos (format_number f) in
    let whole = version_found (form (codes "program") t >>= single >>= spelled_number) f p in
    let n = bind_some (form (codes "program") t >>= single) spelled_number number whole in
    let s = bind_some (form (codes "program") t) single n.0 n.1 in
    form_told (codes "program") t s.0 s.1 ∙ ap (headed (codes "program")) (single_told s.0 n.0 s.2 ∙ ap one (number_told n.0 number n.2))

-- a name with its sort that a form holds
pub record NameTold (f : Format) (word : List ℕ) (t : Plain) (n : List ℕ × PlainSort) : Type 0 where
  pub tree : t ≡ headed word (named_spelling n)
  pub spelled : is_spelled_name n ≡ true
  pub stands : may_stand f (name_has_tags n) ≡ true

pub input_told : (f : Format) (s : PlainSignature) (t : Plain) (n : List ℕ × PlainSort) → input_form f s t ≡ Ok n → NameTold f (codes "input") t n
input_told f s t n p =
    let r = judged_ok (λ (m : List ℕ × PlainSort). may_stand f (name_has_tags m) && is_undeclared s m.0 && nat_lt (length s.inputs) 16)
    (λ (m : List ℕ × PlainSort). is_allowed m.1) (named_form (codes "input") t) n p in
    let a = and_parts (may_stand f (name_has_tags n) && is_undeclared s n.0) (nat_lt (length s.inputs) 16) r.1 in
    let k = named_told (codes "input") t n r.0 r.2 in
    record { tree = k.0; spelled = k.1; stands = (and_parts (may_stand f (name_has_tags n)) (is_undeclared s n.0) a.0).0 }

pub output_told : (f : Format) (s : PlainSignature) (t : Plain) (n : List ℕ × PlainSort) → output_form f s t ≡ Ok n → NameTold f (codes "output") t n
output_told f s t n p =
    let r = judged_ok (λ (m : List ℕ × PlainSort). may_stand f (name_has_tags m) && is_undeclared s m.0) (λ (m : List ℕ × PlainSort). is_allowed m.1) (named_form (codes "output") t) n p in
    let k = named_told (codes "output") t n r.0 r.2 in
    record { tree = k.0; spelled = k.1; stands = (and_parts (may_stand f (name_has_tags n)) (is_undeclared s n.0) r.1).0 }

-- a number that is handed on
abbrev given : ℕ → Result ℕ LoadCode
given n = Ok n

count_found : (o : Option ℤ) (n : ℕ) → counted o ≡ given n → (o ≡ Some (pos n)) × (is_count n ≡ true)
count_found None n p = cc
count_found (Some (pos m)) n p = by (nat_le 1 m && nat_le m 1000000) refl p
  where
    by : (b : Bool) → is_count m ≡ b → (if b then given m else Err code.Form) ≡ given n → (Some (pos m) ≡ Some (pos n)) × (is_count n ≡ true)
    by true e p = let same : m ≡ n = cc in (ap (λ (k : ℕ). Some (pos k)) same, ap is_count (sym same) ∙ e)
    by false e p = cc
count_found (Some (negsuc m)) n p = cc

pub first_told : (t : Plain) (n : ℕ) → first_form t ≡ Ok n → (t ≡ first_spelling n) × (is_count n ≡ true)
first_told t n p =
    let whole = count_found (form (codes "first") t >>= single >>= spelled_number) n p in
    let m = bind_some (form (codes "first") t >>= single) spelled_number (pos n) whole.0 in
    let s = bind_some (form (codes "first") t) single m.0 m.1 in
    (form_told (codes "first") t s.0 s.1 ∙ ap (headed (codes "first")) (single_told s.0 m.0 s.2 ∙ ap one (number_told m.0 (pos n) m.2)), whole.1)

pub record RequireTold (f : Format) (s : PlainSignature) (t : Plain) (c : PlainTerm) : Type 0 where
  pub stands : may_stand f (term_has_tags c) ≡ true
  pub tree : t ≡ headed (codes "require") (one (term_spelling c))
  pub spelled : is_spelled_term c ≡ true
  pub sorted : sort_of s.definitions s.inputs c ≡ Ok bools

pub require_told : (f : Format) (s : PlainSignature) (t : Plain) (c : PlainTerm) → require_form f s t ≡ Ok c → RequireTold f s t c
require_told f s t c p =
    let r = judged_ok (λ (d : PlainTerm). may_stand f (term_has_tags d)) (λ (d : PlainTerm). is_truth (sort_of s.definitions s.inputs d)) (form (codes "require") t >>= single >>= spelled_term) c p in
    let n = bind_some (form (codes "require") t >>= single) spelled_term c r.0 in
    let o = bind_some (form (codes "require") t) single n.0 n.1 in
    let sorted = truth_sorted (sort_of s.definitions s.inputs c) r.2 in
    let k = term_told n.0 c n.2 (sorted_casts s.definitions s.inputs c bools sorted) in
    record {
      stands = r.1;
      tree = form_told (codes "require") t o.0 o.1 ∙ ap (headed (codes "require")) (single_told o.0 n.0 o.2 ∙ ap one k.tree);
      spelled = k.spelled;
      sorted = sorted;
    }

pub record MainTold (f : Format) (s : PlainSignature) (a : PlainSort) (parameters : Option Names) (t : Plain) (main : PlainStmts) : Type 0 where
  pub stands : may_stand f (stmts_have_tags main) ≡ true
  pub tree : t ≡ headed (codes "main") (stmt_spellings main)
  pub spelled : are_spelled_stmts main ≡ true
  pub obeys : obey (setting s.definitions a parameters) s.inputs main ≡ true

pub main_told : (f : Format) (s : PlainSignature) (a : PlainSort) (parameters : Option Names) (t : Plain) (main : PlainStmts) → main_form f s a parameters t ≡ Ok main → MainTold f s a parameters t main
main_told f s a parameters t main p =
    let g = setting s.definitions a parameters in
    let r = judged_ok (λ (ss : PlainStmts). may_stand f (stmts_have_tags ss)) (main_sorted s a parameters) (form (codes "main") t >>= spelled_stmts) main p in
    let n = bind_some (form (codes "main") t) spelled_stmts main r.0 in
    let k = stmts_told n.0 main n.2 (obey_casts g s.inputs main r.2) in
    record { stands = r.1; tree = form_told (codes "main") t n.0 n.1 ∙ ap (headed (codes "main")) k.trees; spelled = k.spelled; obeys = r.2 }

parts_found : (us : Plains) (search : Names × PlainStmts) → search_parts us ≡ Some search
    → (a : Plain) × (rest : Plains) × (us ≡ more a rest) × (names_list a ≡ Some search.0) × (spelled_stmts rest ≡ Some search.1)
parts_found none search p = cc
parts_found (more a rest) search p =
    let made : Names → PlainStmts → Names × PlainStmts = λ ns ss. (ns, ss) in
    let m = both_some made (names_list a) (spelled_stmts rest) search p in
    let is : (m.0, m.1) ≡ search = m.4 in
    (a, rest, refl, m.2 ∙ ap (λ (q : Names × PlainStmts). Some q.0) is, m.3 ∙ ap (λ (q : Names × PlainStmts). Some q.1) is)

proper : (f : Format) (s : PlainSignature) (output : List ℕ × PlainSort) (ns : Names) → may_stand f (names_have_tags ns) ≡ true → are_undeclared s output ns ≡ true → are_allowed ns ≡ true
    → if_proper f s output ns ≡ Some ns
proper f s output ns p q r =
    ap (λ (b : Bool). if b then Some ns else None)
    (and_both (may_stand f (names_have_tags ns) && are_undeclared s output ns) (are_allowed ns) (and_both (may_stand f (names_have_tags ns)) (are_undeclared s output ns) p q) r)

pub record SearchTold (f : Format) (s : PlainSignature) (output : List ℕ × PlainSort) (t : Plain) (search : Names × PlainStmts) : Type 0 where
  pub stands : may_stand f (search_has_tags search) ≡ true
  pub tree : t ≡ headed (codes "search") (more (list (names_spelling search.0)) (stmt_spellings search.1))
  pub parameters : list_all is_spelled_name search.0 ≡ true
  pub spelled : are_spelled_stmts search.1 ≡ true
  -- main sees these parameters
  pub known : known_parameters f s output (one t) ≡ Some search.0
  pub obeys : obey (setting s.definitions output.1 (Some search.0)) (search.0 ++ s.inputs) search.1 ≡ true

pub search_told : (f : Format) (s : PlainSignature) (output : List ℕ × PlainSort) (t : Plain) (search : Names × PlainStmts) → search_form f s output t ≡ Ok search → SearchTold f s output t search
search_told f s output t search p =
    let r = judged_ok (λ (q : Names × PlainStmts). may_stand f (search_has_tags q) && are_undeclared s output q.0) (search_sorted s output.1) (form (codes "search") t >>= search_parts) search p in
    let stands = and_parts (may_stand f (search_has_tags search)) (are_undeclared s output search.0) r.1 in
    let parameters = stand_parts f (names_have_tags search.0) (stmts_have_tags search.1) stands.0 in
    let n = bind_some (form (codes "search") t) search_parts search r.0 in
    let m = parts_found n.0 search n.2 in
    let g = setting s.definitions output.1 (Some search.0) in
    let o = and_parts (are_allowed search.0) (obey g (search.0 ++ s.inputs) search.1) r.2 in
    let j = names_list_told m.0 search.0 m.3 o.0 in
    let k = stmts_told m.1 search.1 m.4 (obey_casts g (search.0 ++ s.inputs) search.1 o.1) in
    let d = j.0 in
    let e = k.trees in
    record {
      stands = stands.0;
      tree = form_told (codes "search") t n.0 n.1 ∙ ap (headed (codes "search")) (m.2 ∙ (λ i. more (d i) (e i)));
      parameters = j.1;
      spelled = k.spelled;
      known = ap (λ (o : Option Plains). o >>= first_names >>= if_proper f s output) (n.1 ∙ ap Some m.2)
          ∙ ap (λ (o : Option Names). o >>= if_proper f s output) m.3 ∙ proper f s output search.0 parameters.0 stands.1 o.0;
      obeys = o.1;
    }
