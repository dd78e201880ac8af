-- What is read as a line was spelled so, and a line that has a spelling is read back.
use Rattle.std.proofs.Common.{◌≡◌, inl, inr, ℕ, Bool, true, false, List, [], ◌∷◌, Some, None, refl, sym, ap, ◌∙◌, subst}
use Rattle.std.specs.Prelude.{pos, ◌&&◌, option_map, if◌then◌else◌, codes}
use Rattle.std.specs.List.{list_all}
use Rattle.std.specs.Str.{bytes_eq}
use Rattle.kid_sexp.specs.Plain.{Plain, Plains, list, none, more, one, atom}
use Rattle.kid_value.specs.SortOrder.{both}
use Rattle.kid_value.proofs.SortLemmas.{and_parts, and_both}
use Rattle.kid_term.specs.PlainTerm.{PlainTerm}
use Rattle.kid_codec.specs.Reading.{◌>>=◌}
use Rattle.kid_codec.specs.Shape.{couple}
use Rattle.kid_codec.specs.SortSpelling.{headed}
use Rattle.kid_codec.proofs.Found.{same_some, if_some, if_else, mapped, both_some, bind_some}
use Rattle.kid_codec.proofs.Numbers.{bytes_eq-true}
use Rattle.kid_codec.proofs.ShapeTold.{couple_told}
use Rattle.kid_moves.specs.PlainRule.{PlainLine}
use Rattle.kid_lines.specs.LineAnswers.{LinesAreRead}
use Rattle.kid_lines.specs.LineReading.{spelled_indexes, spelled_path, line_of_parts, placed, line_by, spelled_line, spelled_lines}
use Rattle.kid_lines.specs.LineSpelling.{index_spellings, side_word, line_spelling, line_spellings, is_spelled_line, SpellsLine}
use Rattle.kid_lines.specs.RuleReading.{Ruled, headed_parts, spelled_index, spelled_rule}
use Rattle.kid_lines.specs.RuleSpelling.{is_index, is_spelled_rule, rule_spelling}
use Rattle.kid_lines.proofs.RulesRead.{index_told, index_back, headed_told, rule_told, rule_back}

indexes_told : (ts : Plains) (ns : List ℕ) → spelled_indexes ts ≡ Some ns → (ts ≡ index_spellings ns) × (list_all is_index ns ≡ true)
indexes_told none ns e = let is = same_some [] ns e in (ap index_spellings is, ap (list_all is_index) (sym is))
indexes_told (more t ts) ns e =
    let m = bind_some (spelled_index t) (λ (n : ℕ). option_map (λ (l : List ℕ). n ∷ l) (spelled_indexes ts)) ns e in
    let n : ℕ = m.0 in
    let k = mapped (λ (l : List ℕ). n ∷ l) (spelled_indexes ts) ns m.2 in
    let rest : List ℕ = k.0 in
    let is : n ∷ rest ≡ ns = k.2 in
    let f = index_told t n m.1 in
    let g = indexes_told ts rest k.1 in
    let c = f.0 in
    let d = g.0 in
    ((λ i. more (c i) (d i)) ∙ ap index_spellings is, ap (list_all is_index) (sym is) ∙ and_both (is_index n) (list_all is_index rest) f.1 g.1)

indexes_back : (ns : List ℕ) → list_all is_index ns ≡ true → spelled_indexes (index_spellings ns) ≡ Some ns
indexes_back [] h = refl
indexes_back (n ∷ ns) h =
    let r = and_parts (is_index n) (list_all is_index ns) h in
    let c = index_back n r.0 in
    let d = indexes_back ns r.1 in
    λ i. c i >>= λ x. option_map (λ rest. x ∷ rest) (d i)

path_told : (t : Plain) (ns : List ℕ) → spelled_path t ≡ Some ns → (t ≡ list (index_spellings ns)) × (list_all is_index ns ≡ true)
path_told (atom w) ns e = cc
path_told (list ts) ns e = let k = indexes_told ts ns e in (ap list k.0, k.1)

placed_told : (back : Bool) (ts : Plains) (l : PlainLine) → placed back ts ≡ Some l → SpellsLine (headed (side_word back) ts) l
placed_told back ts l e =
    let b = bind_some (couple ts) (λ (p : Plain × Plain). both (line_of_parts back) (spelled_path p.0) (spelled_rule p.1)) l e in
    let m = both_some (line_of_parts back) (spelled_path b.0.0) (spelled_rule b.0.1) l b.2 in
    let path : List ℕ = m.0 in
    let ruled : Ruled = m.1 in
    let j = path_told b.0.0 path m.2 in
    let k = rule_told b.0.1 ruled m.3 in
    let c = j.0 in
    let d = k.tree in
    subst (SpellsLine (headed (side_word back) ts)) m.4 (record {
      tree = ap (headed (side_word back)) (couple_told ts b.0 b.1) ∙ (λ i. headed (side_word back) (more (c i) (one (d i))));
      spelled = and_both (list_all is_index path) (is_spelled_rule ruled.0 ruled.1) j.1 k.spelled;
    })

sided_told : (w : List ℕ) (ts : Plains) (l : PlainLine) → line_by w ts ≡ Some l → SpellsLine (headed w ts) l
sided_told w ts l e =
    elim (if_else (bytes_eq w (codes "at")) (placed false ts) (if bytes_eq w (codes "back") then placed true ts else None) l e) [
      | inl q ↦ subst (λ (v : List ℕ). SpellsLine (headed v ts) l) (sym (bytes_eq-true w (codes "at") q.0)) (placed_told false ts l q.1)
      | inr q ↦
          let o = if_some (bytes_eq w (codes "back")) (placed true ts) l q.1 in
          subst (λ (v : List ℕ). SpellsLine (headed v ts) l) (sym (bytes_eq-true w (codes "back") o.0)) (placed_told true ts l o.1)
    ]

pub line_told : (t : Plain) (l : PlainLine) → spelled_line t ≡ Some l → SpellsLine t l
line_told t l e =
    let b = bind_some (headed_parts t) (λ (q : List ℕ × Plains). line_by q.0 q.1) l e in
    subst (λ (u : Plain). SpellsLine u l) (sym (headed_told t b.0 b.1)) (sided_told b.0.0 b.0.1 l b.2)

parts_back : (back : Bool) (l : PlainLine) → is_spelled_line l ≡ true → placed back (more (list (index_spellings l.path)) (one (rule_spelling l.rule l.args))) ≡ Some (line_of_parts back l.path (l.rule, l.args))
parts_back back l h =
    let p = and_parts (list_all is_index l.path) (is_spelled_rule l.rule l.args) h in
    let c = indexes_back l.path p.0 in
    let d = rule_back l.rule l.args p.1 in
    λ i. both (line_of_parts back) (c i) (d i)

by_side : (back : Bool) (ts : Plains) → spelled_line (headed (side_word back) ts) ≡ placed back ts
by_side true ts = refl
by_side false ts = refl

pub line_back : (l : PlainLine) → is_spelled_line l ≡ true → spelled_line (line_spelling l) ≡ Some l
line_back l h = by_side l.back (more (list (index_spellings l.path)) (one (rule_spelling l.rule l.args))) ∙ parts_back l.back l h

-- a tree that is read as no line spells none
pub line_missed : (t : Plain) → spelled_line t ≡ None → (l : PlainLine) → SpellsLine t l → ⊥
line_missed t h l is = let e = sym h ∙ ap spelled_line is.tree ∙ line_back l is.spelled in cc

pub lines_told : (ts : Plains) (ls : List PlainLine) → spelled_lines ts ≡ Some ls → (ts ≡ line_spellings ls) × (list_all is_spelled_line ls ≡ true)
lines_told none ls e = let is = same_some [] ls e in (ap line_spellings is, ap (list_all is_spelled_line) (sym is))
lines_told (more t ts) ls e =
    let m = bind_some (spelled_line t) (λ (l : PlainLine). option_map (λ (others : List PlainLine). l ∷ others) (spelled_lines ts)) ls e in
    let l : PlainLine = m.0 in
    let k = mapped (λ (others : List PlainLine). l ∷ others) (spelled_lines ts) ls m.2 in
    let rest : List PlainLine = k.0 in
    let is : l ∷ rest ≡ ls = k.2 in
    let f = line_told t l m.1 in
    let g = lines_told ts rest k.1 in
    let c = f.tree in
    let d = g.0 in
    ((λ i. more (c i) (d i)) ∙ ap line_spellings is, ap (list_all is_spelled_line) (sym is) ∙ and_both (is_spelled_line l) (list_all is_spelled_line rest) f.spelled g.1)

pub lines_back : (ls : List PlainLine) → list_all is_spelled_line ls ≡ true → spelled_lines (line_spellings ls) ≡ Some ls
lines_back [] h = refl
lines_back (l ∷ ls) h =
    let r = and_parts (is_spelled_line l) (list_all is_spelled_line ls) h in
    let c = line_back l r.0 in
    let d = lines_back ls r.1 in
    λ i. c i >>= λ x. option_map (λ rest. x ∷ rest) (d i)

pub lines_read : LinesAreRead
lines_read = record { told = line_told; back = line_back }
