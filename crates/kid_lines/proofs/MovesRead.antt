-- What is read as a move was spelled so, and a move that has a spelling is read back.
use Rattle.std.proofs.Common.{◌≡◌, inl, inr, ℕ, suc, Bool, true, false, List, [], ◌∷◌, length, Option, Some, None, refl, sym, ap, ◌∙◌, arith, subst}
use Rattle.std.specs.Prelude.{pos, ◌&&◌, ◌==◌, option_map, if◌then◌else◌, codes}
use Rattle.std.specs.List.{list_all}
use Rattle.std.specs.Str.{bytes_eq}
use Rattle.std.proofs.lemmas.Bool.Decides.{nat_tests}
use Rattle.kid_sexp.specs.Plain.{Plain, Plains, list, none, more, one, atom}
use Rattle.kid_value.specs.SortOrder.{both}
use Rattle.kid_value.proofs.SortLemmas.{and_parts, and_both}
use Rattle.kid_term.specs.PlainTerm.{PlainTerm, term_row}
use Rattle.kid_codec.specs.Reading.{◌>>=◌}
use Rattle.kid_codec.specs.Shape.{single, couple}
use Rattle.kid_codec.specs.SortSpelling.{headed}
use Rattle.kid_codec.specs.TermSpelling.{term_spellings}
use Rattle.kid_codec.proofs.Found.{same_some, if_some, if_else, mapped, both_some, bind_some}
use Rattle.kid_codec.proofs.Numbers.{bytes_eq-true}
use Rattle.kid_codec.proofs.ShapeTold.{single_told, couple_told}
use Rattle.kid_moves.specs.PlainRule.{PlainRule, PlainLine, PlainMove, left_of, right_of, both_of, again, concluded_by, after_lines}
use Rattle.kid_lines.specs.LineAnswers.{MovesAreRead}
use Rattle.kid_lines.specs.LineReading.{spelled_lines, one_fact, two_facts, bare, bare_rule, term_list, concluding, copying, move_by, spelled_move}
use Rattle.kid_lines.specs.LineSpelling.{index_spelling, line_spellings, is_spelled_line, move_spelling, is_spelled_move, SpellsMove}
use Rattle.kid_lines.specs.RuleReading.{Ruled, headed_parts, spelled_index, spelled_plain_terms, spelled_rule}
use Rattle.kid_lines.specs.RuleSpelling.{is_index, is_plain_term, is_spelled_rule, rule_spelling}
use Rattle.kid_lines.proofs.LinesRead.{lines_told, lines_back}
use Rattle.kid_lines.proofs.RulesRead.{index_told, index_back, plain_terms_told, plain_terms_back, headed_told, RuleTold, rule_told, rule_back}

-- ---- told

fact_told : (ts : Plains) (k : ℕ) → one_fact ts ≡ Some k → (ts ≡ one (index_spelling k)) × (is_index k ≡ true)
fact_told ts k e =
    let b = bind_some (single ts) spelled_index k e in
    let j = index_told b.0 k b.2 in
    (single_told ts b.0 b.1 ∙ ap one j.0, j.1)

-- a move by the number of one fact
one_told : (w : List ℕ) (by : ℕ → PlainMove) → ((k : ℕ) → move_spelling (by k) ≡ headed w (one (index_spelling k))) → ((k : ℕ) → is_spelled_move (by k) ≡ is_index k)
    → (ts : Plains) (m : PlainMove) → option_map by (one_fact ts) ≡ Some m → SpellsMove (headed w ts) m
one_told w by trees spelled ts m e =
    let n = mapped by (one_fact ts) m e in
    let j = fact_told ts n.0 n.1 in
    subst (SpellsMove (headed w ts)) n.2 (record { tree = ap (headed w) j.0 ∙ sym (trees n.0); spelled = spelled n.0 ∙ j.1 })

two_told : (ts : Plains) (m : PlainMove) → two_facts ts ≡ Some m → SpellsMove (headed (codes "join") ts) m
two_told ts m e =
    let b = bind_some (couple ts) (λ (p : Plain × Plain). both both_of (spelled_index p.0) (spelled_index p.1)) m e in
    let n = both_some both_of (spelled_index b.0.0) (spelled_index b.0.1) m b.2 in
    let j = index_told b.0.0 n.0 n.2 in
    let k = index_told b.0.1 n.1 n.3 in
    let c = j.0 in
    let d = k.0 in
    subst (SpellsMove (headed (codes "join") ts)) n.4 (record {
      tree = ap (headed (codes "join")) (couple_told ts b.0 b.1) ∙ (λ i. headed (codes "join") (more (c i) (one (d i))));
      spelled = and_both (is_index n.0) (is_index n.1) j.1 k.1;
    })

empty : (us : List PlainTerm) → (length us == 0) ≡ true → us ≡ []
empty [] h = refl
empty (u ∷ us) h = absurd (suc_zero (length us) h)
  where
    suc_zero : (n : ℕ) → (suc n == 0) ≡ true → ⊥
    suc_zero n h = grind (arith, nat_tests)

bare_told : (t : Plain) (r : PlainRule) → bare_rule t ≡ Some r → RuleTold t (r, [])
bare_told t r e =
    let b = bind_some (spelled_rule t) bare r e in
    let p : Ruled = b.0 in
    let o = if_some (length p.1 == 0) (Some p.0) r b.2 in
    let c = same_some p.0 r o.1 in
    let d = empty p.1 o.0 in
    subst (RuleTold t) (λ i. (c i, d i)) (rule_told t p b.1)

list_told : (t : Plain) (us : List PlainTerm) → term_list t ≡ Some us → (t ≡ list (term_spellings (term_row us))) × (list_all is_plain_term us ≡ true)
list_told (atom w) us e = cc
list_told (list ts) us e = let k = plain_terms_told ts us e in (ap list k.0, k.1)

concluding_told : (ts : Plains) (m : PlainMove) → concluding ts ≡ Some m → SpellsMove (headed (codes "have") ts) m
concluding_told ts m e =
    let b = bind_some (couple ts) (λ (p : Plain × Plain). both concluded_by (bare_rule p.0) (term_list p.1)) m e in
    let n = both_some concluded_by (bare_rule b.0.0) (term_list b.0.1) m b.2 in
    let j = bare_told b.0.0 n.0 n.2 in
    let k = list_told b.0.1 n.1 n.3 in
    let c = j.tree in
    let d = k.0 in
    subst (SpellsMove (headed (codes "have") ts)) n.4 (record {
      tree = ap (headed (codes "have")) (couple_told ts b.0 b.1) ∙ (λ i. headed (codes "have") (more (c i) (one (d i))));
      spelled = and_both (is_spelled_rule n.0 []) (list_all is_plain_term n.1) j.spelled k.1;
    })

copying_told : (ts : Plains) (m : PlainMove) → copying ts ≡ Some m → SpellsMove (headed (codes "copy") ts) m
copying_told none m e = cc
copying_told (more t ts) m e =
    let n = both_some after_lines (spelled_index t) (spelled_lines ts) m e in
    let j = index_told t n.0 n.2 in
    let k = lines_told ts n.1 n.3 in
    let c = j.0 in
    let d = k.0 in
    subst (SpellsMove (headed (codes "copy") (more t ts))) n.4 (record {
      tree = λ i. headed (codes "copy") (more (c i) (d i));
      spelled = and_both (is_index n.0) (list_all is_spelled_line n.1) j.1 k.1;
    })

-- a word among others
at_word : (w v : List ℕ) (ts : Plains) (m : PlainMove) (x y : Option PlainMove) → (x ≡ Some m → SpellsMove (headed v ts) m) → (y ≡ Some m → SpellsMove (headed w ts) m)
    → (if bytes_eq w v then x else y) ≡ Some m → SpellsMove (headed w ts) m
at_word w v ts m x y f g e =
    elim (if_else (bytes_eq w v) x y m e) [
      | inl q ↦ subst (λ (u : List ℕ). SpellsMove (headed u ts) m) (sym (bytes_eq-true w v q.0)) (f q.1)
      | inr q ↦ g q.1
    ]

moved_told : (w : List ℕ) (ts : Plains) (m : PlainMove) → move_by w ts ≡ Some m → SpellsMove (headed w ts) m
moved_told w ts m e =
    at_word w (codes "left") ts m (option_map left_of (one_fact ts)) _ (one_told (codes "left") left_of (λ k. refl) (λ k. refl) ts m)
    (at_word w (codes "right") ts m (option_map right_of (one_fact ts)) _ (one_told (codes "right") right_of (λ k. refl) (λ k. refl) ts m)
    (at_word w (codes "join") ts m (two_facts ts) _ (two_told ts m)
    (at_word w (codes "again") ts m (option_map again (one_fact ts)) _ (one_told (codes "again") again (λ k. refl) (λ k. refl) ts m)
    (at_word w (codes "have") ts m (concluding ts) _ (concluding_told ts m)
    (at_word w (codes "copy") ts m (copying ts) None (copying_told ts m) (λ q. absurd (nothing m q))))))) e
  where
    nothing : (m : PlainMove) → None ≡ Some m → ⊥
    nothing m q = cc

pub move_told : (t : Plain) (m : PlainMove) → spelled_move t ≡ Some m → SpellsMove t m
move_told t m e =
    let b = bind_some (headed_parts t) (λ (q : List ℕ × Plains). move_by q.0 q.1) m e in
    subst (λ (u : Plain). SpellsMove u m) (sym (headed_told t b.0 b.1)) (moved_told b.0.0 b.0.1 m b.2)

-- ---- back

pub move_back : (m : PlainMove) → is_spelled_move m ≡ true → spelled_move (move_spelling m) ≡ Some m
move_back (left_of k) h = ap (option_map left_of) (index_back k h)
move_back (right_of k) h = ap (option_map right_of) (index_back k h)
move_back (both_of k l) h =
    let p = and_parts (is_index k) (is_index l) h in
    let c = index_back k p.0 in
    let d = index_back l p.1 in
    λ i. both both_of (c i) (d i)
move_back (again k) h = ap (option_map again) (index_back k h)
move_back (concluded_by r us) h =
    let p = and_parts (is_spelled_rule r []) (list_all is_plain_term us) h in
    let c = rule_back r [] p.0 in
    let d = plain_terms_back us p.1 in
    λ i. both concluded_by (c i >>= bare) (d i)
move_back (after_lines k ls) h =
    let p = and_parts (is_index k) (list_all is_spelled_line ls) h in
    let c = index_back k p.0 in
    let d = lines_back ls p.1 in
    λ i. both after_lines (c i) (d i)

-- a tree that is read as no move spells none
pub move_missed : (t : Plain) → spelled_move t ≡ None → (m : PlainMove) → SpellsMove t m → ⊥
move_missed t h m is = let e = sym h ∙ ap spelled_move is.tree ∙ move_back m is.spelled in cc

pub moves_read : MovesAreRead
moves_read = record { told = move_told; back = move_back }
