-- What the form of a law or an axiom tells that was not refused: it is the tree of the claim, which has a spelling and keeps the rules.
use Rattle.std.proofs.Common.{◌≡◌, Bool, true, false, List, [], ◌∷◌, ◌++◌, Some, Ok, refl, sym, ap, ◌∙◌, subst}
use Rattle.std.specs.Prelude.{option_map, if◌then◌else◌, codes}
use Rattle.std.specs.List.{list_all}
use Rattle.kid_sexp.specs.Plain.{Plain, Plains, none, more, one}
use Rattle.kid_value.proofs.SortLemmas.{and_parts, and_both}
use Rattle.kid_term.specs.Names.{Names, PlainDef}
use Rattle.kid_term.specs.PlainLaw.{PlainLaw}
use Rattle.kid_term.specs.PlainTheory.{PlainTheory}
use Rattle.kid_codec.specs.Name.{is_name}
use Rattle.kid_codec.specs.Reading.{◌>>=◌}
use Rattle.kid_codec.specs.Shape.{form, quadruple}
use Rattle.kid_codec.specs.SortSpelling.{headed}
use Rattle.kid_codec.proofs.Found.{same_some, mapped, both_some, bind_some}
use Rattle.kid_codec.proofs.ShapeTold.{form_told, quadruple_told}
use Rattle.kid_moves.specs.PlainRule.{PlainMove}
use Rattle.kid_lines.specs.LineReading.{spelled_move}
use Rattle.kid_lines.specs.LineSpelling.{is_spelled_move}
use Rattle.kid_lines.proofs.MovesRead.{moves_read}
use Rattle.kid_kernel.specs.SortedLaw.{is_sorted_law}
use Rattle.kid_kernel.specs.Wordless.{is_wordless_law}
use Rattle.kid_theory.specs.Before.{is_shown}
use Rattle.kid_theory.specs.Claims.{PlainClaim, assumed, proved, law_of}
use Rattle.kid_theory.specs.Formed.{is_spelled_law, is_spelled_claim}
use Rattle.kid_theory.specs.Forms.{begins, is_named_law, judged_law, axiom_form, proved_by, judged_proof, law_form, assumed_form, claim_form}
use Rattle.kid_theory.specs.Judged.{Judged, tested}
use Rattle.kid_theory.specs.Proof.{is_proved}
use Rattle.kid_theory.specs.Shapes.{axiom_of, axiom_shape, spelled_moves, proof_shape, law_with, law_of_parts, law_shape}
use Rattle.kid_theory.specs.Spelling.{law_parts, move_spellings, proof_spelling, claim_spelling}
use Rattle.kid_theory.specs.Taken.{Taken, is_free, are_free}
use Rattle.kid_theory.specs.declared.fault.TheoryCode.TheVariants as code
use Rattle.kid_theory.proofs.LawTold.{law_parts_told}
use Rattle.kid_theory.proofs.Passed.{found, found_same, tested_ok, shaped_ok, bound_ok}
use Rattle.kid_theory.proofs.ShapeKept.{axiom_of_kept}
use Rattle.kid_theory.proofs.ShapeTold.{free_name}

-- ---- the shapes

-- the trees spell a law, which is sorted, and hold no operator on words or rows
record SpellsLaw (t : Plain) (c : PlainClaim) : Type 0 where
  tree : t ≡ claim_spelling c
  spelled : is_spelled_claim c ≡ true
  wordless : is_wordless_law (law_of c) ≡ true

moves_told : (ts : Plains) (moves : List PlainMove) → spelled_moves ts ≡ Some moves → (ts ≡ move_spellings moves) × (list_all is_spelled_move moves ≡ true)
moves_told none moves e = let is = same_some [] moves e in (ap move_spellings is, ap (list_all is_spelled_move) (sym is))
moves_told (more t ts) moves e =
    let b = bind_some (spelled_move t) (λ (m : PlainMove). option_map (λ (ms : List PlainMove). m ∷ ms) (spelled_moves ts)) moves e in
    let m : PlainMove = b.0 in
    let n = mapped (λ (ms : List PlainMove). m ∷ ms) (spelled_moves ts) moves b.2 in
    let ms : List PlainMove = n.0 in
    let is : m ∷ ms ≡ moves = n.2 in
    let j = moves_read.told t m b.1 in
    let k = moves_told ts ms n.1 in
    let c = j.tree in
    let d = k.0 in
    ((λ i. more (c i) (d i)) ∙ ap move_spellings is, ap (list_all is_spelled_move) (sym is) ∙ and_both (is_spelled_move m) (list_all is_spelled_move ms) j.spelled k.1)

proof_told : (t : Plain) (moves : List PlainMove) → proof_shape t ≡ Some moves → (t ≡ proof_spelling moves) × (list_all is_spelled_move moves ≡ true)
proof_told t moves e =
    let c = bind_some (form (codes "by") t) spelled_moves moves e in
    let k = moves_told c.0 moves c.2 in
    (form_told (codes "by") t c.0 c.1 ∙ ap (headed (codes "by")) k.0, k.1)

-- a law with free names that is sorted
record IsFit (defs : List PlainDef) (inputs : Names) (taken : Taken) (l : PlainLaw) : Type 0 where
  name : is_name l.name ≡ true
  free : are_free taken l.variables ≡ true
  sorted : is_sorted_law defs inputs l ≡ true

assumed_told : (defs : List PlainDef) (inputs : Names) (taken : Taken) (t : Plain) (l : PlainLaw) → axiom_shape t ≡ Some l → IsFit defs inputs taken l → SpellsLaw t (assumed l)
assumed_told defs inputs taken t l e fit =
    let c = bind_some (form (codes "axiom") t >>= quadruple) axiom_of l e in
    let q = bind_some (form (codes "axiom") t) quadruple c.0 c.1 in
    let k = law_parts_told defs inputs taken c.0 l c.2 fit.name fit.free fit.sorted in
    record {
      tree = form_told (codes "axiom") t q.0 q.1 ∙ ap (headed (codes "axiom")) (quadruple_told q.0 c.0 q.2 ∙ k.0 none);
      spelled = k.1;
      wordless = axiom_of_kept c.0 l c.2;
    }

-- what stands behind the word of a law
record SpellsParts (ts : Plains) (l : PlainLaw) (moves : List PlainMove) : Type 0 where
  trees : ts ≡ law_parts l (one (proof_spelling moves))
  spelled : is_spelled_claim (proved l moves) ≡ true
  wordless : is_wordless_law l ≡ true

parts_told : (defs : List PlainDef) (inputs : Names) (taken : Taken) (ts : Plains) (l : PlainLaw) (moves : List PlainMove) → law_of_parts ts ≡ Some (l, moves) → IsFit defs inputs taken l → SpellsParts ts l moves
parts_told defs inputs taken none l moves e fit = cc
parts_told defs inputs taken (more t ts) l moves e fit =
    let q = bind_some (quadruple ts) (law_with t) (l, moves) e in
    let p : Plain × Plain × Plain × Plain = q.0 in
    let made : PlainLaw → List PlainMove → PlainLaw × List PlainMove = λ a ms. (a, ms) in
    let m = both_some made (axiom_of (t, p.0, p.1, p.2)) (proof_shape p.3) (l, moves) q.2 in
    let shape : axiom_of (t, p.0, p.1, p.2) ≡ Some l = m.2 ∙ ap (λ (g : PlainLaw × List PlainMove). Some g.0) m.4 in
    let proof : proof_shape p.3 ≡ Some moves = m.3 ∙ ap (λ (g : PlainLaw × List PlainMove). Some g.1) m.4 in
    let k = law_parts_told defs inputs taken (t, p.0, p.1, p.2) l shape fit.name fit.free fit.sorted in
    let j = proof_told p.3 moves proof in
    record {
      trees = ap (more t) (quadruple_told ts p q.1) ∙ ap (λ (u : Plain). more t (more p.0 (more p.1 (more p.2 (one u))))) j.0 ∙ k.0 (one (proof_spelling moves));
      spelled = and_both (is_spelled_law l) (list_all is_spelled_move moves) k.1 j.1;
      wordless = axiom_of_kept (t, p.0, p.1, p.2) l shape;
    }

proved_told : (defs : List PlainDef) (inputs : Names) (taken : Taken) (t : Plain) (l : PlainLaw) (moves : List PlainMove) → law_shape t ≡ Some (l, moves) → IsFit defs inputs taken l → SpellsLaw t (proved l moves)
proved_told defs inputs taken t l moves e fit =
    let c = bind_some (form (codes "law") t) law_of_parts (l, moves) e in
    let k = parts_told defs inputs taken c.0 l moves c.2 fit in
    record { tree = form_told (codes "law") t c.0 c.1 ∙ ap (headed (codes "law")) k.trees; spelled = k.spelled; wordless = k.wordless }

-- ---- the forms

-- the law of a form, with what was tested of it
pub record IsJudged (defs : List PlainDef) (inputs : Names) (taken variables : Taken) (g l : PlainLaw) : Type 0 where
  pub named : is_named_law taken variables g ≡ true
  pub sorted : is_sorted_law defs inputs g ≡ true
  pub same : g ≡ l

pub judged_ok : (defs : List PlainDef) (inputs : Names) (taken variables : Taken) (g l : PlainLaw) → judged_law defs inputs taken variables g ≡ Ok l → IsJudged defs inputs taken variables g l
judged_ok defs inputs taken variables g l p =
    let sorted : Judged PlainLaw = tested (is_sorted_law defs inputs g) code.Sort (Ok g) in
    let a = tested_ok (is_named_law taken variables g) code.Name sorted l p in
    let b = tested_ok (is_sorted_law defs inputs g) code.Sort (found g) l a.1 in
    record { named = a.0; sorted = b.0; same = found_same g l b.1 }

fit : (defs : List PlainDef) (inputs : Names) (taken variables : Taken) (l : PlainLaw) → is_named_law taken variables l ≡ true → is_sorted_law defs inputs l ≡ true → IsFit defs inputs (taken ++ l.name ∷ []) l
fit defs inputs taken variables l named sorted =
    let names = and_parts (is_free (taken ++ variables) l.name) (are_free (taken ++ l.name ∷ []) l.variables) named in
    record { name = free_name (taken ++ variables) l.name names.0; free = names.1; sorted = sorted }

pub record ClaimTold (t : PlainTheory) (taken variables : Taken) (u : Plain) (c : PlainClaim) : Type 0 where
  pub named : is_named_law taken variables (law_of c) ≡ true
  pub sorted : is_sorted_law t.signature.definitions t.signature.inputs (law_of c) ≡ true
  pub wordless : is_wordless_law (law_of c) ≡ true
  pub shown : is_shown t c ≡ true
  pub spelled : is_spelled_claim c ≡ true
  pub tree : u ≡ claim_spelling c

claim_by : (t : PlainTheory) (taken variables : Taken) (tree : Plain) (c : PlainClaim) (b : Bool) → (if b then assumed_form t taken variables tree else law_form t taken variables tree) ≡ Ok c → ClaimTold t taken variables tree c
claim_by t taken variables tree c true p =
    let defs : List PlainDef = t.signature.definitions in
    let inputs : Names = t.signature.inputs in
    let a = bound_ok (axiom_form defs inputs taken variables tree) (λ (l : PlainLaw). found (assumed l)) c p in
    let l : PlainLaw = a.0 in
    let s = shaped_ok (axiom_shape tree) (judged_law defs inputs taken variables) l a.1 in
    let g : PlainLaw = s.0 in
    let j = judged_ok defs inputs taken variables g l s.2 in
    let k = assumed_told defs inputs (taken ++ g.name ∷ []) tree g s.1 (fit defs inputs taken variables g j.named j.sorted) in
    subst (ClaimTold t taken variables tree) (ap assumed j.same ∙ found_same (assumed l) c a.2)
    (record { named = j.named; sorted = j.sorted; wordless = k.wordless; shown = refl; spelled = k.spelled; tree = k.tree })
claim_by t taken variables tree c false p =
    let defs : List PlainDef = t.signature.definitions in
    let inputs : Names = t.signature.inputs in
    let s = shaped_ok (law_shape tree) (judged_proof t taken variables) c p in
    let g : PlainLaw = s.0.0 in
    let moves : List PlainMove = s.0.1 in
    let a = bound_ok (judged_law defs inputs taken variables g) (proved_by t moves) c s.2 in
    let l : PlainLaw = a.0 in
    let j = judged_ok defs inputs taken variables g l a.1 in
    let q = tested_ok (is_proved t l moves) code.Proof (found (proved l moves)) c a.2 in
    let k = proved_told defs inputs (taken ++ g.name ∷ []) tree g moves s.1 (fit defs inputs taken variables g j.named j.sorted) in
    subst (ClaimTold t taken variables tree) (ap (λ (h : PlainLaw). proved h moves) j.same ∙ found_same (proved l moves) c q.1)
    (record { named = j.named; sorted = j.sorted; wordless = k.wordless; shown = ap (λ (h : PlainLaw). is_proved t h moves) j.same ∙ q.0; spelled = k.spelled; tree = k.tree })

pub claim_told : (t : PlainTheory) (taken variables : Taken) (tree : Plain) (c : PlainClaim) → claim_form t taken variables tree ≡ Ok c → ClaimTold t taken variables tree c
claim_told t taken variables tree c p = claim_by t taken variables tree c (begins (codes "axiom") tree) p
