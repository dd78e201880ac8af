-- The forms of a program, put one after another.
use Rattle.std.proofs.Common.{◌≡◌, ℕ, List, [], ◌∷◌, Option, Some, None, refl, sym, ap, ◌∙◌}
use Rattle.std.specs.Prelude.{codes}
use Rattle.kid_sexp.specs.Plain.{Plain, Plains, list, none, more, one, join}
use Rattle.kid_sexp.specs.PlainCode.{join-none}
use Rattle.kid_term.specs.Names.{Names, PlainDef}
use Rattle.kid_codec.specs.SortSpelling.{headed}
use Rattle.kid_codec.specs.TermSpelling.{term_spelling}
use Rattle.kid_codec.proofs.Each.{join-one}
use Rattle.kid_prog.specs.PlainProgram.{PlainProgram}
use Rattle.kid_prog.specs.Spelling.{stmt_spellings, named_spelling, names_spelling, definition_spelling, definitions_before, inputs_before, format_spelling, first_spelling, first_before, main_forms, last_forms, program_spelling}
use Rattle.kid_prog.specs.Formats.{format_for}
use Rattle.kid_prog.specs.Tags.{program_has_tags}

join-join : (ts us vs : Plains) → join (join ts us) vs ≡ join ts (join us vs)
join-join none us vs = refl
join-join (more t ts) us vs = ap (more t) (join-join ts us vs)

definitions-join : (ds : List PlainDef) (first rest : Plains) → join (definitions_before ds first) rest ≡ definitions_before ds (join first rest)
definitions-join [] first rest = refl
definitions-join (d ∷ ds) first rest = ap (more (definition_spelling d)) (definitions-join ds first rest)

inputs-join : (ns : Names) (rest : Plains) → join (inputs_before ns none) rest ≡ inputs_before ns rest
inputs-join [] rest = refl
inputs-join (n ∷ ns) rest = ap (more (headed (codes "input") (named_spelling n))) (inputs-join ns rest)

pub first-joined : (start pushed forms new : Plains) (t v : Plain) (ds es : List PlainDef) (ms ns : Names) → start ≡ none → pushed ≡ join start (one t) → t ≡ v
    → forms ≡ join pushed (definitions_before ds none) → ds ≡ es → new ≡ join forms (inputs_before ms none) → ms ≡ ns → new ≡ more v (definitions_before es (inputs_before ns none))
first-joined start pushed forms new t v ds es ms ns a b c d e f g =
    let front : pushed ≡ one v = b ∙ (λ i. join (a i) (one (c i))) in
    let begun : forms ≡ more v (definitions_before es none) = d ∙ (λ i. join (front i) (definitions_before (e i) none)) in
    f ∙ (λ i. join (begun i) (inputs_before (g i) none)) ∙ ap (more v) (definitions-join es none (inputs_before ns none))

pub nothing_put : (f : Plains) → f ≡ join f none
nothing_put f = sym (join-none f)

pub one_put : (f g : Plains) (t u : Plain) → g ≡ join f (one t) → t ≡ u → g ≡ join f (more u none)
one_put f g t u p q = p ∙ ap (λ (v : Plain). join f (one v)) q

-- what is put where all values are wanted, and where not all are
pub ruleset puts = (nothing_put, one_put)

first-join : (first : Option ℕ) (rest : Plains) → join (first_before first none) rest ≡ first_before first rest
first-join None rest = refl
first-join (Some n) rest = refl

two-joined : (f a b : Plains) (t u : Plain) → a ≡ join f (one t) → b ≡ join a (one u) → b ≡ join f (more t (one u))
two-joined f a b t u p q = q ∙ ap (λ (ts : Plains). join ts (one u)) p ∙ join-one f t (one u)

-- forms, then those that say how many values are wanted, and then others
between : (f g h : Plains) (ts us : Plains) (first : Option ℕ) → g ≡ join f ts → h ≡ join g (first_before first none) → join h us ≡ join f (join ts (first_before first us))
between f g h ts us first p q =
    ap (λ (vs : Plains). join vs us) q ∙ join-join g (first_before first none) us ∙ ap (join g) (first-join first us)
    ∙ ap (λ (vs : Plains). join vs (first_before first us)) p ∙ join-join f ts (first_before first us)

pub last-joined : (p : PlainProgram) (f a b c d e : Plains) (r o m s : Plain)
    → f ≡ more (format_spelling (format_for (program_has_tags p))) (definitions_before p.definitions (inputs_before p.inputs none))
    → a ≡ join f (one r) → b ≡ join a (one o) → c ≡ join b (first_before p.first none) → d ≡ join c (one m) → e ≡ join d (one s)
    → r ≡ headed (codes "require") (one (term_spelling p.condition)) → o ≡ headed (codes "output") (named_spelling (p.output, p.sort))
    → m ≡ headed (codes "main") (stmt_spellings p.main) → s ≡ headed (codes "search") (more (list (names_spelling p.parameters)) (stmt_spellings p.search))
    → e ≡ program_spelling p
last-joined p f a b c d e r o m s first t u v w x j k l n =
    two-joined c d e m s w x ∙ between f b c (more r (one o)) (more m (one s)) p.first (two-joined f a b r o t u) v
    ∙ (λ i. join (first i) (more (j i) (more (k i) (first_before p.first (more (l i) (one (n i)))))))
    ∙ ap (more (format_spelling (format_for (program_has_tags p))))
    (definitions-join p.definitions (inputs_before p.inputs none) (last_forms p) ∙ ap (definitions_before p.definitions) (inputs-join p.inputs (last_forms p)))
