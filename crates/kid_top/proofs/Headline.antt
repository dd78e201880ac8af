-- What is printed where a theory is solved, by whether the fuel is enough for each input.
use Rattle.std.proofs.Common.{◌≡◌, ℕ, Bool, true, false, List, [], ◌∷◌, ◌++◌, length, map, take, drop, Option, Result, Ok, refl, sym, ap, ap₂, ◌∙◌, subst, append-nil, append_assoc, arith}
use Rattle.std.specs.Prelude.{ℤ, not, ◌≤◌, ◌&&◌, ◌||◌, nat_le, MatchBool, option_map, if◌then◌else◌}
use Rattle.std.specs.List.{list_all, flat_map}
use Rattle.std.specs.Option.{option_to_list}
use Rattle.std.proofs.lemmas.Grind.{flat_map-append}
use Rattle.std.proofs.lemmas.List.{map-append, take-append-drop, take_all}
use Rattle.std.proofs.lemmas.Bool.Decides.{nat_tests}
use Rattle.kid_value.specs.PlainSort.{PlainSort, ints}
use Rattle.kid_value.specs.PlainValue.{PlainValue, int}
use Rattle.kid_term.specs.Eval.{Env}
use Rattle.kid_outer.specs.Held.{Held}
use Rattle.kid_term.specs.PlainTheory.{PlainTheory}
use Rattle.kid_prog.specs.PlainProgram.{PlainProgram}
use Rattle.kid_prog.specs.Running.{Run, run_of}
use Rattle.kid_run.specs.Lines.{value_line, closing_line, fuel_line, outside_line, last_line, run_lines, input_lines, all_lines, run_text}
use Rattle.kid_top.specs.declared.stop.Stop.{Stop}
use Rattle.kid_top.specs.Emitted.{emitted}
use Rattle.kid_top.specs.Done.{Solved}
use Rattle.kid_top.specs.Outcome.{Work, runs, theory_stage, inputs_stage, script_program, run_inputs, solve_theory, solve_work, is_whole, work_status, work_text}
use Rattle.kid_top.specs.Printed.{AreAnswers, splits_in, splits_at, found_in, found_first, reaches, Answers, FirstAnswers, InputText, Texts, is_answered}
use Rattle.kid_top.specs.RangeSearch.{Interval, range_leaf, range_visited, range_count, range_found}
use Rattle.kid_top.specs.TheoryAt.{is_inside, relates_at}
use Rattle.kid_top.proofs.EmittedSearch.{Searchable, emitted-found, emitted-whole, emitted-calls}
use Rattle.kid_top.proofs.Outcomes.{bind_ok, same_ok, stage_theory, script_searches}
use Rattle.kid_top.proofs.RangeAnswers.{range_wanted, range-answers}
use Rattle.kid_top.proofs.Searches.{Searches}
use Rattle.kid_top.proofs.VisitLists.{leaves}

-- ---- lines

abbrev pub joined : List (List ℕ) → List ℕ
joined lines = flat_map (λ line. line) lines

pub joined-lines : (vs : List PlainValue) (last : List ℕ) → joined (map value_line vs ++ last ∷ []) ≡ flat_map value_line vs ++ last
joined-lines [] last = append-nil last
joined-lines (v ∷ vs) last = ap (λ rest. value_line v ++ rest) (joined-lines vs last) ∙ sym (append_assoc (value_line v) (flat_map value_line vs) last)

-- the last line of a run
closes : (r : Run) (fuel : ℕ) (whole : Bool) → r.whole ≡ whole → last_line r fuel ≡ (if whole then closing_line (length r.values) r.calls else fuel_line fuel)
closes r fuel whole is = ap (λ (b : Bool). if b then closing_line (length r.values) r.calls else fuel_line fuel) is

joined-run : (r : Run) (fuel : ℕ) → r.whole ≡ true → joined (run_lines r fuel) ≡ flat_map value_line r.values ++ closing_line (length r.values) r.calls
joined-run r fuel h = joined-lines r.values (last_line r fuel) ∙ ap (λ last. flat_map value_line r.values ++ last) (closes r fuel true h)

joined-cut : (r : Run) (fuel : ℕ) → r.whole ≡ false → joined (run_lines r fuel) ≡ flat_map value_line r.values ++ fuel_line fuel
joined-cut r fuel h = joined-lines r.values (last_line r fuel) ∙ ap (λ last. flat_map value_line r.values ++ last) (closes r fuel false h)

-- ---- the text for an input

-- so much fuel is enough where the run of the program comes to its end
is-reached : (t : PlainTheory) (lo hi : ℤ) (x : Env) (fuel : ℕ) → Searchable t lo hi → (run_of (emitted t lo hi) x fuel).whole ≡ reaches t fuel x
is-reached t lo hi x fuel can = emitted-whole t lo hi x fuel can ∙ ap (λ s. nat_le (splits_in s (relates_at t x) t.spec.first) fuel) (sym can.of_sort)

-- with enough fuel what the first descriptors hold is all that is wanted
all-found : (good : ℤ → Bool) (first : Option ℕ) (fuel : ℕ) (d : Interval) → nat_le (range_count good first d) fuel ≡ true → range_found good first fuel d ≡ range_wanted good first d
all-found good first fuel d enough =
    let le : range_count good first d ≤ fuel = grind (arith, nat_tests) in
    ap (leaves (range_leaf good)) (take_all fuel (range_visited good first d) le)

-- and with any fuel it comes first of that
first-found : (good : ℤ → Bool) (first : Option ℕ) (fuel : ℕ) (d : Interval) → (others : List PlainValue) × (map int (range_found good first fuel d) ++ others ≡ map int (range_wanted good first d))
first-found good first fuel d =
    let hold : Interval → List ℤ = λ e. option_to_list (range_leaf good e) in
    let ds = range_visited good first d in (
      map int (flat_map hold (drop fuel ds)),
      sym (map-append int (flat_map hold (take fuel ds)) (flat_map hold (drop fuel ds)))
          ∙ ap (map int) (sym (flat_map-append hold (take fuel ds) (drop fuel ds)) ∙ ap (flat_map hold) (take-append-drop fuel ds)),
    )

-- of a theory whose output is an integer from lo to hi
first_is : (t : PlainTheory) (lo hi : ℤ) (x : Env) (fuel : ℕ) → t.spec.sort ≡ ints lo hi → found_first t fuel x ≡ map int (range_found (relates_at t x) t.spec.first fuel (lo, hi))
first_is t lo hi x fuel is = ap (λ s. found_in s (relates_at t x) t.spec.first fuel) is

-- a run that came to its end has found the answers that are wanted
pub emitted-answer : (t : PlainTheory) (lo hi : ℤ) (x : Env) (fuel : ℕ) → Searchable t lo hi → (run_of (emitted t lo hi) x fuel).whole ≡ true
    → AreAnswers t x (run_of (emitted t lo hi) x fuel).values
emitted-answer t lo hi x fuel can whole =
    subst (AreAnswers t x)
    (sym (emitted-found t lo hi x fuel can ∙ ap (map int) (all-found (relates_at t x) t.spec.first fuel (lo, hi) (sym (emitted-whole t lo hi x fuel can) ∙ whole))))
    (range-answers t x lo hi can.of_sort can.ordered)

run_answers : (t : PlainTheory) (lo hi : ℤ) (x : Env) (fuel : ℕ) → Searchable t lo hi → (run_of (emitted t lo hi) x fuel).whole ≡ true
    → Answers t (emitted t lo hi) fuel x (joined (run_lines (run_of (emitted t lo hi) x fuel) fuel))
run_answers t lo hi x fuel can whole =
    record {
      answers = (run_of (emitted t lo hi) x fuel).values;
      exact = emitted-answer t lo hi x fuel can whole;
      lines = joined-run (run_of (emitted t lo hi) x fuel) fuel whole;
      counted = emitted-calls t lo hi x fuel can whole ∙ ap (λ s. splits_in s (relates_at t x) t.spec.first) (sym can.of_sort);
    }

run_first : (t : PlainTheory) (lo hi : ℤ) (x : Env) (fuel : ℕ) → Searchable t lo hi → (run_of (emitted t lo hi) x fuel).whole ≡ false
    → FirstAnswers t fuel x (joined (run_lines (run_of (emitted t lo hi) x fuel) fuel))
run_first t lo hi x fuel can cut =
    let r = first-found (relates_at t x) t.spec.first fuel (lo, hi) in
    let is = first_is t lo hi x fuel can.of_sort in
    record {
      others = r.0;
      exact = subst (AreAnswers t x) (sym (ap (λ vs. vs ++ r.0) is ∙ r.1)) (range-answers t x lo hi can.of_sort can.ordered);
      lines = joined-cut (run_of (emitted t lo hi) x fuel) fuel cut ∙ ap (λ vs. flat_map value_line vs ++ fuel_line fuel) (emitted-found t lo hi x fuel can ∙ sym is);
    }

-- whether the fuel is enough or not
run_prints : (t : PlainTheory) (lo hi : ℤ) (x : Env) (fuel : ℕ) → Searchable t lo hi → (enough : Bool) → (run_of (emitted t lo hi) x fuel).whole ≡ enough
    → MatchBool enough
    (Answers t (emitted t lo hi) fuel x (joined (run_lines (run_of (emitted t lo hi) x fuel) fuel)))
    (FirstAnswers t fuel x (joined (run_lines (run_of (emitted t lo hi) x fuel) fuel)))
run_prints t lo hi x fuel can true is = run_answers t lo hi x fuel can is
run_prints t lo hi x fuel can false is = run_first t lo hi x fuel can is

-- the lines where an input is inside, and where it is not
abbrev lines_where : Bool → PlainTheory → ℤ → ℤ → ℕ → Env → List ℕ
lines_where inside t lo hi fuel x = joined (if inside then run_lines (run_of (emitted t lo hi) x fuel) fuel else outside_line ∷ [])

input_text : (t : PlainTheory) (lo hi : ℤ) (x : Env) (fuel : ℕ) → Searchable t lo hi → (inside : Bool)
    → MatchBool inside
    (MatchBool (reaches t fuel x) (Answers t (emitted t lo hi) fuel x (lines_where inside t lo hi fuel x)) (FirstAnswers t fuel x (lines_where inside t lo hi fuel x)))
    (lines_where inside t lo hi fuel x ≡ outside_line)
input_text t lo hi x fuel can true = run_prints t lo hi x fuel can (reaches t fuel x) (is-reached t lo hi x fuel can)
input_text t lo hi x fuel can false = append-nil outside_line

-- ---- the text for all inputs, and the status

texts : (t : PlainTheory) (lo hi : ℤ) (fuel : ℕ) (xs : List Env) → Searchable t lo hi → Texts t (emitted t lo hi) fuel xs (run_text (emitted t lo hi) fuel xs)
texts t lo hi fuel [] can = refl
texts t lo hi fuel (x ∷ xs) can = (
  joined (input_lines (emitted t lo hi) fuel x),
  run_text (emitted t lo hi) fuel xs,
  flat_map-append (λ line. line) (input_lines (emitted t lo hi) fuel x) (all_lines (emitted t lo hi) fuel xs),
  input_text t lo hi x fuel can (is_inside t x),
  texts t lo hi fuel xs can,
)

-- each run comes to its end where each input is answered
all-whole : (t : PlainTheory) (lo hi : ℤ) (fuel : ℕ) (xs : List Env) → Searchable t lo hi → list_all (is_whole (emitted t lo hi) fuel) xs ≡ list_all (is_answered t fuel) xs
all-whole t lo hi fuel [] can = refl
all-whole t lo hi fuel (x ∷ xs) can = ap₂ (λ a b. (not (is_inside t x) || a) && b) (is-reached t lo hi x fuel can) (all-whole t lo hi fuel xs can)

-- ---- solving

abbrev status : Bool → ℕ
status whole = if whole then 0 else 4

-- the parts of the work of solving
pub record Solves (files : Held) (theory script inputs : List ℕ) (fuel : ℕ) (w : Work) : Type 0 where
  pub of_theory : PlainTheory
  pub theory_read : theory_stage 1 (files theory) ≡ Ok of_theory
  pub program : PlainProgram
  pub derived : script_program of_theory (files script) ≡ Ok program
  pub of_inputs : List Env
  pub inputs_read : inputs_stage 3 program.inputs (files inputs) ≡ Ok of_inputs
  pub is : runs program of_inputs fuel ≡ w

pub solve_parts : (files : Held) (theory script inputs : List ℕ) (fuel : ℕ) (w : Work) → solve_work files theory script inputs fuel ≡ Ok w → Solves files theory script inputs fuel w
solve_parts files theory script inputs fuel w e =
    let a = bind_ok (theory_stage 1 (files theory)) (solve_theory files script inputs fuel) w e in
    let t : PlainTheory = a.0 in
    let b = bind_ok (script_program t (files script)) (λ (p : PlainProgram). run_inputs 3 p (files inputs) fuel) w a.2 in
    let p : PlainProgram = b.0 in
    let ready : List Env → Result Work Stop = λ xs. Ok (runs p xs fuel) in
    let c = bind_ok (inputs_stage 3 p.inputs (files inputs)) ready w b.2 in
    let xs : List Env = c.0 in
    record { of_theory = t; theory_read = a.1; program = p; derived = b.1; of_inputs = xs; inputs_read = c.1; is = same_ok (ready xs) (runs p xs fuel) w refl c.2 }

-- what the program that was derived prints, and its status
record Prints (t : PlainTheory) (p : PlainProgram) (fuel : ℕ) (xs : List Env) : Type 0 where
  prints : Texts t p fuel xs (run_text p fuel xs)
  status_is : status (list_all (is_whole p fuel) xs) ≡ status (list_all (is_answered t fuel) xs)

program_prints : (t : PlainTheory) (p : PlainProgram) (fuel : ℕ) (xs : List Env) → Searches t p → Prints t p fuel xs
program_prints t p fuel xs s =
    subst (λ (q : PlainProgram). Prints t q fuel xs) (sym s.is) (record { prints = texts t s.lo s.hi fuel xs s.can; status_is = ap status (all-whole t s.lo s.hi fuel xs s.can) })

pub searched_inputs : (t : PlainTheory) (p : PlainProgram) → Searches t p → p.inputs ≡ t.spec.inputs
searched_inputs t p s = ap (λ (q : PlainProgram). q.inputs) s.is

-- solving prints the answers for each input, as far as the fuel is enough
pub solve_texts : (files : Held) (theory script inputs : List ℕ) (fuel : ℕ) (w : Work) (status : ℕ) (old new : Option (List ℕ)) → solve_work files theory script inputs fuel ≡ Ok w
    → status ≡ work_status w → new ≡ option_map (λ v. v ++ work_text w) old → Solved files theory script inputs fuel status old new
solve_texts files theory script inputs fuel w status old new e is printed =
    let r = solve_parts files theory script inputs fuel w e in
    let t : PlainTheory = r.of_theory in
    let p : PlainProgram = r.program in
    let xs : List Env = r.of_inputs in
    let s = script_searches t (files script) p (stage_theory 1 (files theory) t r.theory_read) r.derived in
    let q = program_prints t p fuel xs s in
    record {
      of_theory = t;
      theory_read = r.theory_read;
      program = p;
      derived = r.derived;
      of_inputs = xs;
      inputs_read = ap (λ ns. inputs_stage 3 ns (files inputs)) (sym (searched_inputs t p s)) ∙ r.inputs_read;
      text = run_text p fuel xs;
      answers = q.prints;
      printed = printed ∙ ap (λ (v : Work). option_map (λ u. u ++ work_text v) old) (sym r.is);
      status_is = is ∙ ap work_status (sym r.is) ∙ q.status_is;
    }
