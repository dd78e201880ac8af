-- What is answered about a tree, against what it spells and what there is to read.
use Rattle.std.specs.Prelude.{◌≡◌, true, Option, Some, None, Result, Ok, Err, ⊤}
use Rattle.kid_sexp.specs.Plain.{Plain}
use Rattle.kid_term.specs.declared.why.Why.{Why}
use Rattle.kid_term.specs.declared.why.Why.TheVariants.{Memory, Form}
use Rattle.kid_moves.specs.PlainRule.{PlainLine, PlainMove}
use Rattle.kid_lines.specs.LineSpelling.{line_spelling, is_spelled_line, SpellsLine, move_spelling, is_spelled_move, SpellsMove}
use Rattle.kid_lines.specs.LineReading.{spelled_line, spelled_move}

-- nothing is spelled, and no other fault comes; want of memory says nothing
abbrev pub Nothing : {A : Type 0} → (A → Type 0) → Why → Type 0
Nothing {A = A} Spelled Form = (a : A) → Spelled a → ⊥
Nothing Spelled Memory = ⊤
Nothing Spelled why = ⊥

-- the answer is what is spelled
abbrev pub IsSpelling : {X A : Type 0} → (X → A) → (A → Type 0) → Result X Why → Type 0
IsSpelling view Spelled (Ok x) = Spelled (view x)
IsSpelling view Spelled (Err why) = Nothing Spelled why

abbrev pub Missing : {A : Type 0} → Option A → Why → Type 0
Missing reading Form = reading ≡ None
Missing reading Memory = ⊤
Missing reading why = ⊥

-- the answer is what is read
abbrev pub IsReading : {X A : Type 0} → (X → A) → Option A → Result X Why → Type 0
IsReading view reading (Ok x) = reading ≡ Some (view x)
IsReading view reading (Err why) = Missing reading why

-- what is read is what is spelled
pub record LinesAreRead : Type 0 where
  pub told : (t : Plain) (l : PlainLine) → spelled_line t ≡ Some l → SpellsLine t l
  pub back : (l : PlainLine) → is_spelled_line l ≡ true → spelled_line (line_spelling l) ≡ Some l

pub record MovesAreRead : Type 0 where
  pub told : (t : Plain) (m : PlainMove) → spelled_move t ≡ Some m → SpellsMove t m
  pub back : (m : PlainMove) → is_spelled_move m ≡ true → spelled_move (move_spelling m) ≡ Some m
