-- Forms of lists of trees.
use Rattle.std.specs.Prelude.{◌&&◌, List, [], ◌∷◌, Option, Some, None, option_map}
use Rattle.std.specs.List.{list_all}
use Rattle.kid_sexp.specs.Plain.{Plain, Plains, none, more}
use Rattle.kid_value.specs.SortOrder.{both}
use Rattle.kid_codec.specs.Reading.{◌>>=◌}
use Rattle.kid_codec.specs.Shape.{single, couple, quadruple}
use Rattle.kid_form.specs.Form.{Form}

-- one tree
abbrev pub read_one : {A : Type 0} → Form Plain A → Option Plain → Option A
read_one f None = None
read_one f (Some t) = f.read t

abbrev pub one : {A : Type 0} → Form Plain A → Form Plains A
one f = record { read = λ ts. read_one f (single ts); spell = λ a. more (f.spell a) none; valid = f.valid; spelled = f.spelled }

-- two trees
abbrev pub read_two : {A B : Type 0} → Form Plain A → Form Plain B → Option (Plain × Plain) → Option (A × B)
read_two f g None = None
read_two f g (Some p) = both (λ a b. (a, b)) (f.read p.0) (g.read p.1)

abbrev pub two : {A B : Type 0} → Form Plain A → Form Plain B → Form Plains (A × B)
two f g = record {
  read = λ ts. read_two f g (couple ts);
  spell = λ p. more (f.spell p.0) (more (g.spell p.1) none);
  valid = λ p. f.valid p.0 && g.valid p.1;
  spelled = λ p. f.spelled p.0 && g.spelled p.1;
}

-- four trees
abbrev pub read_four : {A B C D : Type 0} → Form Plain A → Form Plain B → Form Plain C → Form Plain D → Option (Plain × Plain × Plain × Plain) → Option (A × B × C × D)
read_four f g h k None = None
read_four f g h k (Some q) = f.read q.0 >>= λ a. g.read q.1 >>= λ b. both (λ c d. (a, b, c, d)) (h.read q.2) (k.read q.3)

abbrev pub four : {A B C D : Type 0} → Form Plain A → Form Plain B → Form Plain C → Form Plain D → Form Plains (A × B × C × D)
four f g h k = record {
  read = λ ts. read_four f g h k (quadruple ts);
  spell = λ q. more (f.spell q.0) (more (g.spell q.1) (more (h.spell q.2) (more (k.spell q.3) none)));
  valid = λ q. f.valid q.0 && g.valid q.1 && h.valid q.2 && k.valid q.3;
  spelled = λ q. f.spelled q.0 && g.spelled q.1 && h.spelled q.2 && k.spelled q.3;
}

-- a tree before others
abbrev pub read_next : {A B : Type 0} → Form Plain A → Form Plains B → Plains → Option (A × B)
read_next f g none = None
read_next f g (more t ts) = both (λ a b. (a, b)) (f.read t) (g.read ts)

abbrev pub next : {A B : Type 0} → Form Plain A → Form Plains B → Form Plains (A × B)
next f g = record {
  read = read_next f g;
  spell = λ p. more (f.spell p.0) (g.spell p.1);
  valid = λ p. f.valid p.0 && g.valid p.1;
  spelled = λ p. f.spelled p.0 && g.spelled p.1;
}

-- any number of trees
abbrev pub read_each : {A : Type 0} → Form Plain A → Plains → Option (List A)
read_each f none = Some []
read_each f (more t ts) = f.read t >>= λ a. option_map (λ others. a ∷ others) (read_each f ts)

abbrev pub spell_each : {A : Type 0} → Form Plain A → List A → Plains
spell_each f [] = none
spell_each f (a ∷ others) = more (f.spell a) (spell_each f others)

abbrev pub each : {A : Type 0} → Form Plain A → Form Plains (List A)
each f = record { read = read_each f; spell = spell_each f; valid = list_all f.valid; spelled = list_all f.spelled }
