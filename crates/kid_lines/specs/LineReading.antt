-- What line or move a tree is read as.
use Rattle.std.specs.Prelude.{ℕ, Bool, true, false, ◌==◌, List, [], ◌∷◌, length, Option, Some, None, option_map, if◌then◌else◌, codes}
use Rattle.std.specs.Str.{bytes_eq}
use Rattle.kid_sexp.specs.Plain.{Plain, Plains, atom, list, none, more}
use Rattle.kid_value.specs.SortOrder.{both}
use Rattle.kid_term.specs.PlainTerm.{PlainTerm}
use Rattle.kid_codec.specs.Reading.{◌>>=◌}
use Rattle.kid_codec.specs.Shape.{single, couple}
use Rattle.kid_moves.specs.PlainRule.{PlainRule, PlainLine, PlainMove, left_of, right_of, both_of, again, concluded_by, after_lines}
use Rattle.kid_lines.specs.RuleReading.{Ruled, headed_parts, spelled_index, spelled_plain_terms, spelled_rule}

-- ---- lines

abbrev pub spelled_indexes : Plains → Option (List ℕ)
spelled_indexes none = Some []
spelled_indexes (more t ts) = spelled_index t >>= λ n. option_map (λ ns. n ∷ ns) (spelled_indexes ts)

abbrev pub spelled_path : Plain → Option (List ℕ)
spelled_path (atom w) = None
spelled_path (list ts) = spelled_indexes ts

abbrev pub line_of_parts : Bool → List ℕ → Ruled → PlainLine
line_of_parts back path ruled = record { path = path; back = back; rule = ruled.0; args = ruled.1 }

-- a path and a rule
abbrev pub placed : Bool → Plains → Option PlainLine
placed back ts = couple ts >>= λ p. both (line_of_parts back) (spelled_path p.0) (spelled_rule p.1)

abbrev pub line_by : List ℕ → Plains → Option PlainLine
line_by w ts = if bytes_eq w (codes "at") then placed false ts else (if bytes_eq w (codes "back") then placed true ts else None)

abbrev pub spelled_line : Plain → Option PlainLine
spelled_line t = headed_parts t >>= λ p. line_by p.0 p.1

abbrev pub spelled_lines : Plains → Option (List PlainLine)
spelled_lines none = Some []
spelled_lines (more t ts) = spelled_line t >>= λ l. option_map (λ ls. l ∷ ls) (spelled_lines ts)

-- ---- moves

-- one fact
abbrev pub one_fact : Plains → Option ℕ
one_fact ts = single ts >>= spelled_index

-- two facts
abbrev pub two_facts : Plains → Option PlainMove
two_facts ts = couple ts >>= λ p. both both_of (spelled_index p.0) (spelled_index p.1)

-- the rule of one without arguments
abbrev pub bare : Ruled → Option PlainRule
bare p = if length p.1 == 0 then Some p.0 else None

abbrev pub bare_rule : Plain → Option PlainRule
bare_rule t = spelled_rule t >>= bare

abbrev pub term_list : Plain → Option (List PlainTerm)
term_list (atom w) = None
term_list (list ts) = spelled_plain_terms ts

-- a rule and a list of terms
abbrev pub concluding : Plains → Option PlainMove
concluding ts = couple ts >>= λ p. both concluded_by (bare_rule p.0) (term_list p.1)

-- a fact and lines
abbrev pub copying : Plains → Option PlainMove
copying none = None
copying (more t ts) = both after_lines (spelled_index t) (spelled_lines ts)

abbrev pub move_by : List ℕ → Plains → Option PlainMove
move_by w ts =
    if bytes_eq w (codes "left") then option_map left_of (one_fact ts)
    else (if bytes_eq w (codes "right") then option_map right_of (one_fact ts)
    else (if bytes_eq w (codes "join") then two_facts ts
    else (if bytes_eq w (codes "again") then option_map again (one_fact ts)
    else (if bytes_eq w (codes "have") then concluding ts
    else (if bytes_eq w (codes "copy") then copying ts else None)))))

abbrev pub spelled_move : Plain → Option PlainMove
spelled_move t = headed_parts t >>= λ p. move_by p.0 p.1
