-- What a step of the program comes to, as plain data.
use Rattle.std.specs.Prelude.{map}
use Rattle.kid_value.specs.ValueView.{plain}
use Rattle.kid_prog.specs.PlainStmt.{PlainStmt, stmt}
use Rattle.kid_prog.specs.PlainProgram.{PlainProgram}
use Rattle.kid_prog.specs.Rules.{setting_of}
use Rattle.kid_run.specs.Frames.{PlainMachine, Move, goes, finds, calls, ends}
use Rattle.kid_run.specs.Scope.{CanRun, FramesCanRun}
use Rattle.kid_run.specs.declared.moves.Move.{Move as Moved}
use Rattle.kid_run.specs.declared.moves.Move.TheVariants.{Goes, Finds, Calls, Ends}

-- the move, where the machine stands so after it
abbrev pub plain_move : Moved → PlainMachine → Move
plain_move Goes m = goes m
plain_move (Finds v) m = finds (plain v) m
plain_move (Calls vs) m = calls (map plain vs.items) m
plain_move Ends m = ends

-- the statement and those of the machine after it can be run
abbrev pub CanDo : PlainProgram → PlainStmt → PlainMachine → Type 0
CanDo p s m = CanRun (setting_of p) m.env (stmt s m.stmts) × FramesCanRun (setting_of p) m.env m.frames
