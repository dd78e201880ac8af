use Rattle.kid_prog_tests.proofs.programs.printed.Goals as goal

pub text-requires : goal.text-requires
text-requires c = c.in_ok-program.ensures.loaded.spelled
