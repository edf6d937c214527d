use Rattle.change_ops.specs.declared.size.Size.TheVariants.{Small}
use Rattle.test_scripts.proofs.core_case.play_core.Given as goal

abbrev pub ghosts-on_lists : goal.ghosts-on_lists
ghosts-on_lists g a = record { size = Small; versions = a.versions.now; programs = a.programs.now }
