use Rattle.find_direct.proofs.steps.+steps_under.Given as goal

abbrev pub decreases-steps_under : goal.decreases-steps_under
decreases-steps_under l = l.k
