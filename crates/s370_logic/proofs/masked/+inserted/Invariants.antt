use Rattle.s370_logic.proofs.masked.+inserted.Given as goal

abbrev pub decreases-inserted : goal.decreases-inserted
decreases-inserted l = l.k
