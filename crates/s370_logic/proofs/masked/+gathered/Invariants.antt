use Rattle.s370_logic.proofs.masked.+gathered.Given as goal

abbrev pub decreases-gathered : goal.decreases-gathered
decreases-gathered l = l.k
