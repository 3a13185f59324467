use Rattle.s370_state.proofs.packed.+put_low.Given as goal

abbrev pub decreases-put_low : goal.decreases-put_low
decreases-put_low l = l.n
