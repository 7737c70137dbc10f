use Rattle.sort_hints.proofs.reading.Reader.+read_sort.Given as goal

abbrev pub decreases-read_sort : goal.decreases-read_sort
decreases-read_sort l = l.deep
